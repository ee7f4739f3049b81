-- A bit of a byte is changed, and the result is a byte.
use Rattle.std.specs.Prelude.{ℕ, ◌%◌}
use Rattle.std.specs.Int.{bit_at}
use Rattle.std.proofs.Common.{arith}
use Rattle.value_set.specs.Operations.{StaysBelow}
use Rattle.mcs51_decode.specs.declared.instr.BitOperation.{BitOperation}
use Rattle.mcs51_chip.specs.Arithmetic.{bit_after}
use Rattle.mcs51_chip.specs.NumberFacts.{bit_after_below, bit_put}
use Rattle.mcs51_results.specs.StatusBytes.{bit_answer}

pub bit_stays : (operation : BitOperation) (at : ℕ) → StaysBelow 256 (bit_answer operation at)
bit_stays operation at x y z h k l =
    bit_put x (at % 8) (bit_after operation (z % 2) (bit_at x (at % 8))) (omega arith) h (bit_after_below operation (z % 2) (bit_at x (at % 8)) (omega arith))
