-- What holds of the operations on sets. Proofs above take these laws from one record.
use Rattle.msp430_chip.specs.Arithmetic.{Made, modulus, sum}
use Rattle.msp430_chip.specs.Leading.{MayMake, MayMakeSingle}
use Rattle.msp430_decode.specs.declared.instr.Operation.{Operation}
use Rattle.msp430_decode.specs.declared.instr.SingleOperation.{SingleOperation}
use Rattle.msp430_decode.specs.declared.instr.Width.{Width}
use Rattle.msp430_results.specs.FlagSets.{HoldsOfMade, IsResult}
use Rattle.msp430_results.specs.Results.{HasWidth, double_made, single_made, twice_flags}
use Rattle.std.specs.Prelude.{ℕ}
use Rattle.value_bits.specs.Bits.{IsBit}
use Rattle.value_bits.specs.declared.tri.Tri.{Tri}
use Rattle.value_set.specs.Form.{IsNormal}
use Rattle.value_set.specs.declared.form.Form.{Form}

-- Each operation: where the operands' sets have the values, the set of results has the result that the chip may make, and
-- what is known of the flags holds of those that it sets. The sets of results are in normal form.
pub record OperationLaws : Type 0 where
  pub double : (done : Operation) (width : Width) (s d carry : ℕ) (a b : Form) (c : Tri) (made_so : Made)
      → IsResult (modulus width) a s → IsResult (modulus width) b d → IsBit c carry
      → MayMake done width s d carry made_so → HoldsOfMade width (double_made done width a b c) made_so
  pub double_normal : (done : Operation) (width : Width) (a b : Form) (c : Tri) → IsNormal (modulus width) a
      → IsNormal (modulus width) b → IsNormal (modulus width) (double_made done width a b c).0
  pub twice : (width : Width) (x : ℕ) (a : Form) → IsResult (modulus width) a x
      → HoldsOfMade width (twice_flags width a) (sum width x x 0)
  pub twice_normal : (width : Width) (a : Form) → IsNormal (modulus width) a
      → IsNormal (modulus width) (twice_flags width a).0
  pub single : (done : SingleOperation) (width : Width) (x carry : ℕ) (a : Form) (c : Tri) (made_so : Made)
      → HasWidth done width → IsResult (modulus width) a x → IsBit c carry → MayMakeSingle done width x carry made_so
      → HoldsOfMade width (single_made done width a c) made_so
  pub single_normal : (done : SingleOperation) (width : Width) (a : Form) (c : Tri) → HasWidth done width
      → IsNormal (modulus width) a → IsNormal (modulus width) (single_made done width a c).0
