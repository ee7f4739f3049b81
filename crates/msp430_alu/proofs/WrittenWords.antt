-- What is written: a byte result is below 100h.
use Rattle.std.proofs.Common.{◌≡◌, ℕ, ◌<◌, Option, arith}
use Rattle.entry_value.specs.declared.word.Entry.{Entry}
use Rattle.entry_value.specs.declared.word.Word.{Word}
use Rattle.value_set.specs.declared.form.Form.{Form}
use Rattle.value_set.specs.Form.{Has, IsNormal}
use Rattle.value_bits.specs.declared.tri.Tri.{Tri}
use Rattle.msp430_decode.specs.declared.instr.Operation.{Operation}
use Rattle.msp430_decode.specs.declared.instr.SingleOperation.{SingleOperation}
use Rattle.msp430_decode.specs.declared.instr.Width.{Width}
use Rattle.msp430_decode.specs.declared.instr.Width.TheVariants.{Word as Words, Byte}
use Rattle.msp430_chip.specs.Arithmetic.{modulus}
use Rattle.msp430_chip.specs.Memory.{size_of}
use Rattle.msp430_results.specs.Words.{values_of, written_word}
use Rattle.msp430_results.specs.InstructionLaws.{InstructionLaws}
use Rattle.msp430_results.specs.Results.{HasWidth, double_made, single_made, twice_flags}

values_normal : (laws : InstructionLaws) (width : Width) (word : Word) → IsNormal 65536 word.set → IsNormal (modulus width) (values_of width word)
values_normal laws Words word normal = normal
values_normal laws Byte word normal = laws.known.bits.low_normal word.set normal

-- a byte result is below 100h
pub written_byte : (laws : InstructionLaws) (width : Width) (set : Form) (entry : Option Entry) → IsNormal (modulus width) set
    → size_of width ≡ 1 → (v : ℕ)
    → Has 65536 (written_word width set entry).set v → v < 256
written_byte laws Words set entry normal e v has = absurd (omega (arith, e))
written_byte laws Byte set entry normal e v has = laws.known.bits.pair_byte set v normal has

pub double_byte : (laws : InstructionLaws) (done : Operation) (width : Width) (one other : Word) (carry : Tri) (entry : Option Entry)
    → IsNormal 65536 one.set → IsNormal 65536 other.set
    → size_of width ≡ 1
    → (v : ℕ)
    → Has 65536 (written_word width (double_made done width (values_of width one) (values_of width other) carry).0 entry).set v
    → v < 256
double_byte laws done width one other carry entry h k =
    written_byte laws width (double_made done width (values_of width one) (values_of width other) carry).0 entry
    (laws.results.double_normal done width (values_of width one) (values_of width other) carry (values_normal laws width one h) (values_normal laws width other k))

pub twice_byte : (laws : InstructionLaws) (width : Width) (word : Word) (entry : Option Entry) → IsNormal 65536 word.set → size_of width ≡ 1
    → (v : ℕ) → Has 65536 (written_word width (twice_flags width (values_of width word)).0 entry).set v → v < 256
twice_byte laws width word entry h =
    written_byte laws width (twice_flags width (values_of width word)).0 entry (laws.results.twice_normal width (values_of width word) (values_normal laws width word h))

pub single_byte : (laws : InstructionLaws) (done : SingleOperation) (width : Width) (word : Word) (carry : Tri) (entry : Option Entry)
    → HasWidth done width → IsNormal 65536 word.set
    → size_of width ≡ 1
    → (v : ℕ) → Has 65536 (written_word width (single_made done width (values_of width word) carry).0 entry).set v → v < 256
single_byte laws done width word carry entry fits h =
    written_byte laws width (single_made done width (values_of width word) carry).0 entry
    (laws.results.single_normal done width (values_of width word) carry fits (values_normal laws width word h))
