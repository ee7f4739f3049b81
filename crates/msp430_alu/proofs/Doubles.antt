-- Instructions with two operands: what they leave stands under what is known behind them.
use Rattle.std.proofs.Common.{◌≡◌, ℕ, zero, suc, ◌+◌, ◌*◌, ◌%◌, ◌<◌, true, Option, None, List, [], ◌∷◌, get_or, refl, sym, ap, ◌∙◌, subst, inl, inr, arith}
use Rattle.std.specs.Prelude.{◌⊎◌}
use Rattle.std.proofs.lemmas.Bool.{cond-true, cond-false, eqb-true}
use Rattle.entry_value.specs.declared.word.Entry.{Entry}
use Rattle.entry_value.specs.Words.{Suspended, IsFromEntry}
use Rattle.value_set.specs.declared.form.Form.{Form}
use Rattle.value_set.specs.Form.{Has}
use Rattle.value_set.specs.Joining.{join}
use Rattle.value_set.specs.Summing.{single}
use Rattle.value_bits.specs.Sets.{pair_set}
use Rattle.msp430_decode.specs.declared.instr.Destination.{Destination}
use Rattle.msp430_decode.specs.declared.instr.Register.{Register}
use Rattle.msp430_decode.specs.declared.instr.Register.TheVariants.{Pc, Sp, Sr, R3, R4, R5, R6, R7, R8, R9, R10, R11, R12, R13, R14, R15}
use Rattle.msp430_decode.specs.declared.instr.Source.{Source}
use Rattle.msp430_decode.specs.declared.instr.Width.{Width}
use Rattle.msp430_decode.specs.declared.instr.Width.TheVariants.{Word as Words, Byte}
use Rattle.msp430_decode.specs.Codes.{number}
use Rattle.msp430_chip.specs.declared.state.ChipState.{ChipState}
use Rattle.msp430_chip.specs.Arithmetic.{modulus}
use Rattle.msp430_chip.specs.Leading.{MayCount}
use Rattle.msp430_chip.specs.Leading.MayCount.{Behind, Within}
use Rattle.msp430_chip.specs.State.{register_of}
use Rattle.msp430_chip.specs.Step.{reads_counter}
use Rattle.msp430_results.specs.FlagSets.{IsResult}
use Rattle.msp430_alu.specs.Formats.{counter_set, is_one_register}
use Rattle.msp430_results.specs.Words.{written_word}
use Rattle.msp430_results.specs.InstructionLaws.{InstructionLaws}
use Rattle.msp430_alu.specs.NumberFacts.{join_first_is, join_second_is, single_is}
use Rattle.msp430_alu.proofs.Putting.{IsWritten}

-- PC AS IT COUNTS

pub two_options : (option : ℕ) → option < 2 → (option ≡ 0) ⊎ (option ≡ 1)
two_options zero h = inl refl
two_options (suc zero) h = inr refl
two_options (suc (suc n)) h = absurd (omega arith)

pub counter_is : (laws : InstructionLaws) (s : ChipState) (len : ℕ) (origin : Source) (target : Destination) (counted : ℕ)
    → MayCount s len origin target counted
    → IsResult 65536 (counter_set (register_of s 0) len origin target) counted
counter_is laws s len origin target counted (Behind other e) =
    let pc = register_of s 0 in
    let after = (pc + len) % 65536 in
    subst (IsResult 65536 (counter_set pc len origin target)) (sym e)
    (subst (λ set_so. IsResult 65536 set_so after) (sym (cond-false (reads_counter origin target) _ (single after) other)) (single_is laws.known 65536 after (omega arith)))
counter_is laws s len origin target counted (Within reads option few e) =
    let pc = register_of s 0 in
    let one = (pc + 2) % 65536 in
    let two = (pc + 4) % 65536 in
    let one_is = single_is laws.known 65536 one (omega arith) in
    let two_is = single_is laws.known 65536 two (omega arith) in
    subst (λ set_so. IsResult 65536 set_so counted) (sym (cond-true (reads_counter origin target) (join 65536 (single one) (single two)) (single ((pc + len) % 65536)) reads))
    (elim (two_options option few) [
      | inl none ↦ let is : one ≡ counted = sym (e ∙ ap (λ n. (pc + 2 + 2 * n) % 65536) none ∙ ap (λ n. n % 65536) (omega arith)) in
          subst (IsResult 65536 (join 65536 (single one) (single two))) is (join_first_is laws.known 65536 one (single one) (single two) one_is two_is.normal)
      | inr some ↦ let is : two ≡ counted = sym (e ∙ ap (λ n. (pc + 2 + 2 * n) % 65536) some ∙ ap (λ n. n % 65536) (omega arith)) in
          subst (IsResult 65536 (join 65536 (single one) (single two))) is (join_second_is laws.known 65536 two (single one) (single two) one_is.normal two_is)
    ])

-- RESULTS AS WORDS

byte_word : (laws : InstructionLaws) (first : Option Suspended) {set_so : Form} {v : ℕ} → IsResult 256 set_so v
    → IsWritten first Byte (record { set = pair_set set_so (single 0); entry = None }) v
byte_word laws first {set_so} {v} is =
    let none = single_is laws.known 256 0 (omega arith) in
    let same : v + 0 * 256 ≡ v = omega arith in
    record {
      held = record {
        normal = laws.known.bits.pair_normal set_so (single 0) is.normal none.normal;
        holds = (subst (Has 65536 (pair_set set_so (single 0))) same (laws.known.bits.pair v 0 set_so (single 0) is.normal none.normal is.has none.has), tt);
      };
      byte = λ e n h. laws.known.bits.pair_byte set_so n is.normal h;
    }

pub written_is : (laws : InstructionLaws) (first : Option Suspended) (width : Width) {set_so : Form} (entry : Option Entry) {v : ℕ}
    → IsResult (modulus width) set_so v
    → (width ≡ Words → IsFromEntry first entry v)
    → IsWritten first width (written_word width set_so entry) v
written_is laws first Words entry is from = record { held = record { normal = is.normal; holds = (is.has, from refl) }; byte = λ e. absurd (omega (arith, e)) }
written_is laws first Byte entry is from = byte_word laws first is

-- ADD OF A REGISTER TO ITSELF

all_registers : List Register
all_registers = Pc ∷ Sp ∷ Sr ∷ R3 ∷ R4 ∷ R5 ∷ R6 ∷ R7 ∷ R8 ∷ R9 ∷ R10 ∷ R11 ∷ R12 ∷ R13 ∷ R14 ∷ R15 ∷ []

by_number : (register : Register) → get_or all_registers (number register) Pc ≡ register
unfolding all_registers
by_number Pc = refl
by_number other = refl

pub one_register : (a b : Register) → is_one_register a b ≡ true → a ≡ b
one_register a b e = sym (by_number a) ∙ ap (λ n. get_or all_registers n Pc) (eqb-true (number a) (number b) e) ∙ by_number b
