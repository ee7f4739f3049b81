-- The law of instructions with one operand, along their stages.
use Rattle.std.proofs.Common.{◌≡◌, ℕ, ◌%◌, ◌<◌, Bool, false, Option, None, List, get_or, refl, sym, ◌∙◌, subst, arith, get_or-set_same}
use Rattle.std.specs.Option.{option_map}
use Rattle.std.proofs.lemmas.Bool.{and_parts, false≢true}
use Rattle.value_set.specs.Summing.{single}
use Rattle.msp430_decode.specs.declared.instr.Register.TheVariants.{Sr}
use Rattle.msp430_decode.specs.declared.instr.SingleOperation.{SingleOperation}
use Rattle.msp430_decode.specs.declared.instr.Source.{Source}
use Rattle.msp430_decode.specs.declared.instr.Source.TheVariants as source
use Rattle.msp430_decode.specs.declared.instr.Width.{Width}
use Rattle.msp430_decode.specs.Operands.{IsSource}
use Rattle.msp430_chip.specs.declared.device.Device.{Device}
use Rattle.msp430_chip.specs.declared.state.ChipState.{ChipState}
use Rattle.msp430_chip.specs.Arithmetic.{single_sets_flags}
use Rattle.msp430_chip.specs.Leading.{MaySingle, at_source, behind_source, origin_of}
use Rattle.msp430_chip.specs.Leading.MayLeaveSingle.{FreeStatus, OfResult}
use Rattle.msp430_chip.specs.Outcome.{Outcome}
use Rattle.msp430_chip.specs.Operands.{source_place, with_free_bits, is_status}
use Rattle.msp430_chip.specs.State.{register_of}
use Rattle.msp430_chip.specs.Step.{behind}
use Rattle.msp430_state.specs.Holding.{suspended_of}
use Rattle.msp430_state.specs.Known.{Known}
use Rattle.msp430_alu.specs.Formats.{carry_of, put_known, next_by, single_worked, LeavesStatusAlone, IsUnder, IsLeft}
use Rattle.msp430_results.specs.Words.{values_of, written_word}
use Rattle.msp430_alu.specs.Operands.{source_reach, grown_known, operand_word}
use Rattle.msp430_results.specs.InstructionLaws.{InstructionLaws}
use Rattle.msp430_alu.specs.Registers.{with_flag_bits}
use Rattle.msp430_results.specs.Results.{single_made, HasWidth}
use Rattle.msp430_alu.proofs.DoubleLaw.{carry_bit, flags_put}
use Rattle.msp430_alu.proofs.Doubles.{written_is}
use Rattle.msp430_alu.proofs.Growth.{behind_is, way, grown_pc}
use Rattle.msp430_alu.proofs.OperandLemmas.{operand_held}
use Rattle.msp430_alu.proofs.Putting.{IsReady, put_is}
use Rattle.msp430_alu.proofs.WorkedForms.{single_forms}

no_status : (pc : ℕ) (registers : List ℕ) (operand : Source) → LeavesStatusAlone operand
    → is_status (source_place pc registers operand) ≡ false
no_status pc registers (source.Register Sr) leaves = absurd leaves
no_status pc registers other leaves = refl

pub single_law : (laws : InstructionLaws) {device : Device} {framed : Bool} {a : Known} {s : ChipState} {first : Option ChipState} {len : ℕ} {done : SingleOperation} {width : Width}
    {operand : Source} {outcome : Outcome ChipState}
    → IsUnder device framed a s first → IsSource operand → LeavesStatusAlone operand → HasWidth done width
    → (may : MaySingle device s len done width operand outcome)
    → let worked = single_worked device framed a (register_of s 0) len done width operand in IsLeft device worked.after first worked.next may.left
unfolding single_worked
single_law laws {device} {framed} {a} {s} {first} {len} {done} {width} {operand} {outcome} under from_so leaves fits may =
    let pc = register_of s 0 in
    let counted = behind s len in
    let small : counted < 65536 = omega arith in
    let counted_so = single counted in
    let way = way laws under (behind_is laws s len) width operand from_so in
    let grown_so = grown_known a counted_so width operand in
    let from = source_reach pc a counted_so operand in
    let one = operand_word device a counted_so width from in
    let stands = origin_of s counted operand in
    let none = no_status pc (at_source s counted) operand leaves in
    let held = operand_held laws way.on under.device_so width from stands may.x may.bits way.source may.reads may.free.below in
    let made_set = single_made done width (values_of width one) (carry_of a) in
    let word = written_word width made_set.0 None in
    let stored : get_or (at_source s counted) 0 0 ≡ counted = get_or-set_same s.registers 0 counted 0 (omega (arith, way.on.are.count)) in
    let ready : IsReady device framed grown_so first (behind_source s counted width operand) s.ram counted =
    let at = grown_pc laws (at_source s counted) width operand from_so ∙ stored in
    assumption (at, small, way.behind, under) in
    let forms = single_forms laws under.device_so under.form pc len done width operand from_so fits in
    let put_so = put_known device framed grown_so width from word in
    elim may.leaves [
      | FreeStatus free freed ↦ absurd (false≢true (sym none ∙ (and_parts (single_sets_flags done) (is_status stands) free).1))
      | OfResult other made_so makes is ↦
          let made_is = laws.results.single done width (with_free_bits width stands may.bits may.x) (register_of s 2 % 2) (values_of width one)
          (carry_of a) made_so fits held.values (carry_bit under) makes in
          let written = written_is laws (option_map suspended_of first) width None (record { normal = made_is.normal; has = made_is.result }) (λ e. tt) in
          let put_so_is = put_is laws ready from stands way.source none written in
          subst (IsLeft device (with_flag_bits put_so made_set.1) first (next_by from word counted)) (sym is) (flags_put forms.put made_is put_so_is)
    ]
