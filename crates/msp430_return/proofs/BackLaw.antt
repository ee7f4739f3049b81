-- Where RETI goes back, it goes on where the interrupt came.
use Rattle.std.proofs.Common.{◌≡◌, ℕ, ◌+◌, ◌%◌, ◌<◌, ◌==◌, ◌&&◌, Bool, true, Option, None, Some, get_or, refl, sym, ap, ◌∙◌, subst, arith}
use Rattle.std.specs.Prelude.{bit_and, bit_or}
use Rattle.std.specs.Int.Bits.{or_zero_r}
use Rattle.std.proofs.lemmas.Bool.{and_parts, eqb-true, false≢true}
use Rattle.std.proofs.lemmas.List.Elements.{All-get_or}
use Rattle.std.proofs.lemmas.Nat.{and_mask}
use Rattle.plain_lemmas.specs.Members.{in_one}
use Rattle.call_context.specs.declared.node.Frame.{Frame}
use Rattle.call_context.specs.declared.node.Frame.TheVariants.{Base, Irq}
use Rattle.call_context.specs.Nodes.{HasEntry}
use Rattle.entry_value.specs.declared.word.Entry.{Entry}
use Rattle.entry_value.specs.Words.{IsFromEntry, Reads}
use Rattle.value_set.specs.Joining.{is_within}
use Rattle.value_set.specs.Summing.{single}
use Rattle.msp430_decode.specs.declared.instr.Width.TheVariants.{Word as Words}
use Rattle.msp430_chip.specs.declared.device.Device.{Device}
use Rattle.msp430_chip.specs.declared.state.ChipState.{ChipState}
use Rattle.msp430_chip.specs.Leading.{MayReturn}
use Rattle.msp430_chip.specs.Outcome.{Outcome}
use Rattle.msp430_chip.specs.State.{register_of, IsChipState}
use Rattle.msp430_state.specs.Holding.{suspended_of, GoesOn, StandsIn}
use Rattle.msp430_state.specs.Known.{Known, is_interrupt}
use Rattle.msp430_alu.specs.Formats.{IsUnder}
use Rattle.msp430_alu.specs.Memory.{read_known}
use Rattle.msp430_alu.specs.Laws.{MemoryLaws}
use Rattle.msp430_return.specs.Return.{counter_place, goes_back, is_counter, left_of_return}
use Rattle.msp430_return.proofs.ReturnLaw.{counter_left, counter_read, stack_left}

-- a word that came from PC without a mask is PC
counter_is : (f : ChipState) (entry : Option Entry) (v : ℕ) → register_of f 0 < 65536 → is_counter entry ≡ true
    → IsFromEntry (Some (suspended_of f)) entry v
    → v ≡ register_of f 0
counter_is f None v small is holds = absurd (false≢true is)
counter_is f (Some entry) v small is (word, reads, v_is) =
    let outer = and_parts ((entry.place == 0) && (entry.and == 65535)) (entry.or == 0) is in
    let inner = and_parts (entry.place == 0) (entry.and == 65535) outer.0 in
    let place : entry.place ≡ 0 = eqb-true entry.place 0 inner.0 in
    let mask : entry.and ≡ 65535 = eqb-true entry.and 65535 inner.1 in
    let none : entry.or ≡ 0 = eqb-true entry.or 0 outer.1 in
    let here : Reads (suspended_of f) 0 word = subst (λ at. Reads (suspended_of f) at word) place reads in
    let same : word % 65536 ≡ register_of f 0 % 65536 = sym (and_mask word 16) ∙ here.1 ∙ and_mask (register_of f 0) 16 in
    let whole : bit_or (bit_and word 65535) 0 ≡ word % 65536 = or_zero_r (bit_and word 65535) ∙ and_mask word 16 in
    v_is ∙ ap (λ m. bit_or (bit_and word m) entry.or) mask ∙ ap (bit_or (bit_and word 65535)) none ∙ whole ∙ same ∙ omega (arith, small)

goes_on : (laws : MemoryLaws) {device : Device} {framed : Bool} {a : Known} {s : ChipState} (t f : ChipState) (sp : ℕ) {outcome : Outcome ChipState}
    → IsUnder device framed a s (Some f) → IsChipState device f → register_of f 1 ≡ sp
    → is_within 65536 a.sp (single ((sp + 65532) % 65536)) ≡ true
    → is_counter (read_known device a Words (counter_place device a.sp)).entry ≡ true
    → (may : MayReturn device s outcome)
    → t.registers ≡ (left_of_return s may.status may.target).registers → (register_of t 0 ≡ register_of f 0) × (register_of t 1 ≡ sp)
goes_on laws {device} {a} {s} t f sp under suspended came at counter may same =
    let long = under.holds.state.registers in
    let stored = counter_read laws under may in
    let small : register_of f 0 < 65536 = All-get_or (λ r. r < 65536) f.registers 0 0 (omega (arith, suspended.registers)) suspended.words in
    let target : may.target ≡ register_of f 0 = counter_is f (read_known device a Words (counter_place device a.sp)).entry may.target small counter stored.1 in
    let no_bit : register_of f 0 % 2 ≡ 0 = suspended.even_pc in
    let low : register_of f 1 < 65536 = All-get_or (λ r. r < 65536) f.registers 1 0 (omega (arith, suspended.registers)) suspended.words in
    let before : register_of s 1 ≡ (sp + 65532) % 65536 =
    sym (in_one ((sp + 65532) % 65536) (register_of s 1) ((laws.known.sets.tested 65536 a.sp (single ((sp + 65532) % 65536))).0 at (register_of s 1) under.holds.parts.sp)) in (
      ap (λ list. get_or list 0 0) same ∙ counter_left s may.status may.target long ∙ omega (arith, target, no_bit),
      ap (λ list. get_or list 1 0) same ∙ stack_left s may.status may.target long ∙ omega (arith, before, low, came),
    )

pub back_law : (laws : MemoryLaws) (device : Device) (framed : Bool) (a : Known) (s t : ChipState) (first : Option ChipState) (frame : Frame) (outcome : Outcome ChipState)
    → IsUnder device framed a s first → StandsIn frame first → goes_back device frame a ≡ true → (may : MayReturn device s outcome)
    → t.registers ≡ (left_of_return s may.status may.target).registers → GoesOn frame t first
unfolding goes_back
back_law laws device framed a s t first Base outcome under stands back may same = absurd (false≢true back)
back_law laws device framed a s t first (Irq vector None level) outcome under stands back may same = absurd (false≢true back)
back_law laws device framed a s t None (Irq vector (Some sp) level) outcome under stands back may same = absurd stands
back_law laws device framed a s t (Some f) (Irq vector (Some sp) level) outcome under stands back may same =
    let both = and_parts (is_within 65536 a.sp (single ((sp + 65532) % 65536))) (is_counter (read_known device a Words (counter_place device a.sp)).entry) back in
    goes_on laws t f sp under under.holds.suspended stands both.0 both.1 may same

pub back_base : (device : Device) (frame : Frame) (a : Known) → goes_back device frame a ≡ true
    → (is_interrupt frame ≡ true) × HasEntry frame
unfolding goes_back
back_base device Base a back = absurd (false≢true back)
back_base device (Irq vector None level) a back = absurd (false≢true back)
back_base device (Irq vector (Some sp) level) a back = (refl, tt)
