-- Where RETI goes back to the state that an interrupt suspended.
use Rattle.std.proofs.Common.{◌≡◌, ℕ, ◌+◌, ◌/◌, ◌%◌, ◌<◌, ◌==◌, Bool, true, Option, None, Some, [], refl, sym, ◌∙◌, subst, inl, inr, arith}
use Rattle.std.specs.Prelude.{◌&&◌, bit_and, bit_or}
use Rattle.std.specs.Int.Bits.{or_zero_r}
use Rattle.std.proofs.lemmas.Bool.{and_parts, eqb-true}
use Rattle.std.proofs.lemmas.List.Elements.{Contains-push_cases}
use Rattle.std.proofs.lemmas.Nat.{and_mask}
use Rattle.call_context.specs.Nodes.{HasEntry}
use Rattle.call_context.specs.declared.node.Frame.{Frame}
use Rattle.call_context.specs.declared.node.Frame.TheVariants.{Base, Irq}
use Rattle.entry_value.specs.declared.word.Entry.{Entry}
use Rattle.entry_value.specs.Words.{IsFromEntry}
use Rattle.value_set.specs.Form.{Has}
use Rattle.value_set.specs.Summing.{single}
use Rattle.mcs51_chip.specs.declared.state.ChipState.{ChipState}
use Rattle.mcs51_chip.specs.Interrupts.{level_ended}
use Rattle.mcs51_chip.specs.Memory.{popped, top_of}
use Rattle.mcs51_chip.specs.Step.{returned}
use Rattle.mcs51_state.specs.Holding.{GoesOn, StandsIn}
use Rattle.mcs51_state.specs.Known.{Known, is_interrupt}
use Rattle.mcs51_state.specs.Places.{suspended_of}
use Rattle.mcs51_state.specs.Under.{IsUnder}
use Rattle.mcs51_results.specs.InstructionLaws.{InstructionLaws}
use Rattle.mcs51_control.specs.Returning.{goes_back, high_byte, is_behind_entry, is_counter, low_byte}
use Rattle.mcs51_control.proofs.Levels.{ended_pc, ended_sp}
use Rattle.mcs51_control.proofs.Tops.{high_holds, low_holds}

-- the only number of a set of one
only_one : (n v : ℕ) → Has 256 (single n) v → v ≡ n
only_one n v h = elim (Contains-push_cases [] n v h) [ inl none ↦ absurd (omega (arith, none.1)) | inr same ↦ sym same ]

-- a place that holds all bits of a byte
whole_byte : (f : ChipState) (place v : ℕ) (entry : Entry) → entry.place ≡ place → entry.and ≡ 255 → entry.or ≡ 0
    → (suspended_of f).held place ≡ 65535
    → (suspended_of f).number place < 256
    → IsFromEntry (Some (suspended_of f)) (Some entry) v → v ≡ (suspended_of f).number place
whole_byte f place v entry at masked whole held small (word, (below, reads), is) =
    let n = (suspended_of f).number place in
    let wide : bit_and word 65535 ≡ word = and_mask word 16 ∙ omega (arith, below) in
    let own : bit_and n 65535 ≡ n = and_mask n 16 ∙ omega (arith, small) in
    let reads_so : bit_and word 65535 ≡ bit_and n 65535 = rw (at, held) at reads in
    let same : word ≡ n = sym wide ∙ reads_so ∙ own in
    let low : bit_and word 255 ≡ word % 256 = and_mask word 8 in
    let made : v ≡ bit_or (bit_and word 255) 0 = rw (masked, whole) at is in
    made ∙ or_zero_r (bit_and word 255) ∙ low ∙ omega (arith, same, small)

counter_byte : (f : ChipState) (place v : ℕ) (entry : Option Entry) → is_counter place entry ≡ true
    → (suspended_of f).held place ≡ 65535 → (suspended_of f).number place < 256
    → IsFromEntry (Some (suspended_of f)) entry v → v ≡ (suspended_of f).number place
counter_byte f place v None is held small from = absurd (cc)
counter_byte f place v (Some entry) is held small from =
    let both = and_parts ((entry.place == place) && (entry.and == 255)) (entry.or == 0) is in
    let first_two = and_parts (entry.place == place) (entry.and == 255) both.0 in
    whole_byte f place v entry (eqb-true entry.place place first_two.0) (eqb-true entry.and 255 first_two.1) (eqb-true entry.or 0 both.1) held small from

pub back_so : (laws : InstructionLaws) (framed : Bool) (a : Known) (s : ChipState) (first : Option ChipState) (frame : Frame)
    → IsUnder framed a s first → StandsIn frame first
    → goes_back framed frame a ≡ true → GoesOn frame (level_ended (returned s)) first
unfolding goes_back
back_so laws framed a s first Base under stands goes = absurd (cc)
back_so laws framed a s first (Irq vector None level) under stands goes = absurd (cc)
back_so laws framed a s None (Irq vector (Some sp) level) under stands goes = absurd stands
back_so laws framed a s (Some f) (Irq vector (Some sp) level) under stands goes =
    let both = and_parts (is_behind_entry a.sp sp && is_counter 513 (high_byte framed a).entry) (is_counter 512 (low_byte framed a).entry) goes in
    let first_two = and_parts (is_behind_entry a.sp sp) (is_counter 513 (high_byte framed a).entry) both.0 in
    let suspended = under.holds.suspended in
    let counter = suspended.pc in
    let came = suspended.sp in
    let high : top_of s ≡ f.pc / 256 = counter_byte f 513 (top_of s) (high_byte framed a).entry first_two.1 refl (omega (arith, counter)) (high_holds laws framed a s (Some f) under).1 in
    let low : top_of (popped s) ≡ f.pc % 256 = counter_byte f 512 (top_of (popped s)) (low_byte framed a).entry both.1 refl (omega arith) (low_holds laws framed a s (Some f) under).1 in
    let at : s.sp ≡ (sp + 2) % 256 = only_one ((sp + 2) % 256) s.sp ((laws.known.sets.tested 256 a.sp (single ((sp + 2) % 256))).0 first_two.0 s.sp under.holds.parts.sp) in
    let small : sp < 256 = subst (λ n. n < 256) stands came in (
      ended_pc (returned s) ∙ omega (arith, high, low),
      ended_sp (returned s) ∙ omega (arith, at, small),
    )

pub base_so : (framed : Bool) (frame : Frame) (a : Known) → goes_back framed frame a ≡ true → (is_interrupt frame ≡ true) × HasEntry frame
unfolding goes_back
base_so framed Base a goes = absurd (cc)
base_so framed (Irq vector None level) a goes = absurd (cc)
base_so framed (Irq vector (Some sp) level) a goes = (refl, tt)
