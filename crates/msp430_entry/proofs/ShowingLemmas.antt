-- What an entry does is shown, and a store that hits the program is at one of the addresses of its slots.
use Rattle.std.proofs.Common.{◌≡◌, ℕ, ◌+◌, ◌%◌, ◌<◌, Bool, Option, Some, None, List, [], ◌∷◌, refl, subst, inl, inr, arith, Contains}
use Rattle.std.specs.Prelude.{◌⊎◌, true}
use Rattle.call_context.specs.Showing.{AreShowing, Shows}
use Rattle.chip_numbers.specs.Single.{Single}
use Rattle.chip_numbers.specs.Single.Single.{Access, Edge}
use Rattle.call_context.specs.declared.shown.Item.{Item}
use Rattle.call_context.specs.declared.shown.Item.TheVariants as shown_items
use Rattle.call_context.specs.declared.shown.Set.TheVariants.{W}
use Rattle.chip_numbers.specs.declared.space.Space.TheVariants.{Mem}
use Rattle.value_set.specs.declared.form.Form.{Form}
use Rattle.value_set.specs.Form.{Has}
use Rattle.value_set.specs.Summing.{add, single}
use Rattle.msp430_decode.specs.declared.instr.Width.TheVariants.{Word as Words}
use Rattle.msp430_chip.specs.declared.device.Device.{Device}
use Rattle.msp430_chip.specs.declared.state.ChipState.{ChipState}
use Rattle.msp430_chip.specs.Interrupts.{first_hit, handler_of}
use Rattle.msp430_chip.specs.Memory.{aligned, program_hit, HasRam}
use Rattle.msp430_chip.specs.State.{register_of}
use Rattle.msp430_state.specs.Forms.{AreEvenWords}
use Rattle.msp430_state.specs.Known.{Known}
use Rattle.msp430_alu.specs.Formats.{AreShown, IsHit, IsUnder}
use Rattle.msp430_alu.specs.Memory.{located}
use Rattle.msp430_entry.specs.declared.coming.Coming.{Coming}
use Rattle.msp430_entry.specs.Entry.{ComesSo, counter_slot, entry_items, entry_shows, status_slot}
use Rattle.msp430_entry.proofs.ComingLemmas.{is_listed}
use Rattle.msp430_alu.specs.Laws.{MemoryLaws}
use Rattle.msp430_entry.proofs.EntryLemmas.{slot_has, slot_words}
use Rattle.plain_lemmas.specs.Members.{in_cons, in_first, in_none, in_rest}

abbrev show_of : (pc : ℕ) → Form → Item
show_of pc set = shown_items.Access pc Mem true 2 (W set)

shown_by : (items : List Item) (item : Item) (one : Single) → Contains items item → Shows item one → AreShowing items one
shown_by items item one there shows = (item, there, shows)

-- a push is at one of the addresses of its slot
slot_located : (laws : MemoryLaws) (device : Device) (sp : Form) (offset v : ℕ) → HasRam device → AreEvenWords sp
    → offset < 65536 → offset % 2 ≡ 0 → Has 65536 sp v
    → Has 65536 (located device Words (add 65536 sp (single offset))) (aligned device Words ((v + offset) % 65536))
slot_located laws device sp offset v is words small no_bit has =
    laws.words.located device (add 65536 sp (single offset)) ((v + offset) % 65536) is (slot_words laws sp offset words small no_bit).normal (slot_has laws sp offset v words small has)

pub shown : (laws : MemoryLaws) (device : Device) (framed : Bool) (a : Known) (s : ChipState) (first : Option ChipState) (coming_so : Coming)
    → IsUnder device framed a s first → ComesSo device a s coming_so
    → AreShown (entry_items device (register_of s 0) coming_so) (entry_shows device s coming_so.vector)
shown laws device framed a s first coming_so under so one there =
    let pc = register_of s 0 in
    let words = (is_listed laws device framed a coming_so under.form so.listed).words in
    let items = entry_items device pc coming_so in
    let counter = show_of pc (counter_slot device coming_so.sp) in
    let status = show_of pc (status_slot device coming_so.sp) in
    let edge = shown_items.Edge pc (handler_of device coming_so.vector) in
    let counter_at = aligned device Words ((register_of s 1 + 65534) % 65536) in
    let status_at = aligned device Words ((register_of s 1 + 65532) % 65536) in
    let last : List Single = Edge pc (handler_of device coming_so.vector) ∷ [] in
    let rest : List Single = Access pc Mem true 2 status_at ∷ last in
    elim (in_cons (Access pc Mem true 2 counter_at) rest one there) [
      | inl same ↦ subst (AreShowing items) same
          (shown_by items counter (Access pc Mem true 2 counter_at) (in_first counter (status ∷ edge ∷ []))
          (refl, refl, refl, refl, slot_located laws device coming_so.sp 65534 (register_of s 1) under.device_so.ram words (omega arith) refl so.at))
      | inr later ↦ elim (in_cons (Access pc Mem true 2 status_at) last one later) [
        | inl same ↦ subst (AreShowing items) same
            (shown_by items status (Access pc Mem true 2 status_at) (in_rest counter (status ∷ edge ∷ []) status (in_first status (edge ∷ [])))
            (refl, refl, refl, refl, slot_located laws device coming_so.sp 65532 (register_of s 1) under.device_so.ram words (omega arith) refl so.at))
        | inr end ↦ elim (in_cons (Edge pc (handler_of device coming_so.vector)) [] one end) [
          | inl same ↦ subst (AreShowing items) same
              (shown_by items edge (Edge pc (handler_of device coming_so.vector))
              (in_rest counter (status ∷ edge ∷ []) edge (in_rest status (edge ∷ []) edge (in_first edge []))) (refl, refl))
          | inr none ↦ absurd (in_none one none)
        ]
      ]
    ]

-- STORES

slot_hit : (laws : MemoryLaws) (device : Device) (s : ChipState) (sp : Form) (offset at : ℕ) → HasRam device
    → AreEvenWords sp → offset < 65536 → offset % 2 ≡ 0
    → Has 65536 sp (register_of s 1) → program_hit device Words ((register_of s 1 + offset) % 65536) ≡ Some at
    → IsHit device Words (Some (located device Words (add 65536 sp (single offset)))) at
slot_hit laws device s sp offset at is words small no_bit has hits =
    (aligned device Words ((register_of s 1 + offset) % 65536), slot_located laws device sp offset (register_of s 1) is words small no_bit has, hits)

one_hit : (one other : Option ℕ) (at : ℕ) → first_hit one other ≡ Some at → (one ≡ Some at) ⊎ (other ≡ Some at)
one_hit None other at e = inr e
one_hit (Some first) other at e = inl e

pub hit : (laws : MemoryLaws) (device : Device) (framed : Bool) (a : Known) (s : ChipState) (first : Option ChipState) (coming_so : Coming) (at : ℕ)
    → IsUnder device framed a s first → ComesSo device a s coming_so
    → first_hit (program_hit device Words ((register_of s 1 + 65534) % 65536)) (program_hit device Words ((register_of s 1 + 65532) % 65536)) ≡ Some at
    → IsHit device Words (Some (counter_slot device coming_so.sp)) at ⊎ IsHit device Words (Some (status_slot device coming_so.sp)) at
hit laws device framed a s first coming_so at under so hits =
    let words = (is_listed laws device framed a coming_so under.form so.listed).words in
    let sp = register_of s 1 in
    elim (one_hit (program_hit device Words ((sp + 65534) % 65536)) (program_hit device Words ((sp + 65532) % 65536)) at hits) [
      | inl counter ↦ inl (slot_hit laws device s coming_so.sp 65534 at under.device_so.ram words (omega arith) refl so.at counter)
      | inr status ↦ inr (slot_hit laws device s coming_so.sp 65532 at under.device_so.ram words (omega arith) refl so.at status)
    ]
