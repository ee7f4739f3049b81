-- What a step that keeps promises tells of the store that it makes, or would make.
use Rattle.std.proofs.Common.{◌≡◌, ◌⊎◌, ℕ, ◌+◌, ◌-◌, ◌%◌, ◌++◌, Bool, true, false, Option, None, Some, List, [], ◌∷◌, refl, sym, ap, ◌∙◌, subst, inl, inr, arith, Contains}
use Rattle.std.specs.Prelude.{slice_index}
use Rattle.std.specs.List.{list_all}
use Rattle.std.proofs.lemmas.Bool.{and_parts}
use Rattle.std.proofs.lemmas.List.Elements.{All-contains, Contains-append_left}
use Rattle.std.proofs.lemmas.List.Sums.{AllPass-from_list_all}
use Rattle.chip_numbers.specs.Single.{Single}
use Rattle.chip_numbers.specs.Single.Single.{Access, Edge, Instr as Ran, Stack}
use Rattle.chip_numbers.specs.declared.space.Space.TheVariants.{Mem}
use Rattle.choosing.specs.Outcome.Outcome.{Next, Wild as Leaves}
use Rattle.msp430_decode.specs.Table.{bytes_of}
use Rattle.msp430_decode.specs.declared.instr.Instr.{Instr}
use Rattle.msp430_decode.specs.declared.instr.Width.{Width}
use Rattle.msp430_decode.specs.declared.instr.Width.TheVariants.{Word, Byte}
use Rattle.msp430_chip.specs.declared.device.Device.{Device}
use Rattle.msp430_chip.specs.declared.state.ChipState.{ChipState}
use Rattle.msp430_chip.specs.declared.state.Wild.TheVariants.{Store as WroteProgram}
use Rattle.msp430_chip.specs.Memory.{aligned, canon_by, first_of, hit_at, is_program, program_hit, size_of}
use Rattle.msp430_chip.specs.Outcome.{Outcome, unless_hit}
use Rattle.msp430_chip.specs.State.{allows_interrupts, even, register_of}
use Rattle.msp430_chip.specs.Step.{Left, done}
use Rattle.msp430_kept.specs.Keeping.{IsKept, keeps_store, stands_in}
use Rattle.msp430_kept.specs.Sites.{site_at, spoken}
use Rattle.plain_lemmas.specs.Cases.{same_Some}
use Rattle.plain_lemmas.specs.Members.{in_rest}
use Rattle.promises.specs.Keeping.{is_in_one, keeps_at, keeps_targets, keeps_windows, targets_at, windows_at, writes_in}
use Rattle.promises.specs.declared.promise.Promise.{Promise}
use Rattle.promises.specs.declared.promise.Window.{Window}
use Rattle.promises.specs.declared.spoken.Growth.TheVariants.{Down}
use Rattle.promises.specs.declared.spoken.Site.{Site}
use Rattle.promises.specs.declared.spoken.Site.TheVariants.{Store}

-- the instruction's outcome, with its store at an address
pub record IsStored (device : Device) (s : ChipState) (instr : Instr) (width : Width) (address : ℕ) (outcome : Outcome ChipState) : Type 0 where
  pub accesses : List Single
  pub left : Left
  pub outcome_is : outcome ≡ done s instr accesses left
  pub shown : Contains accesses (Access (register_of s 0) Mem true (size_of width) (aligned device width address))
  pub hit : left.hit ≡ program_hit device width address

-- where the bytes of a store begin
abbrev pub begins : Width → ℕ → ℕ
begins Word address = even address
begins Byte address = address

-- on a device without a mirror
aligned_is : (device : Device) (width : Width) (address : ℕ) → device.ram.mirror ≡ None → aligned device width address ≡ begins width address
aligned_is device Word address plain = ap (λ (mirror : Option (ℕ × ℕ)). canon_by device.ram.lo mirror (even address)) plain
aligned_is device Byte address plain = ap (λ (mirror : Option (ℕ × ℕ)). canon_by device.ram.lo mirror address) plain

one_of_two : (low high : Bool) (start at : ℕ) → first_of low high start ≡ Some at → (at ≡ start) ⊎ (at ≡ start + 1)
one_of_two true high start at e = inl (sym (same_Some e))
one_of_two false true start at e = inr (sym (same_Some e))
one_of_two false false start at e = absurd (cc)

-- the store that hits a byte begins where one of its size that has this byte does
hit_begins : (device : Device) (width : Width) (start at : ℕ) → (width ≡ Word → start % 2 ≡ 0) → hit_at device width start ≡ Some at
    → at - at % size_of width ≡ start
unfolding hit_at
hit_begins device Word start at aligned_so e =
    let rest : start % 2 ≡ 0 = aligned_so refl in
    elim (one_of_two (is_program device start) (is_program device ((start + 1) % 65536)) start at e) [
      | inl same ↦ omega (arith, same, rest)
      | inr next ↦ omega (arith, next, rest)
    ]
hit_begins device Byte start at aligned_so e = elim (one_of_two (is_program device start) false start at e) [
  | inl same ↦ omega (arith, same)
  | inr next ↦ absurd (byte_alone (is_program device start) start at e next)
] where
  byte_alone : (low : Bool) (start at : ℕ) → first_of low false start ≡ Some at → at ≡ start + 1 → ⊥
  byte_alone true start at is other = let same = same_Some is in omega (arith, same, other)
  byte_alone false start at is other = absurd (cc)

begins_even : (width : Width) (address : ℕ) → width ≡ Word → begins width address % 2 ≡ 0
begins_even Word address e = omega arith
begins_even Byte address e = absurd (cc)

-- what a step shows that goes on
abbrev items_of : ChipState → Instr → List Single → Left → List Single
items_of s instr accesses left =
    Stack (register_of s 0) (register_of s 1) ∷ Ran (register_of s 0) (bytes_of instr) ∷ accesses ++ Edge (register_of s 0) (slice_index left.registers 0) ∷ []

each_passes : (test : Single → Bool) (items : List Single) (single : Single) → list_all test items ≡ true → Contains items single → test single ≡ true
each_passes test items single all there = All-contains (λ x. test x ≡ true) items single (AllPass-from_list_all test items all) there

module _ (device : Device) (promises : List Promise) (s : ChipState) (instr : Instr) (width : Width) (address : ℕ) (outcome : Outcome ChipState)
    (windows : List Window) (plain : device.ram.mirror ≡ None) (at_site : site_at device.image (register_of s 0) ≡ Store (size_of width))
    (promised : windows_at (spoken device.image) promises (register_of s 0) ≡ Some windows)
    (stored : IsStored device s instr width address outcome) (is_kept : IsKept device promises s outcome) where
  abbrev Stands : ℕ → Type 0
  Stands at = is_in_one windows (register_of s 1) at (size_of width) ≡ true

  -- by the state behind it
  goes_on : stored.left.hit ≡ None → Stands (begins width address)
  goes_on none =
      let pc = register_of s 0 in
      let items = items_of s instr stored.accesses stored.left in
      let state : ChipState = record { registers = stored.left.registers; ram = stored.left.ram; late = allows_interrupts s } in
      let is : outcome ≡ Next items state = stored.outcome_is ∙ ap (λ hit. unless_hit WroteProgram hit items state) none in
      let all : keeps_at (spoken device.image) promises (Some pc) items ≡ true = subst (IsKept device promises s) is is_kept in
      let both = and_parts (keeps_windows Down (windows_at (spoken device.image) promises pc) items) (keeps_targets (targets_at promises pc) items) all in
      let writes : list_all (writes_in Down windows (Some (register_of s 1))) items ≡ true = subst (λ found. keeps_windows Down found items ≡ true) promised both.0 in
      let single = Access pc Mem true (size_of width) (aligned device width address) in
      let end = Edge pc (slice_index stored.left.registers 0) ∷ [] in
      let there : Contains items single = in_rest (Stack pc (register_of s 1)) (Ran pc (bytes_of instr) ∷ stored.accesses ++ end) single
      (in_rest (Ran pc (bytes_of instr)) (stored.accesses ++ end) single (Contains-append_left stored.accesses end single stored.shown)) in
      let stands : Stands (aligned device width address) = each_passes (writes_in Down windows (Some (register_of s 1))) items single writes there in
      subst Stands (aligned_is device width address plain) stands

  -- by the byte of the program over which it leaves the model
  leaves : (at : ℕ) → stored.left.hit ≡ Some at → Stands (begins width address)
  leaves at hits =
      let items = items_of s instr stored.accesses stored.left in
      let state : ChipState = record { registers = stored.left.registers; ram = stored.left.ram; late = allows_interrupts s } in
      let is : outcome ≡ Leaves (WroteProgram at) = stored.outcome_is ∙ ap (λ hit. unless_hit WroteProgram hit items state) hits in
      let kept_so : keeps_store device promises s at ≡ true = subst (IsKept device promises s) is is_kept in
      let by_windows : stands_in (Some windows) (site_at device.image (register_of s 0)) (register_of s 1) at ≡ true =
      subst (λ found. stands_in found (site_at device.image (register_of s 0)) (register_of s 1) at ≡ true) promised kept_so in
      let stands : Stands (at - at % size_of width) = subst (λ (site : Site). stands_in (Some windows) site (register_of s 1) at ≡ true) at_site by_windows in
      let hit : program_hit device width address ≡ Some at = sym stored.hit ∙ hits in
      let begun : hit_at device width (begins width address) ≡ Some at = subst (λ start. hit_at device width start ≡ Some at) (aligned_is device width address plain) hit in
      subst Stands (hit_begins device width (begins width address) at (begins_even width address) begun) stands

  by_hit : (hit : Option ℕ) → stored.left.hit ≡ hit → Stands (begins width address)
  by_hit None e = goes_on e
  by_hit (Some at) e = leaves at e

  -- the store stands in one of the windows
  pub stands_so : Stands (begins width address)
  stands_so = by_hit stored.left.hit refl
