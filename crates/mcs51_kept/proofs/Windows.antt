-- The window in which a kept step stores.
use Rattle.std.proofs.Common.{◌≡◌, ℕ, ◌+◌, ◌-◌, ◌%◌, ◌<◌, ◌≤◌, Bool, true, false, Option, None, Some, List, [], ◌∷◌, ◌++◌, refl, sym, subst, inl, inr, Contains, arith}
use Rattle.std.specs.Prelude.{◌&&◌, ◌||◌, map, nat_le, nat_lt}
use Rattle.std.specs.List.{list_all}
use Rattle.std.proofs.lemmas.Bool.Decides.{nat_tests}
use Rattle.std.proofs.lemmas.List.Elements.{Contains-append_left}
use Rattle.chip_numbers.specs.Single.{Single}
use Rattle.chip_numbers.specs.Single.Single.{Instr as Ran, Edge, Stack}
use Rattle.plain_lemmas.specs.Cases.{both}
use Rattle.plain_lemmas.specs.Members.{in_cons, in_map, in_none, in_rest}
use Rattle.value_set.specs.Ends.{greatest, least}
use Rattle.value_set.specs.Form.{Has, IsNormal}
use Rattle.value_set.specs.Laws.{SetLaws}
use Rattle.mcs51_decode.specs.declared.instr.Instr.{Instr}
use Rattle.mcs51_decode.specs.Encoding.{bytes_of}
use Rattle.mcs51_chip.specs.declared.place.Access.TheVariants.{Internal}
use Rattle.mcs51_chip.specs.declared.place.Address.TheVariants.{InRam}
use Rattle.mcs51_chip.specs.declared.state.ChipState.{ChipState}
use Rattle.mcs51_chip.specs.Step.{Effect, accessed, stepped}
use Rattle.mcs51_state.specs.Known.{Known}
use Rattle.mcs51_branch.specs.Cuts.{IsInside}
use Rattle.mcs51_kept.specs.Front.{behind_in, first_in, in_ram}
use Rattle.mcs51_kept.specs.Keeping.{IsKept}
use Rattle.mcs51_kept.specs.Sites.{spoken}
use Rattle.mcs51_kept.proofs.Storing.{StoresAt}
use Rattle.promises.specs.declared.promise.Promise.{Promise}
use Rattle.promises.specs.declared.promise.Window.{Window}
use Rattle.promises.specs.declared.promise.Window.TheVariants.{AboveStack, BelowStack, Between}
use Rattle.promises.specs.declared.spoken.Growth.TheVariants.{Up}
use Rattle.promises.specs.Keeping.{is_in, is_in_one, keeps_targets, keeps_windows, targets_at, windows_at, writes_in}

-- WHAT A KEPT STEP STORES

pub all_pass : {X : Type 0} (test : X → Bool) (xs : List X) (x : X) → list_all test xs ≡ true → Contains xs x → test x ≡ true
all_pass test [] x all there = absurd (in_none x there)
all_pass test (first ∷ xs) x all there =
    let parts = both (test first) (list_all test xs) all in
    elim (in_cons first xs x there) [
      | inl same ↦ subst (λ y. test y ≡ true) same parts.0
      | inr rest ↦ all_pass test xs x parts.1 rest
    ]

-- what a step of an instruction shows
abbrev pub singles_of : ChipState → Instr → Effect → List Single
singles_of s instr effect = Stack s.pc s.sp ∷ (Ran s.pc (bytes_of instr) ∷ []) ++ map (accessed s.pc) effect.0 ++ Edge s.pc effect.1.pc ∷ []

-- in RAM it stores in the windows alone that are promised of its address
pub stored_in : (image : List (Option ℕ)) (promises : List Promise) (s : ChipState) (instr : Instr) (effect : Effect) (at : ℕ)
    (windows : List Window)
    → windows_at (spoken image) promises s.pc ≡ Some windows → StoresAt (InRam at) effect
    → IsKept image promises (stepped s (Ran s.pc (bytes_of instr) ∷ []) effect) → is_in_one windows s.sp at 1 ≡ true
stored_in image promises s instr effect at windows promised there kept =
    let singles = singles_of s instr effect in
    let accesses = map (accessed s.pc) effect.0 in
    let store = accessed s.pc (Internal true (InRam at)) in
    let parts = both (keeps_windows Up (windows_at (spoken image) promises s.pc) singles) (keeps_targets (targets_at promises s.pc) singles) kept in
    let all : list_all (writes_in Up windows (Some s.sp)) singles ≡ true = subst (λ found. keeps_windows Up found singles ≡ true) promised parts.0 in
    let listed = Contains-append_left accesses (Edge s.pc effect.1.pc ∷ []) store (in_map (accessed s.pc) effect.0 (Internal true (InRam at)) there) in
    all_pass (writes_in Up windows (Some s.sp)) singles store all
    (in_rest (Stack s.pc s.sp) (Ran s.pc (bytes_of instr) ∷ accesses ++ Edge s.pc effect.1.pc ∷ []) store
    (in_rest (Ran s.pc (bytes_of instr)) (accesses ++ Edge s.pc effect.1.pc ∷ []) store listed))

or_none : (b : Bool) → (b || false) ≡ true → b ≡ true
or_none true e = refl
or_none false e = e

pub in_only : (window : Window) (sp at : ℕ) → is_in_one (window ∷ []) sp at 1 ≡ true → is_in window sp at 1 ≡ true
in_only window sp at e = or_none (is_in window sp at 1) e

-- THE ADDRESSES OF A WINDOW

ram_inside : (first behind at : ℕ) → first ≤ at → at < behind → at < 256 → IsInside at (in_ram first behind)
ram_inside first behind at from up_to below = record { low = omega arith; inside = omega (arith, from, up_to, below) }

at_most : (a b : ℕ) → nat_le a b ≡ true → a ≤ b
at_most a b e = grind (arith, nat_tests, e)

less : (a b : ℕ) → nat_lt a b ≡ true → a < b
less a b e = grind (arith, nat_tests, e)

-- an address in a window by SP is among those that may be in it
pub window_has : (sets : SetLaws) (a : Known) (sp at : ℕ) (window : Window) → IsNormal 256 a.sp → Has 256 a.sp sp → at < 256
    → is_in window sp at 1 ≡ true → IsInside at (in_ram (first_in a window) (behind_in a window))
window_has sets a sp at (Between lo hi) normal has below e =
    let (from, up_to) = both (nat_le lo at) (nat_le (at + 1 - 1) hi) e in
    let last = at_most (at + 1 - 1) hi up_to in
    ram_inside lo (hi + 1) at (at_most lo at from) (omega (arith, last)) below
window_has sets a sp at (BelowStack lo) normal has below e =
    let (from, up_to) = both (nat_le lo at) (nat_le (at + 1) sp) e in
    let last = at_most (at + 1) sp up_to in
    let most = sets.greatest 256 sp a.sp normal has in
    ram_inside lo (greatest 256 a.sp) at (at_most lo at from) (omega (arith, last, most)) below
window_has sets a sp at (AboveStack hi) normal has below e =
    let (from, up_to) = both (nat_lt sp at) (nat_le (at + 1 - 1) hi) e in
    let first = less sp at from in
    let last = at_most (at + 1 - 1) hi up_to in
    let fewest = sets.least 256 sp a.sp normal has in
    ram_inside (least 256 a.sp + 1) (hi + 1) at (omega (arith, first, fewest)) (omega (arith, last)) below
