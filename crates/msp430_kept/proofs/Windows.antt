-- A register whose address stands in a window is in the set that is cut to it.
use Rattle.std.proofs.Common.{◌≡◌, ℕ, ◌+◌, ◌-◌, ◌%◌, ◌<◌, ◌≤◌, Bool, true, false, [], ◌∷◌, refl, arith}
use Rattle.std.specs.Prelude.{nat_le, nat_lt, ◌||◌}
use Rattle.std.proofs.lemmas.Bool.{and_parts, leb-true, ltb-true}
use Rattle.irq_frames.specs.KnownLaws.{KnownLaws}
use Rattle.value_set.specs.Form.{Has, IsNormal, above}
use Rattle.value_set.specs.declared.form.Form.{Form}
use Rattle.promises.specs.Keeping.{is_in, is_in_one}
use Rattle.promises.specs.declared.promise.Window.{Window}
use Rattle.promises.specs.declared.promise.Window.TheVariants.{AboveStack, BelowStack, Between}
use Rattle.msp430_kept.specs.Front.{behind_in, first_in}

-- so many bytes from an address on stand in a window, by what is known of SP
pub record StandsIn (sp : Form) (window : Window) (at size : ℕ) : Type 0 where
  pub first : first_in sp window ≤ at
  pub last : at + size ≤ behind_in sp window

pub stands_in : KnownLaws → (sp : Form) (window : Window) (v at size : ℕ) → IsNormal 65536 sp → Has 65536 sp v → 0 < size
    → is_in window v at size ≡ true → StandsIn sp window at size
stands_in laws sp (Between lo hi) v at size normal has some e =
    let parts = and_parts (nat_le lo at) (nat_le (at + size - 1) hi) e in
    let low = leb-true lo at parts.0 in
    let high = leb-true (at + size - 1) hi parts.1 in
    record { first = low; last = omega (arith, high, some) }
stands_in laws sp (BelowStack lo) v at size normal has some e =
    let parts = and_parts (nat_le lo at) (nat_le (at + size) v) e in
    let low = leb-true lo at parts.0 in
    let high = leb-true (at + size) v parts.1 in
    let most = laws.sets.greatest 65536 v sp normal has in
    record { first = low; last = omega (arith, high, most) }
stands_in laws sp (AboveStack hi) v at size normal has some e =
    let parts = and_parts (nat_lt v at) (nat_le (at + size - 1) hi) e in
    let low = ltb-true v at parts.0 in
    let high = leb-true (at + size - 1) hi parts.1 in
    let fewest = laws.sets.least 65536 v sp normal has in
    record { first = omega (arith, low, fewest); last = omega (arith, high, some) }

-- where a register plus a number is one of these addresses, the register is as far above the window's low end
pub points_in : (first behind p added at size : ℕ) → p < 65536 → added < 65536 → first ≤ at → at + size ≤ behind
    → at ≤ (p + added) % 65536 → (p + added) % 65536 < at + size
    → above 65536 ((first + 65536 - added) % 65536) p < behind - first
points_in first behind p added at size ps adds low high from to = omega (arith, ps, adds, low, high, from, to)

pub one_alone : (window : Window) (v at size : ℕ) → is_in_one (window ∷ []) v at size ≡ true → is_in window v at size ≡ true
one_alone window v at size e = or_none (is_in window v at size) e where
  or_none : (b : Bool) → (b || false) ≡ true → b ≡ true
  or_none true h = refl
  or_none false h = h
