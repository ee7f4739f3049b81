-- A register whose flags are those of a comparison stands in the window of the outcome that the flags say.
use Rattle.std.proofs.Common.{◌≡◌, ℕ, ◌+◌, ◌/◌, ◌%◌, ◌<◌, ◌≤◌, ◌==◌, Bool, true, false, Option, None, Some, arith}
use Rattle.std.specs.Prelude.{if◌then◌else◌, not}
use Rattle.std.proofs.lemmas.Bool.{cond_both, eqb-true, eqb-false, not-true, not-false}
use Rattle.value_set.specs.Form.{above}
use Rattle.msp430_decode.specs.declared.instr.Condition.{Condition}
use Rattle.msp430_decode.specs.declared.instr.Condition.TheVariants.{NotEqual, Equal, NoCarry, Carry, Negative, GreaterOrEqual, Less, Always}
use Rattle.msp430_decode.specs.declared.instr.Width.{Width}
use Rattle.msp430_decode.specs.declared.instr.Width.TheVariants.{Word, Byte}
use Rattle.msp430_chip.specs.Arithmetic.{modulus}
use Rattle.msp430_chip.specs.Step.{is_taken}
use Rattle.msp430_state.specs.declared.fact.FlagFact.{FlagFact}
use Rattle.msp430_branch.specs.declared.window.Window.{Window}
use Rattle.msp430_branch.specs.Cuts.{least_signed, window_of, equal_window, other_window, upper_window, lower_window, greater_window, less_window}
use Rattle.msp430_branch.proofs.FlagNumbers.{AreCompared}

-- a number stands in a window modulo m, or there is none
pub record IsInside (m v : ℕ) (window : Window) : Type 0 where
  pub low : window.low < m
  pub inside : above m window.low v < window.len

abbrev pub Allows : (m v : ℕ) → Option Window → Type 0
Allows m v None = Unit {0}
Allows m v (Some window) = IsInside m v window

-- a bit that isn't 0 is 1
other_bit : (n : ℕ) → (n % 2 == 0) ≡ false → n % 2 ≡ 1
other_bit n e = let d = eqb-false (n % 2) 0 e in omega (arith, d)

clear_bit : (n : ℕ) → (n % 2 == 1) ≡ false → n % 2 ≡ 0
clear_bit n e = let d = eqb-false (n % 2) 1 e in omega (arith, d)

-- THE SIX WINDOWS

-- a register, plus a number, that is compared with another one
abbrev Compared : (width : Width) (k n v : ℕ) → Type 0
Compared width k n v = (k < modulus width) × (n < modulus width) × (v < modulus width)

abbrev fact_of : (width : Width) (register k n : ℕ) → FlagFact
fact_of width register k n = record { register = register; added = k; compared = n; width = width }

in_equal : (width : Width) (register k n v : ℕ) → Compared width k n v → (v + k) % modulus width ≡ n
    → IsInside (modulus width) v (equal_window (fact_of width register k n))
in_equal Word register k n v (ks, ns, vs) p = record { low = omega (arith, ks, ns); inside = omega (arith, ks, ns, vs, p) }
in_equal Byte register k n v (ks, ns, vs) p = record { low = omega (arith, ks, ns); inside = omega (arith, ks, ns, vs, p) }

in_other : (width : Width) (register k n v : ℕ) → Compared width k n v → ((v + k) % modulus width ≡ n → ⊥)
    → IsInside (modulus width) v (other_window (fact_of width register k n))
in_other Word register k n v (ks, ns, vs) p = record { low = omega (arith, ks, ns); inside = omega (arith, ks, ns, vs, p) }
in_other Byte register k n v (ks, ns, vs) p = record { low = omega (arith, ks, ns); inside = omega (arith, ks, ns, vs, p) }

in_upper : (width : Width) (register k n v : ℕ) → Compared width k n v → n ≤ (v + k) % modulus width
    → IsInside (modulus width) v (upper_window (fact_of width register k n))
in_upper Word register k n v (ks, ns, vs) p = record { low = omega (arith, ks, ns); inside = omega (arith, ks, ns, vs, p) }
in_upper Byte register k n v (ks, ns, vs) p = record { low = omega (arith, ks, ns); inside = omega (arith, ks, ns, vs, p) }

in_lower : (width : Width) (register k n v : ℕ) → Compared width k n v → (v + k) % modulus width < n
    → IsInside (modulus width) v (lower_window (fact_of width register k n))
in_lower Word register k n v (ks, ns, vs) p = record { low = omega (arith, ks, ns); inside = omega (arith, ks, ns, vs, p) }
in_lower Byte register k n v (ks, ns, vs) p = record { low = omega (arith, ks, ns); inside = omega (arith, ks, ns, vs, p) }

in_greater : (width : Width) (register k n v : ℕ) → Compared width k n v
    → (n + least_signed width) % modulus width ≤ ((v + k) % modulus width + least_signed width) % modulus width
    → IsInside (modulus width) v (greater_window (fact_of width register k n))
in_greater Word register k n v (ks, ns, vs) p = record { low = omega (arith, ks, ns); inside = omega (arith, ks, ns, vs, p) }
in_greater Byte register k n v (ks, ns, vs) p = record { low = omega (arith, ks, ns); inside = omega (arith, ks, ns, vs, p) }

in_less : (width : Width) (register k n v : ℕ) → Compared width k n v
    → ((v + k) % modulus width + least_signed width) % modulus width < (n + least_signed width) % modulus width
    → IsInside (modulus width) v (less_window (fact_of width register k n))
in_less Word register k n v (ks, ns, vs) p = record { low = omega (arith, ks, ns); inside = omega (arith, ks, ns, vs, p) }
in_less Byte register k n v (ks, ns, vs) p = record { low = omega (arith, ks, ns); inside = omega (arith, ks, ns, vs, p) }

-- a jump's outcome by its test
either : (m v : ℕ) (taken : Bool) (one other : Window) → (taken ≡ true → IsInside m v one)
    → (taken ≡ false → IsInside m v other) → IsInside m v (if taken then one else other)
either m v taken one other first second = cond_both taken one other (IsInside m v) first second

pub allows : (condition : Condition) (fact : FlagFact) (v : ℕ) {sr : ℕ} → fact.added < modulus fact.width
    → fact.compared < modulus fact.width → v < modulus fact.width
    → AreCompared (modulus fact.width) (least_signed fact.width) ((v + fact.added) % modulus fact.width) fact.compared sr
    → Allows (modulus fact.width) v (window_of condition (is_taken condition sr) fact)
allows condition fact v {sr} ks ns vs is =
    let m = modulus fact.width in
    let small : Compared fact.width fact.added fact.compared v = (ks, ns, vs) in
    let equal = λ (e : sr / 2 % 2 ≡ 1). in_equal fact.width fact.register fact.added fact.compared v small (is.equal e) in
    let other = λ (e : sr / 2 % 2 ≡ 0). in_other fact.width fact.register fact.added fact.compared v small (is.other e) in
    let upper = λ (e : sr % 2 ≡ 1). in_upper fact.width fact.register fact.added fact.compared v small (is.upper e) in
    let lower = λ (e : sr % 2 ≡ 0). in_lower fact.width fact.register fact.added fact.compared v small (is.lower e) in
    let greater = λ (e : sr / 4 % 2 ≡ sr / 256 % 2). in_greater fact.width fact.register fact.added fact.compared v small (is.greater e) in
    let less = λ (d : sr / 4 % 2 ≡ sr / 256 % 2 → ⊥). in_less fact.width fact.register fact.added fact.compared v small (is.less d) in
    let ge = sr / 4 % 2 == sr / 256 % 2 in
    elim condition as (λ c. Allows m v (window_of c (is_taken c sr) fact)) [
      | NotEqual ↦ either m v (sr / 2 % 2 == 0) (other_window fact) (equal_window fact) (λ e. other (eqb-true (sr / 2 % 2) 0 e)) (λ e. equal (other_bit (sr / 2) e))
      | Equal ↦ either m v (sr / 2 % 2 == 1) (equal_window fact) (other_window fact) (λ e. equal (eqb-true (sr / 2 % 2) 1 e)) (λ e. other (clear_bit (sr / 2) e))
      | NoCarry ↦ either m v (sr % 2 == 0) (lower_window fact) (upper_window fact) (λ e. lower (eqb-true (sr % 2) 0 e)) (λ e. upper (other_bit sr e))
      | Carry ↦ either m v (sr % 2 == 1) (upper_window fact) (lower_window fact) (λ e. upper (eqb-true (sr % 2) 1 e)) (λ e. lower (clear_bit sr e))
      | Negative ↦ tt
      | GreaterOrEqual ↦
          either m v ge (greater_window fact) (less_window fact) (λ e. greater (eqb-true (sr / 4 % 2) (sr / 256 % 2) e)) (λ e. less (eqb-false (sr / 4 % 2) (sr / 256 % 2) e))
      | Less ↦ either m v (not ge) (less_window fact) (greater_window fact)
          (λ e. less (eqb-false (sr / 4 % 2) (sr / 256 % 2) (not-true ge e))) (λ e. greater (eqb-true (sr / 4 % 2) (sr / 256 % 2) (not-false ge e)))
      | Always ↦ tt
    ]
