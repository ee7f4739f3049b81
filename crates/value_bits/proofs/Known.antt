-- Each member of a set has the bits that are known of it.
use Rattle.std.proofs.Common.{◌≡◌, ℕ, ◌+◌, ◌-◌, ◌*◌, ◌/◌, ◌%◌, ◌^◌, ◌<◌, ◌≤◌, Bool, true, false, cond, ◌&&◌, eqb, ltb, map, refl, sym, ◌∙◌, ap, subst, inl, inr, arith}
use Prim.Native.Nat.{zero, suc}
use Rattle.std.specs.List.{range_with_len, list_all}
use Rattle.std.specs.Int.{bit_at}
use Rattle.std.proofs.lemmas.Bool.{and_parts, eqb-true, ltb-true, or_cases}
use Rattle.std.proofs.Math.Nat.{pow-suc, mod-eq_of_lt, add-mul-div_left, div-mul-le_self}
use Rattle.std.proofs.lemmas.Nat.{pow_pos, pow-add, shr-shr, le-div}
use Rattle.std.proofs.lemmas.Nat.Bits.{bit_at-lt}
use Rattle.value_set.specs.declared.form.Progression.{Progression}
use Rattle.value_set.specs.declared.form.Form.{Form}
use Rattle.value_set.specs.declared.form.Form.TheVariants.{Values, Run}
use Rattle.value_set.specs.Form.{Has, IsNormal}
use Rattle.value_set.specs.Widening.{last_of}
use Rattle.value_set.specs.ListFacts.{in_from_Contains, list_all_in}
use Rattle.value_set.specs.StepFacts.{steps_from}
use Rattle.value_bits.specs.declared.tri.Tri.{Tri}
use Rattle.value_bits.specs.declared.tri.Tri.TheVariants.{Zero, One, Either}
use Rattle.value_bits.specs.Bits.{IsBit, Agrees, tri, is_fixed, known_bit, known_bits}
use Rattle.value_bits.proofs.Within.{member_below}

-- ---- a number by its bits

agrees_from : (f : ℕ → Tri) (v n s : ℕ) → ((i : ℕ) → s ≤ i → i < s + n → IsBit (f i) (bit_at v i)) → v / 2 ^ s < 2 ^ n
    → Agrees (map f (range_with_len s n)) (v / 2 ^ s)
agrees_from f v zero s each below = omega (arith, below)
agrees_from f v (suc n) s each below =
    let half : v / 2 ^ s / 2 ≡ v / 2 ^ (s + 1) = shr-shr v s 1 in
    let power = pow-suc 2 n in (
      each s (omega arith) (omega arith),
      subst (λ (x : ℕ). Agrees (map f (range_with_len (s + 1) n)) x) (sym half)
          (agrees_from f v n (s + 1) (λ i low high. each i (omega arith) (omega arith)) (omega (arith, half, power, below))),
    )

pub agrees_by_places : (f : ℕ → Tri) (v w : ℕ) → ((i : ℕ) → i < w → IsBit (f i) (bit_at v i)) → v < 2 ^ w
    → Agrees (map f (range_with_len 0 w)) v
agrees_by_places f v w each below =
    let whole : v / 2 ^ 0 ≡ v = omega arith in
    subst (λ (x : ℕ). Agrees (map f (range_with_len 0 w)) x) whole
    (agrees_from f v w 0 (λ i low high. each i (omega arith)) (omega (arith, whole, below)))

tri_is : (bit : ℕ) → bit < 2 → IsBit (tri bit) bit
tri_is zero h = refl
tri_is (suc zero) h = refl
tri_is (suc (suc n)) h = absurd (omega arith)

-- ---- the bits of a run

-- a multiple of twice the place's power changes no bit at the place
pub bit_at-add : (x k place : ℕ) → bit_at (x + k * 2 ^ (place + 1)) place ≡ bit_at x place
bit_at-add x k place =
    let power : 2 ^ (place + 1) ≡ 2 ^ place * 2 ^ 1 = pow-add 2 place 1 in
    let double : x + k * 2 ^ (place + 1) ≡ x + 2 ^ place * (2 * k) = omega (arith, ap (λ (n : ℕ). k * n) power) in
    let quotient = add-mul-div_left x (2 * k) {y = 2 ^ place} (pow_pos place) in
    let same : (x + k * 2 ^ (place + 1)) / 2 ^ place ≡ x / 2 ^ place + 2 * k = ap (λ (n : ℕ). n / 2 ^ place) double ∙ quotient in
    omega (arith, same)

-- nor does a remainder modulo a greater power
pub bit_at-mod : (n w place : ℕ) → place < w → bit_at (n % 2 ^ w) place ≡ bit_at n place
bit_at-mod n w place within =
    let rest : place + 1 + (w - (place + 1)) ≡ w = omega arith in
    let power : 2 ^ w ≡ 2 ^ (place + 1) * 2 ^ (w - (place + 1)) = ap (λ (k : ℕ). 2 ^ k) (sym rest) ∙ pow-add 2 (place + 1) (w - (place + 1)) in
    let split : n ≡ n % 2 ^ w + n / 2 ^ w * 2 ^ w = omega arith in
    let parts : n ≡ n % 2 ^ w + (n / 2 ^ w * 2 ^ (w - (place + 1))) * 2 ^ (place + 1) = omega (arith, split, ap (λ (k : ℕ). n / 2 ^ w * k) power) in
    sym (bit_at-add (n % 2 ^ w) (n / 2 ^ w * 2 ^ (w - (place + 1))) place) ∙ ap (λ (k : ℕ). bit_at k place) (sym parts)

-- numbers in steps of a multiple of twice the place's power
low_bit : (w place base stride i : ℕ) → place < w → stride % 2 ^ (place + 1) ≡ 0
    → bit_at ((base + i * stride) % 2 ^ w) place ≡ bit_at base place
low_bit w place base stride i within none =
    let q = stride / 2 ^ (place + 1) in
    let whole : stride ≡ q * 2 ^ (place + 1) = omega (arith, none) in
    let parts : base + i * stride ≡ base + (i * q) * 2 ^ (place + 1) = omega (arith, ap (λ (k : ℕ). i * k) whole) in
    bit_at-mod (base + i * stride) w place within ∙ ap (λ (k : ℕ). bit_at k place) parts ∙ bit_at-add base (i * q) place

quotient_grows : (a b k : ℕ) → 0 < k → a ≤ b → a / k ≤ b / k
quotient_grows a b k pos h = le-div (a / k) b k pos (let part = div-mul-le_self a k in omega (arith, part, h))

-- numbers between two that agree from the place on
high_bit : (w place base stride count i : ℕ) → base + (count - 1) * stride < 2 ^ w
    → base / 2 ^ place ≡ (base + (count - 1) * stride) / 2 ^ place → i < count
    → bit_at ((base + i * stride) % 2 ^ w) place ≡ bit_at base place
high_bit w place base stride count i once same short =
    let less : i * stride ≤ (count - 1) * stride = grind arith in
    let straight : (base + i * stride) % 2 ^ w ≡ base + i * stride = mod-eq_of_lt (omega (arith, less, once)) in
    let high : (base + i * stride) / 2 ^ place ≤ (base + (count - 1) * stride) / 2 ^ place = quotient_grows (base + i * stride) (base + (count - 1) * stride) (2 ^ place) (pow_pos place) (omega (arith, less)) in
    let low : base / 2 ^ place ≤ (base + i * stride) / 2 ^ place = quotient_grows base (base + i * stride) (2 ^ place) (pow_pos place) (omega arith) in
    let between : (base + i * stride) / 2 ^ place ≡ base / 2 ^ place = omega (arith, high, low, same) in
    ap (λ (k : ℕ). bit_at k place) straight ∙ ap (λ (k : ℕ). k % 2) between

fixed_bit : (w place i : ℕ) (p : Progression) → place < w → i < p.count → is_fixed w place p ≡ true
    → bit_at ((p.base + i * p.stride) % 2 ^ w) place ≡ bit_at p.base place
fixed_bit w place i p within short fixed = elim (or_cases (eqb (p.stride % 2 ^ (place + 1)) 0) (ltb (last_of p) (2 ^ w) && eqb (p.base / 2 ^ place) (last_of p / 2 ^ place)) fixed) [
  | inl whole ↦ low_bit w place p.base p.stride i within (eqb-true (p.stride % 2 ^ (place + 1)) 0 whole)
  | inr straight ↦ let parts = and_parts (ltb (last_of p) (2 ^ w)) (eqb (p.base / 2 ^ place) (last_of p / 2 ^ place)) straight in
      high_bit w place p.base p.stride p.count i (ltb-true (last_of p) (2 ^ w) parts.0) (eqb-true (p.base / 2 ^ place) (last_of p / 2 ^ place) parts.1) short
]

-- ---- the bits of a set

known_of_run : (w place v : ℕ) (p : Progression) (b : Bool) → is_fixed w place p ≡ b → (b ≡ true → bit_at v place ≡ bit_at p.base place)
    → IsBit (cond b (tri (bit_at p.base place)) Either) (bit_at v place)
known_of_run w place v p true is same = subst (λ (bit : ℕ). IsBit (tri (bit_at p.base place)) bit) (sym (same refl)) (tri_is (bit_at p.base place) (bit_at-lt p.base place))
known_of_run w place v p false is same = bit_at-lt v place

known_of_list : (place v : ℕ) (a b : Bool) → (a ≡ true → bit_at v place ≡ 1) → (b ≡ true → bit_at v place ≡ 0)
    → IsBit (cond a One (cond b Zero Either)) (bit_at v place)
known_of_list place v true b one none = one refl
known_of_list place v false true one none = none refl
known_of_list place v false false one none = bit_at-lt v place

pub known_bit_is : (w place v : ℕ) (set : Form) → place < w → Has (2 ^ w) set v → IsBit (known_bit w place set) (bit_at v place)
unfolding known_bit
known_bit_is w place v (Values xs) within h = let inside = in_from_Contains xs v h in
    known_of_list place v (list_all (λ n. eqb (bit_at n place) 1) xs) (list_all (λ n. eqb (bit_at n place) 0) xs)
    (λ all. eqb-true (bit_at v place) 1 (list_all_in (λ n. eqb (bit_at n place) 1) v xs all inside))
    (λ all. eqb-true (bit_at v place) 0 (list_all_in (λ n. eqb (bit_at n place) 0) v xs all inside))
known_bit_is w place v (Run p) within h = let at = steps_from (2 ^ w) p.base p.stride p.count v h in
    known_of_run w place v p (is_fixed w place p) refl (λ fixed. ap (λ (n : ℕ). bit_at n place) at.2 ∙ fixed_bit w place at.0 p within at.1 fixed)

pub known_agrees : (w v : ℕ) (set : Form) → IsNormal (2 ^ w) set → Has (2 ^ w) set v → Agrees (known_bits w set) v
known_agrees w v set n h = agrees_by_places (λ place. known_bit w place set) v w (λ i within. known_bit_is w i v set within h) (member_below (2 ^ w) v set (pow_pos w) n h)
