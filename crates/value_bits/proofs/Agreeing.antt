-- The set of the numbers with some bits has each of them.
use Rattle.std.proofs.Common.{◌≡◌, ℕ, ◌+◌, ◌-◌, ◌*◌, ◌/◌, ◌%◌, ◌^◌, ◌<◌, ◌≤◌, cond, List, [], ◌∷◌, map, length, sym, ◌∙◌, ap, subst, inl, inr, arith}
use Prim.Native.Nat.{suc}
use Rattle.std.specs.List.{Contains, flat_map}
use Rattle.std.proofs.Math.Nat.{pow-suc, mod-eq_of_lt}
use Rattle.std.proofs.lemmas.Bool.{cases_lt, le-leb, lt-leb}
use Rattle.std.proofs.lemmas.Nat.{pow_pos, le-div}
use Rattle.std.proofs.lemmas.List.Sums.{sum_by-cons}
use Rattle.value_set.specs.declared.form.Form.{Form}
use Rattle.value_set.specs.Form.{steps, make, gather}
use Rattle.value_set.specs.ListFacts.{IsIn, Contains_from_in}
use Rattle.value_bits.specs.declared.tri.Tri.{Tri}
use Rattle.value_bits.specs.declared.tri.Tri.TheVariants.{Zero, One, Either}
use Rattle.value_bits.specs.Bits.{IsBit, Agrees, filled, least, greatest, choices, numbers, unknown_count, is_unknown, lowest_unknown, from_bits}
use Rattle.value_bits.proofs.Within.{steps_has}

-- ---- few bits are unknown

in_longer : (v : ℕ) (b : Tri) (xs : List ℕ) → IsBit b (v % 2) → IsIn (v / 2) xs
    → IsIn v (flat_map (λ n. map (λ low. 2 * n + low) (choices b)) xs)
in_longer v b [] bit h = absurd h
in_longer v Zero (x ∷ xs) bit (inl e) = inl (omega (arith, bit, e))
in_longer v Zero (x ∷ xs) bit (inr h) = inr (in_longer v Zero xs bit h)
in_longer v One (x ∷ xs) bit (inl e) = inl (omega (arith, bit, e))
in_longer v One (x ∷ xs) bit (inr h) = inr (in_longer v One xs bit h)
in_longer v Either (x ∷ xs) bit (inl e) = elim (cases_lt (v % 2) 1) [
  | inl none ↦ inl (omega (arith, none, e))
  | inr one ↦ inr (inl (omega (arith, one, bit, e)))
]
in_longer v Either (x ∷ xs) bit (inr h) = inr (inr (in_longer v Either xs bit h))

in_numbers : (bits : List Tri) (v : ℕ) → Agrees bits v → IsIn v (numbers bits)
unfolding numbers
in_numbers [] v h = inl (sym h)
in_numbers (b ∷ bs) v h = in_longer v b (numbers bs) h.0 (in_numbers bs (v / 2) h.1)

pub numbers_have : (bits : List Tri) (v : ℕ) → Agrees bits v → Contains (numbers bits) v
numbers_have bits v h = Contains_from_in (numbers bits) v (in_numbers bits v h)

-- ---- many are

pub agreeing_below : (bits : List Tri) (v : ℕ) → Agrees bits v → v < 2 ^ length bits
agreeing_below [] v h = omega (arith, h)
agreeing_below (b ∷ bs) v h =
    let half = agreeing_below bs (v / 2) h.1 in
    let power = pow-suc 2 (length bs) in
    omega (arith, half, power)

power_above : (k : ℕ) → 2 ^ (1 + k) ≡ 2 * 2 ^ k
power_above k = let turn : 1 + k ≡ suc k = omega arith in let power = pow-suc 2 k in rw turn (omega (arith, power))

-- such a number stands in steps of the lowest unknown bit above the least one, and not above the greatest one
stands : (bits : List Tri) (v : ℕ) → Agrees bits v → (q : ℕ) × (v ≡ filled 0 bits + q * 2 ^ lowest_unknown bits) × (v ≤ filled 1 bits)
unfolding filled
stands [] v h = (0, omega (arith, h), omega (arith, h))
stands (Zero ∷ bs) v h =
    let rest = stands bs (v / 2) h.1 in
    let power = power_above (lowest_unknown bs) in
    (rest.0, omega (arith, rest.1, h.0, ap (λ (n : ℕ). rest.0 * n) power), omega (arith, rest.2, h.0))
stands (One ∷ bs) v h =
    let rest = stands bs (v / 2) h.1 in
    let power = power_above (lowest_unknown bs) in
    (rest.0, omega (arith, rest.1, h.0, ap (λ (n : ℕ). rest.0 * n) power), omega (arith, rest.2, h.0))
stands (Either ∷ bs) v h =
    let rest = stands bs (v / 2) h.1 in
    (v - 2 * filled 0 bs, omega (arith, rest.1, h.0), omega (arith, rest.2, h.0))

pub run_has : (w : ℕ) (bits : List Tri) (v : ℕ) → length bits ≡ w → Agrees bits v
    → Contains (steps (2 ^ w) (least bits) (2 ^ lowest_unknown bits) ((greatest bits - least bits) / 2 ^ lowest_unknown bits + 1)) v
run_has w bits v long h =
    let place = stands bits v h in
    let within : place.0 ≤ (greatest bits - least bits) / 2 ^ lowest_unknown bits = le-div place.0 (greatest bits - least bits) (2 ^ lowest_unknown bits) (pow_pos (lowest_unknown bits)) (omega (arith, place.1, place.2)) in
    let below : v < 2 ^ w = subst (λ (n : ℕ). v < 2 ^ n) long (agreeing_below bits v h) in
    steps_has (2 ^ w) (least bits) (2 ^ lowest_unknown bits) ((greatest bits - least bits) / 2 ^ lowest_unknown bits + 1) v place.0 (omega (arith, within)) (place.1 ∙ sym (mod-eq_of_lt (subst (λ (n : ℕ). n < 2 ^ w) place.1 below)))

pub filled_order : (bits : List Tri) → filled 0 bits ≤ filled 1 bits
unfolding filled
filled_order [] = omega arith
filled_order (Zero ∷ bs) = let rest = filled_order bs in omega (arith, rest)
filled_order (One ∷ bs) = let rest = filled_order bs in omega (arith, rest)
filled_order (Either ∷ bs) = let rest = filled_order bs in omega (arith, rest)

pub lowest_within : (bits : List Tri) → 1 ≤ unknown_count bits → lowest_unknown bits < length bits
lowest_within [] h = absurd (omega arith)
lowest_within (Zero ∷ bs) h = let rest = lowest_within bs (omega (arith, h, sum_by-cons (λ (b : Tri). cond (is_unknown b) 1 0) Zero bs)) in omega (arith, rest)
lowest_within (One ∷ bs) h = let rest = lowest_within bs (omega (arith, h, sum_by-cons (λ (b : Tri). cond (is_unknown b) 1 0) One bs)) in omega (arith, rest)
lowest_within (Either ∷ bs) h = omega arith

pub few_value : (w : ℕ) (bits : List Tri) (set : Form) → set ≡ gather (2 ^ w) (numbers bits) → unknown_count bits ≤ 4
    → set ≡ from_bits w bits
unfolding from_bits
few_value w bits set is few = rw (le-leb (unknown_count bits) 4 few) is

pub many_value : (w : ℕ) (bits : List Tri) (set : Form)
    → set ≡ make (2 ^ w) (least bits) (2 ^ lowest_unknown bits) ((greatest bits - least bits) / 2 ^ lowest_unknown bits + 1)
    → 4 < unknown_count bits → set ≡ from_bits w bits
unfolding from_bits
many_value w bits set is many = rw (lt-leb (unknown_count bits) 4 many) is

-- the same, of three numbers that are those of the bits
pub run_value : (w : ℕ) (bits : List Tri) (set : Form) (base stride end : ℕ) → base ≡ least bits
    → stride ≡ 2 ^ lowest_unknown bits → end ≡ greatest bits
    → set ≡ make (2 ^ w) base stride ((end - base) / stride + 1) → 4 < unknown_count bits → set ≡ from_bits w bits
run_value w bits set base stride end p q r is many = many_value w bits set
    (subst (λ (e : ℕ). set ≡ make (2 ^ w) (least bits) (2 ^ lowest_unknown bits) ((e - least bits) / 2 ^ lowest_unknown bits + 1)) r
    (subst (λ (d : ℕ). set ≡ make (2 ^ w) (least bits) d ((end - least bits) / d + 1)) q
    (subst (λ (b : ℕ). set ≡ make (2 ^ w) b stride ((end - b) / stride + 1)) p is))) many

pub run_holds : (w : ℕ) (bits : List Tri) (v base stride end : ℕ) → base ≡ least bits → stride ≡ 2 ^ lowest_unknown bits
    → end ≡ greatest bits
    → length bits ≡ w → Agrees bits v → Contains (steps (2 ^ w) base stride ((end - base) / stride + 1)) v
run_holds w bits v base stride end p q r long h =
    subst (λ (b : ℕ). Contains (steps (2 ^ w) b stride ((end - b) / stride + 1)) v) (sym p)
    (subst (λ (d : ℕ). Contains (steps (2 ^ w) (least bits) d ((end - least bits) / d + 1)) v) (sym q)
    (subst (λ (e : ℕ). Contains (steps (2 ^ w) (least bits) (2 ^ lowest_unknown bits) ((e - least bits) / 2 ^ lowest_unknown bits + 1)) v) (sym r) (run_has w bits v long h)))
