-- Which lists and which runs are sets in their one form, by tests.
use Rattle.std.specs.Prelude.{◌≡◌, ℕ, zero, suc, ◌+◌, ◌-◌, ◌*◌, ◌<◌, ◌≤◌, ◌==◌, ◌&&◌, ◌||◌, nat_lt, nat_le, not, Bool, true, false, List, [], ◌∷◌, length}
use Rattle.std.specs.List.{AllByRecursion}
use Rattle.std.proofs.Common.{refl, inl, inr, arith}
use Rattle.std.proofs.lemmas.Bool.{cases_Bool, and_parts, and_from, leb-true, le-leb, ltb-true, ltb-false}
use Rattle.std.proofs.lemmas.Bool.Decides.{nat_tests}
use Rattle.value_set.specs.Form.{Ascends, IsNormalRun}

-- THE TESTS

-- numbers that ascend, from low on
abbrev pub ascends : (low : ℕ) → List ℕ → Bool
ascends low [] = true
ascends low (x ∷ xs) = nat_le low x && ascends (x + 1) xs

-- ascending numbers, at most 16 of them
abbrev pub is_list : List ℕ → Bool
is_list xs = ascends 0 xs && nat_le (length xs) 16

-- base, stride and count are those of a run below m, and not of all m numbers
abbrev pub is_run : (m base stride count : ℕ) → Bool
is_run m base stride count =
    nat_le 17 count && nat_lt count m && nat_lt ((count - 1) * stride) m && (nat_lt base stride || not ((count - 1) * stride + stride == m))

-- LAWS

pub ascends_only : (low m : ℕ) (xs : List ℕ) → AllByRecursion (λ x. x < m) xs → ascends low xs ≡ true → Ascends low m xs
ascends_only low m [] below test = tt
ascends_only low m (x ∷ xs) below test =
    let parts = and_parts (nat_le low x) (ascends (x + 1) xs) test in
    (leb-true low x parts.0, below.0, ascends_only (x + 1) m xs below.1 parts.1)

pub ascends_back : (low m : ℕ) (xs : List ℕ) → Ascends low m xs → AllByRecursion (λ x. x < m) xs × (ascends low xs ≡ true)
ascends_back low m [] are = (tt, refl)
ascends_back low m (x ∷ xs) are =
    let rest = ascends_back (x + 1) m xs are.2 in ((are.1, rest.0), and_from (nat_le low x) (ascends (x + 1) xs) (le-leb low x are.0) rest.1)

as_many : (k s : ℕ) → 1 ≤ s → k ≤ k * s
as_many zero s some = omega arith
as_many (suc k) s some = omega (arith, as_many k s some)

one_more : (count s : ℕ) → 1 ≤ count → (count - 1) * s + s ≡ count * s
one_more zero s some = absurd (omega arith)
one_more (suc k) s some = let e : suc k - 1 ≡ k = omega arith in rw e (omega arith)

at_least : (k s t : ℕ) → t ≤ s → k * t ≤ k * s
at_least zero s t h = omega arith
at_least (suc k) s t h = omega (arith, at_least k s t h)

pub run_only : (m base stride count : ℕ) → base < m → 1 ≤ stride → is_run m base stride count ≡ true
    → IsNormalRun m base stride count × ((count == m) ≡ false)
run_only m base stride count below strides test =
    let long : 17 ≤ count = grind (arith, nat_tests, test) in
    let more = one_more count stride (omega (arith, long)) in (
      record {
        long = long;
        strides = strides;
        below = below;
        once = grind (arith, nat_tests, test);
        least = λ e. grind (arith, nat_tests, test, more);
      },
      grind (arith, nat_tests, test),
    )

pub run_back : (m base stride count : ℕ) → IsNormalRun m base stride count → (count == m) ≡ false → is_run m base stride count ≡ true
run_back m base stride count normal other =
    let more = one_more count stride (omega (arith, normal.long)) in
    let many = as_many (count - 1) stride normal.strides in
    let below : count < m = grind (arith, nat_tests, other, many, normal.once, normal.long) in
    grind (arith, nat_tests, below, more, normal.long, normal.once, normal.least)

-- all m numbers are one run alone
pub whole_only : (m base stride : ℕ) → 17 ≤ m → IsNormalRun m base stride m → (base ≡ 0) × (stride ≡ 1)
whole_only m base stride long normal = elim (cases_Bool (nat_lt stride 2)) [
  | inl t ↦
      let one : stride ≡ 1 = omega (arith, ltb-true stride 2 t, normal.strides) in
      let all : m * stride ≡ m = rw one (omega arith) in
      (omega (arith, normal.least all, one), one)
  | inr f ↦
      let two : 2 ≤ stride = ltb-false stride 2 f in
      absurd (omega (arith, at_least (m - 1) stride 2 two, normal.once))
]

pub whole_back : (m : ℕ) → 17 ≤ m → IsNormalRun m 0 1 m
whole_back m long =
    let one : (m - 1) * 1 ≡ m - 1 = omega arith in
    record { long = long; strides = omega arith; below = omega arith; once = omega (arith, one); least = λ e. omega arith }

pub run_is_below : (m base stride count : ℕ) → IsNormalRun m base stride count → (count == m) ≡ false → (stride < m) × (count < m)
run_is_below m base stride count normal other =
    let many = as_many (count - 1) stride normal.strides in
    let often = at_least stride (count - 1) 1 (omega (arith, normal.long)) in
    let turned : stride * (count - 1) ≡ (count - 1) * stride = omega arith in
    (omega (arith, often, turned, normal.once), grind (arith, nat_tests, other, many, normal.once, normal.long))
