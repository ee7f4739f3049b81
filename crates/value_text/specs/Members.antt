-- What all members of a set are, by tests of its form.
use Rattle.std.specs.Prelude.{◌≡◌, ℕ, zero, suc, ◌+◌, ◌-◌, ◌*◌, ◌%◌, ◌<◌, ◌≤◌, ◌==◌, ◌&&◌, nat_lt, Bool, true, List, [], ◌∷◌, length, slice_index_or}
use Rattle.std.specs.List.{Contains, list_all}
use Rattle.std.proofs.Common.{refl, subst, arith}
use Rattle.std.proofs.Math.Nat.{mod-eq_of_lt}
use Rattle.std.proofs.lemmas.Bool.{and_parts, and_from, ltb-true, lt-ltb, eqb-true, eq-eqb}
use Rattle.value_set.specs.Form.{Has, IsNormal, IsNormalRun, steps}
use Rattle.value_set.specs.Remainders.{HasRemainder}
use Rattle.value_set.specs.StepFacts.{steps_from, steps_have}
use Rattle.value_set.specs.declared.form.Form.{Form}
use Rattle.value_set.specs.declared.form.Form.TheVariants.{Values, Run}

-- each member is a byte
abbrev pub is_byte_set : Form → Bool
is_byte_set (Values values) = list_all (λ v. nat_lt v 256) values
is_byte_set (Run run) = nat_lt (run.base + (run.count - 1) * run.stride) 256

-- each member is even
abbrev pub is_even_set : Form → Bool
is_even_set (Values values) = list_all (λ v. v % 2 == 0) values
is_even_set (Run run) = (run.base % 2 == 0) && (run.stride % 2 == 0)

-- LISTS

each_at : (test : ℕ → Bool) (values : List ℕ) (k v : ℕ) → list_all test values ≡ true → k < length values
    → slice_index_or values k v ≡ v → test v ≡ true
each_at test [] k v all inside is = absurd (omega (arith, inside))
each_at test (x ∷ xs) zero v all inside is = subst (λ y. test y ≡ true) is (and_parts (test x) (list_all test xs) all).0
each_at test (x ∷ xs) (suc k) v all inside is = each_at test xs k v (and_parts (test x) (list_all test xs) all).1 (omega (arith, inside)) is

pub each_only : (test : ℕ → Bool) (values : List ℕ) → list_all test values ≡ true → (v : ℕ) → Contains values v → test v ≡ true
each_only test values all v has = each_at test values has.0 v all has.1 has.2

pub each_back : (test : ℕ → Bool) (values : List ℕ) → ((v : ℕ) → Contains values v → test v ≡ true) → list_all test values ≡ true
each_back test [] all = refl
each_back test (x ∷ xs) all =
    and_from (test x) (list_all test xs) (all x (0, omega arith, refl)) (each_back test xs (λ v has. all v (suc has.0, omega (arith, has.1), has.2)))

-- RUNS

fewer : (i k s : ℕ) → i ≤ k → i * s ≤ k * s
fewer zero k s h = omega arith
fewer (suc i) zero s h = absurd (omega (arith, h))
fewer (suc i) (suc k) s h = omega (arith, fewer i k s (omega (arith, h)))

-- BYTES

below_only : (base stride count v : ℕ) → base + (count - 1) * stride < 256 → Contains (steps 65536 base stride count) v → v < 256
below_only base stride count v small has =
    let (i, inside, is) = steps_from 65536 base stride count v has in
    let reach = fewer i (count - 1) stride (omega (arith, inside)) in
    let near : (base + i * stride) % 65536 ≡ base + i * stride = mod-eq_of_lt (omega (arith, small, reach)) in
    omega (arith, is, near, small, reach)

-- such a run never goes round
below_step : (base stride count : ℕ) → IsNormalRun 65536 base stride count
    → ((v : ℕ) → Contains (steps 65536 base stride count) v → v < 256) → (i : ℕ)
    → i < count → base + i * stride < 256
below_step base stride count normal all zero inside =
    let near : (base + 0 * stride) % 65536 ≡ base + 0 * stride = mod-eq_of_lt (omega (arith, normal.below)) in
    omega (arith, near, all _ (steps_have 65536 base stride count 0 inside))
below_step base stride count normal all (suc i) inside =
    let before = below_step base stride count normal all i (omega (arith, inside)) in
    let narrow = fewer 16 (count - 1) stride (omega (arith, normal.long)) in
    let near : (base + suc i * stride) % 65536 ≡ base + suc i * stride = mod-eq_of_lt (omega (arith, before, narrow, normal.once)) in
    omega (arith, near, all _ (steps_have 65536 base stride count (suc i) inside))

pub bytes_only : (set : Form) → is_byte_set set ≡ true → (v : ℕ) → Has 65536 set v → v < 256
bytes_only (Values values) test v has = ltb-true v 256 (each_only (λ x. nat_lt x 256) values test v has)
bytes_only (Run run) test v has =
    below_only run.base run.stride run.count v (ltb-true (run.base + (run.count - 1) * run.stride) 256 test) has

pub bytes_back : (set : Form) → IsNormal 65536 set → ((v : ℕ) → Has 65536 set v → v < 256) → is_byte_set set ≡ true
bytes_back (Values values) normal all = each_back (λ x. nat_lt x 256) values (λ v has. lt-ltb v 256 (all v has))
bytes_back (Run run) normal all =
    lt-ltb (run.base + (run.count - 1) * run.stride) 256 (below_step run.base run.stride run.count normal all (run.count - 1) (omega (arith, normal.long)))

-- EVEN NUMBERS

even_steps : (base stride i : ℕ) → base % 2 ≡ 0 → stride % 2 ≡ 0 → (base + i * stride) % 2 ≡ 0
even_steps base stride zero even strides = omega (arith, even)
even_steps base stride (suc i) even strides = omega (arith, even_steps base stride i even strides, strides)

even_rest : (n v : ℕ) → v ≡ n % 65536 → n % 2 ≡ 0 → v % 2 ≡ 0
even_rest n v is even = omega (arith, is, even)

even_whole : (n : ℕ) → n % 65536 % 2 ≡ 0 → n % 2 ≡ 0
even_whole n even = omega (arith, even)

evens_in : (base stride count v : ℕ) → base % 2 ≡ 0 → stride % 2 ≡ 0 → Contains (steps 65536 base stride count) v → v % 2 ≡ 0
evens_in base stride count v even strides has =
    let (i, inside, is) = steps_from 65536 base stride count v has in
    let all = even_steps base stride i even strides in
    even_rest (base + i * stride) v is all

pub evens_only : (set : Form) → is_even_set set ≡ true → HasRemainder 65536 2 0 set
evens_only (Values values) test = λ v has. eqb-true (v % 2) 0 (each_only (λ x. x % 2 == 0) values test v has)
evens_only (Run run) test = λ v has.
    let parts = and_parts (run.base % 2 == 0) (run.stride % 2 == 0) test in
    evens_in run.base run.stride run.count v (eqb-true (run.base % 2) 0 parts.0) (eqb-true (run.stride % 2) 0 parts.1) has

pub evens_back : (set : Form) → IsNormal 65536 set → HasRemainder 65536 2 0 set → is_even_set set ≡ true
evens_back (Values values) normal even = each_back (λ x. x % 2 == 0) values (λ v has. eq-eqb (v % 2) 0 (even v has))
evens_back (Run run) normal even =
    let first = even _ (steps_have 65536 run.base run.stride run.count 0 (omega (arith, normal.long))) in
    let second = even _ (steps_have 65536 run.base run.stride run.count 1 (omega (arith, normal.long))) in
    let base = even_whole (run.base + 0 * run.stride) first in
    let next = even_whole (run.base + 1 * run.stride) second in
    and_from (run.base % 2 == 0) (run.stride % 2 == 0) (eq-eqb (run.base % 2) 0 (omega (arith, base))) (eq-eqb (run.stride % 2) 0 (omega (arith, base, next)))
