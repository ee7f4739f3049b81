-- Numbers on the circle modulo m, and the runs there.
use Rattle.std.proofs.Common.{◌≡◌, ℕ, ◌+◌, ◌-◌, ◌*◌, ◌%◌, ◌/◌, ◌<◌, ◌≤◌, sym, ◌∙◌, ap, subst, inl, inr, arith}
use Prim.Native.Nat.{◌∣◌}
use Rattle.std.specs.Prelude.{◌⊎◌}
use Rattle.std.proofs.lemmas.Bool.{cases_lt}
use Rattle.std.proofs.Math.Nat.{mod-eq_of_lt, mod-eq-sub-mod, mod-lt, mod-add-mod, mod-mod_of_dvd, add-mul-mod_self_right, dvd-mul_left, dvd-sub, div-add-mod', dvd_of_mod-eq-zero, div-mul_cancel, div-lt_iff_lt-mul, mul-le-mul_right, mul-div_left, mul-mod_left}
use Rattle.value_set.specs.Form.{above}
use Rattle.value_set.proofs.Members.{InRun}

pub mod_low : (n m : ℕ) → n < m → n % m ≡ n
mod_low n m h = mod-eq_of_lt h

pub mod_once : (n m : ℕ) → m ≤ n → n < m + m → n % m ≡ n - m
mod_once n m h k = mod-eq-sub-mod h ∙ mod-eq_of_lt (omega arith)

-- a number below 2m is taken modulo m in one of two ways
pub mod_cases : (n m : ℕ) → n < m + m → ((n < m) × (n % m ≡ n)) ⊎ ((m ≤ n) × (n % m ≡ n - m))
mod_cases n m h = elim (cases_lt n m) [ inl low ↦ inl (low, mod_low n m low) | inr high ↦ inr (high, mod_once n m high h) ]

pub above_below : (m from v : ℕ) → 0 < m → above m from v < m
above_below m from v h = mod-lt _ h

-- the distance to a sum
pub above_sum : (m b k : ℕ) → b < m → k < m → above m b ((b + k) % m) ≡ k
above_sum m b k h l = elim (mod_cases (b + k) m (omega arith)) [
  | inl low ↦ rw low.1 (let e : b + k + m - b ≡ k + m = omega arith in rw e (mod_once (k + m) m (omega arith) (omega arith) ∙ (omega arith)))
  | inr high ↦ rw high.1 (let e : b + k - m + m - b ≡ k = omega arith in rw e (mod_low k m l))
]

pub above_back : (m b v : ℕ) → b < m → v < m → (b + above m b v) % m ≡ v
above_back m b v h k = elim (mod_cases (v + m - b) m (omega arith)) [
  | inl low ↦ rw low.1 (let e : b + (v + m - b) ≡ v + m = omega arith in rw e (mod_once (v + m) m (omega arith) (omega arith) ∙ (omega arith)))
  | inr high ↦ rw high.1 (let e : b + (v + m - b - m) ≡ v = omega arith in rw e (mod_low v m k))
]

pub product_below : (i c d m : ℕ) → i < c → (c - 1) * d < m → i * d < m
product_below i c d m h k = let step = mul-le-mul_right {m = i} {n = c - 1} d (omega arith) in omega (arith, step)

-- the members of a run are those a multiple of the stride above its base
pub run_offset : (m b d c v : ℕ) → b < m → (c - 1) * d < m → InRun m b d c v → (i : ℕ) × (i < c) × (above m b v ≡ i * d)
run_offset m b d c v h once (i, short, is) =
    (i, short, ap (λ (w : ℕ). above m b w) is ∙ above_sum m b (i * d) h (product_below i c d m short once))

pub run_from_offset : (m b d c v i : ℕ) → b < m → v < m → i < c → above m b v ≡ i * d → InRun m b d c v
run_from_offset m b d c v i h k short is = (i, short, sym (above_back m b v h k) ∙ ap (λ (w : ℕ). (b + w) % m) is)

pub run_below : (m b d c v : ℕ) → 0 < m → InRun m b d c v → v < m
run_below m b d c v h (i, short, is) = let low = mod-lt (b + i * d) {m = m} h in omega (arith, is, low)

-- the test of a member
pub run_test : (m b d c v : ℕ) → b < m → 0 < d → (c - 1) * d < m → InRun m b d c v → (above m b v % d ≡ 0) × (above m b v / d < c)
run_test m b d c v h pos once run = let found = run_offset m b d c v h once run in
    rw found.2 (mul-mod_left found.0 d, rw (mul-div_left found.0 pos) found.1)

pub run_tested : (m b d c v : ℕ) → b < m → v < m → 0 < d → above m b v % d ≡ 0 → above m b v / d < c → InRun m b d c v
run_tested m b d c v h k pos whole short =
    run_from_offset m b d c v (above m b v / d) h k short (sym (div-mul_cancel d (dvd_of_mod-eq-zero d whole)))

-- what two numbers with one remainder differ by
pub differ : (x w d : ℕ) → (x + w) % d ≡ x % d → d ∣ w
differ x w d h =
    let up = div-add-mod' (x + w) d in
    let low = div-add-mod' x d in
    let e : (x + w) / d * d - x / d * d ≡ w = omega (arith, up, low, h) in
    subst (λ (n : ℕ). d ∣ n) e (dvd-sub d (dvd-mul_left d ((x + w) / d)) (dvd-mul_left d (x / d)))

pub base_mod : (m b k : ℕ) → (b % m + k) % m ≡ (b + k) % m
base_mod m b k = mod-add-mod b m k

-- a run that closes the round has each number with its remainder
pub whole_remainder : (m b d c v : ℕ) → c * d ≡ m → InRun m b d c v → v % d ≡ b % d
whole_remainder m b d c v whole (i, short, is) =
    let div : d ∣ m = subst (λ (n : ℕ). d ∣ n) whole (dvd-mul_left d c) in
    ap (λ (w : ℕ). w % d) is ∙ mod-mod_of_dvd d (b + i * d) div ∙ add-mul-mod_self_right b i d

pub whole_has : (m b d c v : ℕ) → 0 < d → c * d ≡ m → v < m → v % d ≡ b % d → InRun m b d c v
whole_has m b d c v pos whole k same =
    let positive : 0 < m = omega arith in
    let low = mod-lt b {m = m} positive in
    let div : d ∣ m = subst (λ (n : ℕ). d ∣ n) whole (dvd-mul_left d c) in
    let w = above m (b % m) v in
    let back : (b % m + w) % m ≡ v = above_back m (b % m) v low k in
    let one : (b % m + w) % d ≡ b % m % d = sym (mod-mod_of_dvd d (b % m + w) div) ∙ ap (λ (n : ℕ). n % d) back ∙ same ∙ sym (mod-mod_of_dvd d b div) in
    let divides : d ∣ w = differ (b % m) w d one in
    let far : w < c * d = subst (λ (n : ℕ). w < n) (sym whole) (above_below m (b % m) v positive) in
    (w / d, (div-lt_iff_lt-mul {k = d} {x = w} {y = c} pos).1 far, sym back ∙ ap (λ (n : ℕ). (b % m + n) % m) (sym (div-mul_cancel d divides)) ∙ base_mod m b (w / d * d))

pub run_base_mod : (m b d c v : ℕ) → InRun m b d c v → InRun m (b % m) d c v
run_base_mod m b d c v (i, short, is) = (i, short, is ∙ sym (base_mod m b (i * d)))

pub run_base_plain : (m b d c v : ℕ) → InRun m (b % m) d c v → InRun m b d c v
run_base_plain m b d c v (i, short, is) = (i, short, is ∙ base_mod m b (i * d))
