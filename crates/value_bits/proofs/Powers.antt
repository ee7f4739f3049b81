-- Powers of two that are small.
use Rattle.std.proofs.Common.{◌≡◌, ℕ, ◌+◌, ◌*◌, ◌%◌, ◌^◌, ◌<◌, ◌≤◌, ◌∙◌, ap, arith, inl, inr, refl}
use Prim.Native.Nat.{zero, suc}
use Rattle.std.proofs.lemmas.Bool.{cases_lt}
use Rattle.std.proofs.Math.Nat.{mod-eq_of_lt, pow-le-pow_right, pow-suc}
use Rattle.std.proofs.lemmas.Nat.{pow_pos, pow-add}

pub power_of_word : (k : ℕ) → 2 ^ k ≤ 65536 → k ≤ 16
power_of_word k h = elim (cases_lt 16 k) [
  | inl more ↦ absurd (let high : 2 ^ 17 ≤ 2 ^ k = pow-le-pow_right {n = 2} (omega arith) {i = 17} {j = k} (omega arith) in omega arith)
  | inr less ↦ less
]

-- the power of the top bit, as a shift makes it
pub half_power : (place : ℕ) → 2 ^ (place + 1) ≤ 65536 → (1 * 2 ^ place % 65536 ≡ 2 ^ place) × (2 ^ place ≤ 32768) × (0 < 2 ^ place)
half_power place h =
    let double : 2 ^ (place + 1) ≡ 2 ^ place * 2 ^ 1 = pow-add 2 place 1 in
    let half : 2 ^ place ≤ 32768 = omega (arith, double, h) in
    let one : 1 * 2 ^ place ≡ 2 ^ place = omega arith in
    (ap (λ (n : ℕ). n % 65536) one ∙ mod-eq_of_lt (omega (arith, half)), half, pow_pos place)

pub two_below : (place : ℕ) → 2 ≤ 2 ^ (place + 1)
two_below place = let double : 2 ^ (place + 1) ≡ 2 ^ place * 2 ^ 1 = pow-add 2 place 1 in omega (arith, double, pow_pos place)

-- a digit has 4 bits
pub sixteen_power : (digits : ℕ) → 2 ^ (4 * digits) ≡ 16 ^ digits
sixteen_power zero = refl
sixteen_power (suc digits) =
    let turn : 4 * suc digits ≡ 4 + 4 * digits = omega arith in
    let power : 2 ^ (4 + 4 * digits) ≡ 2 ^ 4 * 2 ^ (4 * digits) = pow-add 2 4 (4 * digits) in
    let more = pow-suc 16 digits in
    let whole : 2 ^ (4 * suc digits) ≡ 2 ^ 4 * 2 ^ (4 * digits) = ap (λ (k : ℕ). 2 ^ k) turn ∙ power in
    omega (arith, whole, more, sixteen_power digits)

pub two_below_sixteen : (digits : ℕ) → 1 ≤ digits → 2 ≤ 16 ^ digits
two_below_sixteen zero some = absurd (omega (arith, some))
two_below_sixteen (suc digits) some = let more = pow-suc 16 digits in omega (arith, more, sixteen_power digits, pow_pos (4 * digits))
