-- Decimal numbers, one digit more at a time.
use Rattle.std.proofs.Common.{◌≡◌, ℕ, ◌+◌, ◌-◌, ◌*◌, ◌/◌, ◌%◌, ◌^◌, ◌<◌, ◌≤◌, ◌==◌, ◌&&◌, ltb, true, refl, arith}
use Prim.Native.Nat.{zero, suc}
use Rattle.std.proofs.Math.Nat.{pow-suc}
use Rattle.std.proofs.lemmas.Bool.Decides.{nat_tests}
use Rattle.chip_numbers.specs.Numbers.{is_decimal, decimal_value, decimal_digits, decimal_sum, decimal_total, decimal_carry}

pub decimal_none : (x : ℕ) → is_decimal 0 x ≡ true
unfolding is_decimal
decimal_none x = refl

pub decimal_step : (digits x : ℕ) → 1 ≤ digits → is_decimal digits x ≡ (ltb (x % 16) 10 && is_decimal (digits - 1) (x / 16))
unfolding is_decimal
decimal_step zero x h = absurd (omega arith)
decimal_step (suc digits) x h = let e : suc digits - 1 ≡ digits = omega arith in rw e refl

pub decimal_digit : (digits x : ℕ) → 1 ≤ digits → is_decimal digits x ≡ true → x % 16 < 10
decimal_digit digits x h is = grind (arith, nat_tests, decimal_step)

pub decimal_rest : (digits x : ℕ) → 1 ≤ digits → is_decimal digits x ≡ true → is_decimal (digits - 1) (x / 16) ≡ true
decimal_rest digits x h is = grind (arith, nat_tests, decimal_step)

pub sixteen_step : (digits : ℕ) → 1 ≤ digits → 16 ^ digits ≡ 16 * 16 ^ (digits - 1)
sixteen_step zero h = absurd (omega arith)
sixteen_step (suc digits) h = let e : suc digits - 1 ≡ digits = omega arith in let p = pow-suc 16 digits in rw e (omega (arith, p))

ten_step : (digits : ℕ) → 10 ^ suc digits ≡ 10 * 10 ^ digits
ten_step digits = let p = pow-suc 10 digits in omega (arith, p)

pub sum_none : (x y carry : ℕ) → decimal_sum 0 x y carry ≡ 0
unfolding decimal_value decimal_digits
sum_none x y carry = refl

total_step : (digits x y carry low up : ℕ) → low + 10 * up ≡ x % 16 + y % 16 + carry
    → decimal_total (suc digits) x y carry ≡ low + 10 * decimal_total digits (x / 16) (y / 16) up
unfolding decimal_value
total_step digits x y carry low up is = omega arith

digits_at : (digits low rest : ℕ) → low < 10 → decimal_digits (suc digits) (low + 10 * rest) ≡ low + 16 * decimal_digits digits rest
unfolding decimal_digits
digits_at digits low rest h = let l : (low + 10 * rest) % 10 ≡ low = omega arith in let r : (low + 10 * rest) / 10 ≡ rest = omega arith in rw (l, r) refl

pub sum_step : (digits x y carry low up : ℕ) → 1 ≤ digits → low < 10 → low + 10 * up ≡ x % 16 + y % 16 + carry
    → decimal_sum digits x y carry ≡ low + 16 * decimal_sum (digits - 1) (x / 16) (y / 16) up
sum_step zero x y carry low up h digit is = absurd (omega arith)
sum_step (suc digits) x y carry low up h digit is =
    let e : suc digits - 1 ≡ digits = omega arith in
    rw (e, total_step digits x y carry low up is) (digits_at digits low (decimal_total digits (x / 16) (y / 16) up) digit)

pub carry_none : (x y carry : ℕ) → carry ≤ 1 → (carry == 1) ≡ decimal_carry 0 x y carry
unfolding decimal_value
carry_none x y zero h = refl
carry_none x y (suc zero) h = refl
carry_none x y (suc (suc n)) h = absurd (omega arith)

pub carry_step : (digits x y carry low up : ℕ) → 1 ≤ digits → low < 10 → low + 10 * up ≡ x % 16 + y % 16 + carry
    → decimal_carry digits x y carry ≡ decimal_carry (digits - 1) (x / 16) (y / 16) up
carry_step zero x y carry low up h digit is = absurd (omega arith)
carry_step (suc digits) x y carry low up h digit is =
    let e : suc digits - 1 ≡ digits = omega arith in
    let p = ten_step digits in
    let t = total_step digits x y carry low up is in
    rw (e, t, p) (grind (arith, nat_tests))
