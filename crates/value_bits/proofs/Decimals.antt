-- Decimal numbers, one digit more at a time.
use Rattle.std.proofs.Common.{◌≡◌, ℕ, ◌+◌, ◌-◌, ◌*◌, ◌/◌, ◌%◌, ◌^◌, ◌<◌, ◌≤◌, ◌&&◌, ltb, true, refl, ap, arith}
use Prim.Native.Nat.{zero, suc}
use Rattle.std.proofs.Math.Nat.{pow-suc}
use Rattle.chip_numbers.specs.Numbers.{is_decimal, decimal_value, decimal_digits}
use Rattle.value_set.specs.declared.form.Form.{Form}
use Rattle.value_set.specs.Form.{members, Has}
use Rattle.value_set.specs.Summing.{single}
use Rattle.value_set.specs.ListFacts.{in_from_Contains, list_all_in}
use Rattle.value_bits.specs.declared.tri.Tri.{Tri}
use Rattle.value_bits.specs.Bits.{tri}
use Rattle.value_bits.specs.Sets.{chosen, are_decimal}

pub is_decimal_step : (digits x : ℕ) → 1 ≤ digits → is_decimal digits x ≡ (ltb (x % 16) 10 && is_decimal (digits - 1) (x / 16))
unfolding is_decimal
is_decimal_step zero x h = absurd (omega arith)
is_decimal_step (suc digits) x h = let e : suc digits - 1 ≡ digits = omega arith in rw e refl

pub is_decimal_none : (x : ℕ) → is_decimal 0 x ≡ true
unfolding is_decimal
is_decimal_none x = refl

pub decimal_value_step : (digits x : ℕ) → 1 ≤ digits → decimal_value digits x ≡ x % 16 + 10 * decimal_value (digits - 1) (x / 16)
unfolding decimal_value
decimal_value_step zero x h = absurd (omega arith)
decimal_value_step (suc digits) x h = let e : suc digits - 1 ≡ digits = omega arith in rw e refl

pub decimal_value_none : (x : ℕ) → decimal_value 0 x ≡ 0
unfolding decimal_value
decimal_value_none x = refl

pub decimal_digits_step : (digits n : ℕ) → 1 ≤ digits → decimal_digits digits n ≡ n % 10 + 16 * decimal_digits (digits - 1) (n / 10)
unfolding decimal_digits
decimal_digits_step zero n h = absurd (omega arith)
decimal_digits_step (suc digits) n h = let e : suc digits - 1 ≡ digits = omega arith in rw e refl

pub decimal_digits_none : (n : ℕ) → decimal_digits 0 n ≡ 0
unfolding decimal_digits
decimal_digits_none n = refl

pub sixteen_step : (digits : ℕ) → 1 ≤ digits → 16 ^ digits ≡ 16 * 16 ^ (digits - 1)
sixteen_step zero h = absurd (omega arith)
sixteen_step (suc digits) h = let e : suc digits - 1 ≡ digits = omega arith in let p = pow-suc 16 digits in rw e (omega (arith, p))

-- ---- decimal sums of sets

pub decimal_member : (digits x : ℕ) (set : Form) → are_decimal digits set ≡ true → Has (16 ^ digits) set x → is_decimal digits x ≡ true
decimal_member digits x set all has = list_all_in (is_decimal digits) x (members (16 ^ digits) set) all (in_from_Contains (members (16 ^ digits) set) x has)

-- a set of one number is decimal where the number is
pub decimal_single : (digits x : ℕ) (set : Form) → set ≡ single x → is_decimal digits x ≡ true → are_decimal digits set ≡ true
decimal_single digits x set is d = rw is (rw d refl)

-- a carry that is known
pub known_carry : (carry : Tri) (bit : ℕ) → carry ≡ tri bit → bit < 2 → chosen carry ≡ single bit
known_carry carry zero is h = ap (λ (b : Tri). chosen b) is
known_carry carry (suc zero) is h = ap (λ (b : Tri). chosen b) is
known_carry carry (suc (suc n)) is h = absurd (omega arith)
