-- What the chips' operations make of numbers. For the MSP430 see "MSP430x1xx Family User's Guide" (SLAU049), chapter 3,
-- and for the MCS-51 "MCS-51 Programmer's Guide and Instruction Set". AND, OR and XOR are std's `bit_and`, `bit_or` and
-- `bit_xor`.
use Rattle.std.specs.Prelude.{ℕ, ◌+◌, ◌*◌, ◌/◌, ◌%◌, ◌^◌, ◌==◌, ◌||◌, ◌&&◌, nat_lt, nat_le, if◌then◌else◌, Bool, true}
use Prim.Native.Nat.{zero, suc}
use Rattle.std.specs.Int.{bit_at}

-- ---- shifts and halves

-- RRA, RRC, RR and RRC A: each bit moves down one place, and a bit comes in at the top place
abbrev pub shifted_right : (place x bit : ℕ) → ℕ
shifted_right place x bit = x / 2 + bit * 2 ^ place

-- RL A and RLC A: each bit moves up one place, and a bit comes in at the lowest place
abbrev pub shifted_left : (place x bit : ℕ) → ℕ
shifted_left place x bit = x % 2 ^ place * 2 + bit

-- SWPB, with n 256, and SWAP A, with n 16: the halves of a number below n * n change places
abbrev pub exchanged : (n x : ℕ) → ℕ
exchanged n x = x % n * n + x / n

-- SXT: bit 7 is copied into bits 8 to 15
abbrev pub sign_extended : ℕ → ℕ
sign_extended x = x % 256 + bit_at x 7 * 65280

abbrev pub low_byte : ℕ → ℕ
low_byte x = x % 256

abbrev pub high_byte : ℕ → ℕ
high_byte x = x / 256

abbrev pub word_of : (low high : ℕ) → ℕ
word_of low high = low + high * 256

-- ---- decimal sums: a number's hexadecimal digits are read as decimal ones

-- whether each of the digits is at most 9
unfoldable pub is_decimal : (digits : ℕ) → ℕ → Bool
is_decimal zero x = true
is_decimal (suc digits) x = nat_lt (x % 16) 10 && is_decimal digits (x / 16)

-- the number that the digits write
unfoldable pub decimal_value : (digits : ℕ) → ℕ → ℕ
decimal_value zero x = 0
decimal_value (suc digits) x = x % 16 + 10 * decimal_value digits (x / 16)

-- the last digits of a number, written in decimal
unfoldable pub decimal_digits : (digits : ℕ) → ℕ → ℕ
decimal_digits zero n = 0
decimal_digits (suc digits) n = n % 10 + 16 * decimal_digits digits (n / 10)

-- DADD, with 4 digits, and DADD.B, with 2: the sum of two decimal numbers and the carry, and its decimal carry
abbrev pub decimal_total : (digits x y carry : ℕ) → ℕ
decimal_total digits x y carry = decimal_value digits x + decimal_value digits y + carry

abbrev pub decimal_sum : (digits x y carry : ℕ) → ℕ
decimal_sum digits x y carry = decimal_digits digits (decimal_total digits x y carry)

abbrev pub decimal_carry : (digits x y carry : ℕ) → Bool
decimal_carry digits x y carry = nat_le (10 ^ digits) (decimal_total digits x y carry)

-- ---- DA A, with CY and AC. What it adds may carry out of the byte; then CY is set, and it is never cleared.

-- 6 is added where the low digit exceeds 9 or AC is 1
abbrev pub low_adjusted : (a half : ℕ) → ℕ
low_adjusted a half = if nat_lt 9 (a % 16) || (half == 1) then a + 6 else a

-- then 60h where the high digit exceeds 9, or where CY is 1 or was set
abbrev pub high_adjusted : (low carry : ℕ) → ℕ
high_adjusted low carry = if nat_lt 9 (low % 256 / 16) || (carry == 1) || nat_le 256 low then low + 96 else low

abbrev pub decimal_adjusted : (a carry half : ℕ) → ℕ
decimal_adjusted a carry half = high_adjusted (low_adjusted a half) carry % 256

abbrev pub adjusted_carry : (a carry half : ℕ) → Bool
adjusted_carry a carry half = (carry == 1) || nat_le 256 (high_adjusted (low_adjusted a half) carry)
