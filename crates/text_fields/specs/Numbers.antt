-- Numbers as upper-case hexadecimal digits: of a fixed length, or without leading zeros.
use Rattle.std.specs.Prelude.{◌≡◌, ◌⊎◌, ℕ, zero, suc, ◌+◌, ◌-◌, ◌*◌, ◌/◌, ◌%◌, ◌^◌, ◌<◌, ◌≤◌, ◌==◌, ◌&&◌, ◌||◌, nat_lt, nat_le, not, if◌then◌else◌, Bool, true, false, Option, None, Some, option_map, option_and_then, List, [], ◌∷◌, ◌++◌, length}
use Rattle.std.proofs.Common.{refl, zero-add, sym, ap, ap₂, ◌∙◌, inl, inr, arith, length-append}
use Rattle.std.proofs.Math.Nat.{pow-suc}
use Rattle.std.proofs.lemmas.Bool.{cases_Bool, cases_lt, false≢true, le-leb, leb-true, cond-true, cond-false, ltb-false, lt-ltb, le-ltb, eq-eqb, eqb-true, and_parts, and_from}
use Rattle.std.proofs.lemmas.Bool.Decides.{nat_tests}
use Rattle.std.proofs.lemmas.Option.{none-some, same_Some}
use Rattle.hex_digits.specs.Digits.{hex, hex_digit, digits_below, short_hex}
use Rattle.text_fields.specs.Spelling.{Spelling, IsExact, Avoids, has_byte, has_byte-both, then_only, map_only, test_only}

-- numbers of bytes have two digits, and those of words four
abbrev pub IsWidth : ℕ → Type 0
IsWidth digits = (digits ≡ 2) ⊎ (digits ≡ 4)

-- 0 to 9, A to F
abbrev pub is_digit : ℕ → Bool
is_digit b = (nat_le 48 b && nat_le b 57) || (nat_le 65 b && nat_le b 70)

abbrev pub digit_of : ℕ → Option ℕ
digit_of b = if is_digit b then Some (if nat_le b 57 then b - 48 else b - 55) else None

-- the number of these digits behind those that gave a number
abbrev pub digits_behind : ℕ → List ℕ → Option ℕ
digits_behind n [] = Some n
digits_behind n (b ∷ text) = option_and_then (λ digit. digits_behind (n * 16 + digit) text) (digit_of b)

-- a number of so many digits
abbrev pub number_of : (digits : ℕ) → List ℕ → Option ℕ
number_of digits text = if length text == digits then digits_behind 0 text else None

abbrev pub hex_number : (digits : ℕ) → Spelling ℕ
hex_number digits = record { text = hex digits; value = number_of digits; Form = λ n. n < 16 ^ digits }

-- NO LEADING ZEROS

-- the text begins with a digit that isn't 0
abbrev pub begins_above_zero : List ℕ → Bool
begins_above_zero [] = false
begins_above_zero (b ∷ text) = not (b == 48)

-- a number of so many digits at most, which doesn't begin with 0
abbrev pub short_of : (most : ℕ) → List ℕ → Option ℕ
short_of most text = if begins_above_zero text && nat_le (length text) most then digits_behind 0 text else None

abbrev pub IsShort : (most n : ℕ) → Type 0
IsShort most n = (1 ≤ n) × (n < 16 ^ most)

abbrev pub short_number : (most : ℕ) → Spelling ℕ
short_number most = record { text = short_hex; value = short_of most; Form = IsShort most }

-- LAWS

pub digit_back : (digit : ℕ) → digit < 16 → digit_of (hex_digit digit) ≡ Some digit
digit_back digit small = grind (arith, nat_tests)

pub digit_only : (b digit : ℕ) → digit_of b ≡ Some digit → (digit < 16) × (hex_digit digit ≡ b)
digit_only b digit e = test_only (is_digit b) (if nat_le b 57 then b - 48 else b - 55) digit e
    (λ passes same. (grind (arith, nat_tests, passes, same), grind (arith, nat_tests, passes, same)))

abbrev with_digit : (high : ℕ) (b : ℕ) → Option ℕ
with_digit high b = option_map (λ digit. high * 16 + digit) (digit_of b)

last_digit : (n : ℕ) (digit : Option ℕ) → option_and_then (λ d. Some (n * 16 + d)) digit ≡ option_map (λ d. n * 16 + d) digit
last_digit n None = refl
last_digit n (Some d) = refl

each_digit : (n : ℕ) (front : List ℕ) (b : ℕ) (digit : Option ℕ)
    → ((m : ℕ) → digits_behind m (front ++ b ∷ []) ≡ option_and_then (λ high. with_digit high b) (digits_behind m front))
    → option_and_then (λ d. digits_behind (n * 16 + d) (front ++ b ∷ [])) digit
    ≡ option_and_then (λ high. with_digit high b) (option_and_then (λ d. digits_behind (n * 16 + d) front) digit)
each_digit n front b None rest = refl
each_digit n front b (Some d) rest = rest (n * 16 + d)

-- the last digit
pub digits_behind-last : (n : ℕ) (front : List ℕ) (b : ℕ) → digits_behind n (front ++ b ∷ [])
    ≡ option_and_then (λ high. with_digit high b) (digits_behind n front)
digits_behind-last n [] b = last_digit n (digit_of b)
digits_behind-last n (c ∷ front) b = each_digit n front b (digit_of c) (λ m. digits_behind-last m front b)

pub hex_length : (digits n : ℕ) → length (hex digits n) ≡ digits
hex_length zero n = refl
hex_length (suc digits) n = omega (arith, length-append (hex digits (n / 16)) (hex_digit (n % 16) ∷ []), hex_length digits (n / 16))

hex_back : (digits n : ℕ) → n < 16 ^ digits → digits_behind 0 (hex digits n) ≡ Some n
hex_back zero n small = let none : n ≡ 0 = omega arith in rw none refl
hex_back (suc digits) n small =
    let bound : 16 ^ suc digits ≡ 16 ^ digits * 16 = pow-suc 16 digits in
    let low : n % 16 < 16 = omega arith in
    let high : n / 16 < 16 ^ digits = omega (arith, bound) in
    let whole : n / 16 * 16 + n % 16 ≡ n = omega arith in
    rw (digits_behind-last 0 (hex digits (n / 16)) (hex_digit (n % 16)), hex_back digits (n / 16) high, digit_back (n % 16) low, whole) refl

-- a text that isn't empty is its last byte behind the others
last_byte : (text : List ℕ) (digits : ℕ) → length text ≡ suc digits
    → (front : List ℕ) × (b : ℕ) × (text ≡ front ++ b ∷ []) × (length front ≡ digits)
last_byte [] digits long = absurd (omega arith)
last_byte (b ∷ []) digits long = ([], b, refl, omega arith)
last_byte (b ∷ c ∷ text) zero long = absurd (omega arith)
last_byte (b ∷ c ∷ text) (suc digits) long = let (front, last, is, as_long) = last_byte (c ∷ text) digits (omega arith) in
    (b ∷ front, last, ap (λ (rest : List ℕ). b ∷ rest) is, omega arith)

-- the digits of a number that gave it
hex_only : (digits n : ℕ) (text : List ℕ) → length text ≡ digits → digits_behind 0 text ≡ Some n → (n < 16 ^ digits) × (hex digits n ≡ text)
hex_only zero n [] long e = (omega (arith, same_Some 0 n e), refl)
hex_only zero n (b ∷ text) long e = absurd (omega arith)
hex_only (suc digits) n text long e =
    let (front, b, is, as_long) = last_byte text digits long in
    let read = sym (digits_behind-last 0 front b) ∙ ap (digits_behind 0) (sym is) ∙ e in
    then_only _ (digits_behind 0 front) n read (λ high first more. map_only _ (digit_of b) n more (λ digit last same.
    let before = hex_only digits high front as_long first in
    let below = digit_only b digit last in
    let bound : 16 ^ suc digits ≡ 16 ^ digits * 16 = pow-suc 16 digits in
    let one : n / 16 ≡ high = omega (arith, same, below) in
    let two : n % 16 ≡ digit = omega (arith, same, below) in
    (omega (arith, bound, same, below, before.0), ap₂ (λ h d. hex digits h ++ hex_digit d ∷ []) one two ∙ ap₂ (λ h d. h ++ d ∷ []) before.1 below.1 ∙ sym is)))

number_only : (digits n : ℕ) (text : List ℕ) (long : Bool) → (length text == digits) ≡ long
    → (if long then digits_behind 0 text else None) ≡ Some n
    → (n < 16 ^ digits) × (hex digits n ≡ text)
number_only digits n text true long e = hex_only digits n text (eqb-true (length text) digits long) e
number_only digits n text false long e = absurd (none-some n e)

pub hex_number_is_exact : (digits : ℕ) → IsExact (hex_number digits)
hex_number_is_exact digits = record {
  back = λ n small. let long = eq-eqb (length (hex digits n)) digits (hex_length digits n) in rw long (hex_back digits n small);
  only = λ text n e. number_only digits n text (length text == digits) refl e;
}

-- what is no digit is in no number
digit_avoids : (at digit : ℕ) → is_digit at ≡ false → digit < 16 → (hex_digit digit == at) ≡ false
digit_avoids at digit other small = grind (arith, nat_tests, other)

hex_avoids : (digits at n : ℕ) → is_digit at ≡ false → has_byte at (hex digits n) ≡ false
hex_avoids zero at n other = refl
hex_avoids (suc digits) at n other =
    has_byte-both at (hex digits (n / 16)) (hex_digit (n % 16) ∷ []) (hex_avoids digits at (n / 16) other)
    (rw (digit_avoids at (n % 16) other (omega arith)) refl)

pub number_avoids : (digits at : ℕ) → is_digit at ≡ false → Avoids (hex_number digits) at
number_avoids digits at other = λ n small. hex_avoids digits at n other

-- SHORT NUMBERS

-- any bound gives the same digits
same_digits : (bound other n : ℕ) → n < bound → n < other → digits_below bound n ≡ digits_below other n
same_digits zero other n below small = absurd (omega arith)
same_digits (suc bound) zero n below small = absurd (omega arith)
same_digits (suc bound) (suc other) n below small = ap (λ front. front ++ hex_digit (n % 16) ∷ []) (elim (cases_Bool (nat_lt n 16)) [
  | inl t ↦ cond-true _ _ _ t ∙ sym (cond-true _ _ _ t)
  | inr f ↦ let long : 16 ≤ n = ltb-false n 16 f in
      cond-false _ _ _ f ∙ same_digits bound other (n / 16) (omega arith) (omega arith) ∙ sym (cond-false _ _ _ f)
])

-- one digit
pub short_hex_low : (n : ℕ) → n < 16 → short_hex n ≡ hex_digit (n % 16) ∷ []
unfolding short_hex
short_hex_low n small = rw (lt-ltb n 16 small) refl

-- a digit behind those of the number without it
pub short_hex_long : (n : ℕ) → 16 ≤ n → short_hex n ≡ short_hex (n / 16) ++ hex_digit (n % 16) ∷ []
unfolding short_hex
short_hex_long n long =
    let other : nat_lt n 16 ≡ false = le-ltb n 16 long in
    let same : digits_below n (n / 16) ≡ digits_below (suc (n / 16)) (n / 16) = same_digits n (suc (n / 16)) (n / 16) (omega arith) (omega arith) in
    rw (other, same) refl

-- it begins with no 0
begins_low : (n : ℕ) (rest : List ℕ) → 1 ≤ n → n < 16 → begins_above_zero (hex_digit n ∷ rest) ≡ true
begins_low n rest some small = grind (arith, nat_tests)

begins_longer : (front rest : List ℕ) → begins_above_zero front ≡ true → begins_above_zero (front ++ rest) ≡ true
begins_longer [] rest e = absurd (false≢true e)
begins_longer (b ∷ front) rest e = e

short_begins : (bound n : ℕ) → n < bound → 1 ≤ n → begins_above_zero (short_hex n) ≡ true
short_begins zero n below some = absurd (omega arith)
short_begins (suc bound) n below some = elim (cases_lt n 16) [
  | inl small ↦ let low : n % 16 ≡ n = omega (arith, small) in rw (short_hex_low n small, low) (begins_low n [] some small)
  | inr long ↦ rw (short_hex_long n long) (begins_longer (short_hex (n / 16)) (hex_digit (n % 16) ∷ [])
      (short_begins bound (n / 16) (omega (arith, long)) (omega (arith, long))))
]

short_back : (bound n : ℕ) → n < bound → digits_behind 0 (short_hex n) ≡ Some n
short_back zero n below = absurd (omega arith)
short_back (suc bound) n below = elim (cases_lt n 16) [
  | inl small ↦ let low : n % 16 ≡ n = omega (arith, small) in rw (short_hex_low n small, low, digit_back n small) (ap Some (zero-add n))
  | inr long ↦
      let whole : n / 16 * 16 + n % 16 ≡ n = omega arith in
      rw (
        short_hex_long n long,
        digits_behind-last 0 (short_hex (n / 16)) (hex_digit (n % 16)),
        short_back bound (n / 16) (omega (arith, long)),
        digit_back
            (n % 16) (omega arith),
        whole,
      ) refl
]

short_length : (most n : ℕ) → 1 ≤ n → n < 16 ^ most → length (short_hex n) ≤ most
short_length zero n some small = absurd (omega arith)
short_length (suc most) n some small =
    let bound : 16 ^ suc most ≡ 16 ^ most * 16 = pow-suc 16 most in
    elim (cases_lt n 16) [
      | inl low ↦ rw (short_hex_low n low) (omega arith)
      | inr long ↦
          let before = short_length most (n / 16) (omega (arith, long)) (omega (arith, bound)) in
          rw (short_hex_long n long) (omega (arith, before, length-append (short_hex (n / 16)) (hex_digit (n % 16) ∷ [])))
    ]

begins_front : (front : List ℕ) (b digits : ℕ) → length front ≡ digits → 1 ≤ digits → begins_above_zero (front ++ b ∷ []) ≡ true
    → begins_above_zero front ≡ true
begins_front [] b digits long some e = absurd (omega (arith, long))
begins_front (c ∷ front) b digits long some e = e

-- what digits without a leading 0 gave has just these
short_only : (digits n : ℕ) (text : List ℕ) → length text ≡ digits → begins_above_zero text ≡ true → digits_behind 0 text ≡ Some n
    → (1 ≤ n) × (n < 16 ^ digits) × (short_hex n ≡ text)
short_only zero n [] long begins e = absurd (false≢true begins)
short_only zero n (b ∷ text) long begins e = absurd (omega arith)
short_only (suc zero) n [] long begins e = absurd (false≢true begins)
short_only (suc zero) n (b ∷ []) long begins e = then_only _ (digit_of b) n e (λ digit is same.
    let one = digit_only b digit is in
    let some : n ≡ digit = omega (arith, same_Some (0 * 16 + digit) n same) in
    let above : 1 ≤ n = grind (arith, nat_tests, begins, one, some) in
    let low : n % 16 ≡ n = omega (arith, one, some) in
    (above, omega (arith, one, some), rw (short_hex_low n (omega (arith, one, some)), low, some) (ap (λ c. c ∷ []) one.1)))
short_only (suc zero) n (b ∷ c ∷ text) long begins e = absurd (omega arith)
short_only (suc (suc digits)) n text long begins e =
    let (front, b, is, as_long) = last_byte text (suc digits) long in
    let read = sym (digits_behind-last 0 front b) ∙ ap (digits_behind 0) (sym is) ∙ e in
    then_only _ (digits_behind 0 front) n read (λ high first more. map_only _ (digit_of b) n more (λ digit last same.
    let starts = begins_front front b (suc digits) as_long (omega arith) (ap begins_above_zero (sym is) ∙ begins) in
    let before = short_only (suc digits) high front as_long starts first in
    let below = digit_only b digit last in
    let bound : 16 ^ suc (suc digits) ≡ 16 ^ suc digits * 16 = pow-suc 16 (suc digits) in
    let one : n / 16 ≡ high = omega (arith, same, below) in
    let two : n % 16 ≡ digit = omega (arith, same, below) in
    let long : 16 ≤ n = omega (arith, same, before.0) in (
      omega (arith, long),
      omega (arith, bound, same, below, before.1),
      short_hex_long n long ∙ ap₂ (λ h d. short_hex h ++ hex_digit d ∷ []) one two ∙ ap₂ (λ h d. h ++ d ∷ []) before.2 below.1 ∙ sym is,
    )))

pub longer_power : (few many : ℕ) → few ≤ many → 16 ^ few ≤ 16 ^ many
longer_power zero zero h = omega arith
longer_power (suc few) zero h = absurd (omega arith)
longer_power zero (suc many) h = omega (arith, pow-suc 16 many, longer_power zero many (omega arith))
longer_power (suc few) (suc many) h = omega (arith, pow-suc 16 few, pow-suc 16 many, longer_power few many (omega arith))

short_read_only : (most n : ℕ) (text : List ℕ) (passes : Bool) → (begins_above_zero text && nat_le (length text) most) ≡ passes
    → (if passes then digits_behind 0 text else None) ≡ Some n → IsShort most n × (short_hex n ≡ text)
short_read_only most n text true passes e =
    let parts = and_parts (begins_above_zero text) (nat_le (length text) most) passes in
    let is = short_only (length text) n text refl parts.0 e in
    ((is.0, omega (arith, is.1, longer_power (length text) most (leb-true (length text) most parts.1))), is.2)
short_read_only most n text false passes e = absurd (none-some n e)

pub short_number_is_exact : (most : ℕ) → IsExact (short_number most)
short_number_is_exact most = record {
  back = λ n form.
      let passes = and_from _ (nat_le (length (short_hex n)) most) (short_begins (suc n) n (omega arith) form.0)
      (le-leb (length (short_hex n)) most (short_length most n form.0 form.1)) in
      rw passes (short_back (suc n) n (omega arith));
  only = λ text n e. short_read_only most n text (begins_above_zero text && nat_le (length text) most) refl e;
}

short_hex_avoids : (bound at n : ℕ) → is_digit at ≡ false → n < bound → has_byte at (short_hex n) ≡ false
short_hex_avoids zero at n other below = absurd (omega arith)
short_hex_avoids (suc bound) at n other below = elim (cases_lt n 16) [
  | inl low ↦ rw (short_hex_low n low, digit_avoids at (n % 16) other (omega arith)) refl
  | inr long ↦ rw (short_hex_long n long)
      (has_byte-both at (short_hex (n / 16)) (hex_digit (n % 16) ∷ []) (short_hex_avoids bound at (n / 16) other (omega (arith, long)))
      (rw (digit_avoids at (n % 16) other (omega arith)) refl))
]

pub short_avoids : (most at : ℕ) → is_digit at ≡ false → Avoids (short_number most) at
short_avoids most at other = λ n form. short_hex_avoids (suc n) at n other (omega arith)
