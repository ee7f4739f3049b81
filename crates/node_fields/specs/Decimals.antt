-- Numbers below 100 in decimal, without a leading zero.
use Rattle.std.specs.Prelude.{◌≡◌, ℕ, ◌+◌, ◌-◌, ◌*◌, ◌/◌, ◌%◌, ◌<◌, ◌≤◌, ◌==◌, ◌&&◌, nat_lt, nat_le, if◌then◌else◌, Bool, true, false, Option, None, Some, List, [], ◌∷◌}
use Rattle.std.proofs.Common.{refl, inl, inr, arith}
use Rattle.std.proofs.lemmas.Bool.{cases_lt, and_parts, lt-ltb, le-ltb, le-leb, ltb-true, leb-true}
use Rattle.std.proofs.lemmas.Bool.Decides.{nat_tests}
use Rattle.std.proofs.lemmas.Option.{none-some}
use Rattle.text_fields.specs.Spelling.{Spelling, IsExact, Avoids, has_byte, test_only}

abbrev pub is_decimal : ℕ → Bool
is_decimal b = nat_le 48 b && nat_le b 57

abbrev pub decimal_text : ℕ → List ℕ
decimal_text n = if nat_lt n 10 then (48 + n) ∷ [] else (48 + n / 10) ∷ (48 + n % 10) ∷ []

abbrev pub decimal_of : List ℕ → Option ℕ
decimal_of [] = None
decimal_of (a ∷ []) = if is_decimal a then Some (a - 48) else None
decimal_of (a ∷ b ∷ []) = if nat_lt 48 a && (nat_le a 57 && is_decimal b) then Some ((a - 48) * 10 + (b - 48)) else None
decimal_of (a ∷ b ∷ c ∷ text) = None

abbrev pub decimal_field : Spelling ℕ
decimal_field = record { text = decimal_text; value = decimal_of; Form = λ n. n < 100 }

-- LAWS

one_back : (n : ℕ) → n < 10 → decimal_of ((48 + n) ∷ []) ≡ Some n
one_back n small =
    let digit : is_decimal (48 + n) ≡ true = grind (arith, nat_tests, small) in
    let same : 48 + n - 48 ≡ n = omega arith in
    rw (digit, same) refl

two_back : (n : ℕ) → 10 ≤ n → n < 100 → decimal_of ((48 + n / 10) ∷ (48 + n % 10) ∷ []) ≡ Some n
two_back n long small =
    let high : n / 10 ≤ 9 = omega (arith, small) in
    let some : 1 ≤ n / 10 = omega (arith, long) in
    let low : n % 10 ≤ 9 = omega arith in
    let first : nat_lt 48 (48 + n / 10) ≡ true = lt-ltb 48 (48 + n / 10) (omega (arith, some)) in
    let most : nat_le (48 + n / 10) 57 ≡ true = le-leb (48 + n / 10) 57 (omega (arith, high)) in
    let least : nat_le 48 (48 + n % 10) ≡ true = le-leb 48 (48 + n % 10) (omega arith) in
    let last : nat_le (48 + n % 10) 57 ≡ true = le-leb (48 + n % 10) 57 (omega (arith, low)) in
    let same : (48 + n / 10 - 48) * 10 + (48 + n % 10 - 48) ≡ n = omega arith in
    rw (first, most, least, last, same) refl

one_only : (a n : ℕ) → is_decimal a ≡ true → a - 48 ≡ n → (n < 100) × (decimal_text n ≡ a ∷ [])
one_only a n passes same =
    let parts = and_parts (nat_le 48 a) (nat_le a 57) passes in
    let least = leb-true 48 a parts.0 in
    let most = leb-true a 57 parts.1 in
    let digit : 48 + n ≡ a = omega (arith, least, same) in
    (omega (arith, most, same), rw (lt-ltb n 10 (omega (arith, most, same)), digit) refl)

two_only : (a b n : ℕ) → (nat_lt 48 a && (nat_le a 57 && is_decimal b)) ≡ true → (a - 48) * 10 + (b - 48) ≡ n
    → (n < 100) × (decimal_text n ≡ a ∷ b ∷ [])
two_only a b n passes same =
    let first = and_parts (nat_lt 48 a) _ passes in
    let second = and_parts (nat_le a 57) _ first.1 in
    let third = and_parts (nat_le 48 b) _ second.1 in
    let above = ltb-true 48 a first.0 in
    let most = leb-true a 57 second.0 in
    let least = leb-true 48 b third.0 in
    let last = leb-true b 57 third.1 in
    let high : 48 + n / 10 ≡ a = omega (arith, same, above, most, least, last) in
    let low : 48 + n % 10 ≡ b = omega (arith, same, above, most, least, last) in
    (omega (arith, same, most, last), rw (le-ltb n 10 (omega (arith, same, above)), high, low) refl)

digit_avoids : (at digit : ℕ) → is_decimal at ≡ false → digit < 10 → (48 + digit == at) ≡ false
digit_avoids at digit other small = grind (arith, nat_tests, other)

avoids_at : (at n : ℕ) → is_decimal at ≡ false → n < 100 → has_byte at (decimal_text n) ≡ false
avoids_at at n other small = elim (cases_lt n 10) [
  | inl one ↦ rw (lt-ltb n 10 one, digit_avoids at n other one) refl
  | inr two ↦ rw (le-ltb n 10 two, digit_avoids at (n / 10) other (omega (arith, small)), digit_avoids at (n % 10) other (omega arith)) refl
]

decimal_back : (n : ℕ) → n < 100 → decimal_of (decimal_text n) ≡ Some n
decimal_back n small = elim (cases_lt n 10) [
  | inl one ↦ rw (lt-ltb n 10 one) (one_back n one)
  | inr two ↦ rw (le-ltb n 10 two) (two_back n two small)
]

decimal_only : (text : List ℕ) (n : ℕ) → decimal_of text ≡ Some n → (n < 100) × (decimal_text n ≡ text)
decimal_only [] n e = absurd (none-some n e)
decimal_only (a ∷ []) n e = test_only (is_decimal a) (a - 48) n e (λ passes same. one_only a n passes same)
decimal_only (a ∷ b ∷ []) n e = test_only (nat_lt 48 a && (nat_le a 57 && is_decimal b)) ((a - 48) * 10 + (b - 48)) n e
    (λ passes same. two_only a b n passes same)
decimal_only (a ∷ b ∷ c ∷ text) n e = absurd (none-some n e)

pub decimal_is_exact : IsExact decimal_field
decimal_is_exact = record { back = λ n small. decimal_back n small; only = λ text n e. decimal_only text n e }

pub decimal_avoids : (at : ℕ) → is_decimal at ≡ false → Avoids decimal_field at
decimal_avoids at other = λ n small. avoids_at at n other small
