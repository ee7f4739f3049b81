-- Ranges of addresses: a dash for none, or each with its first and its last address, with commas between them.
use Rattle.std.specs.Prelude.{◌≡◌, ℕ, ◌+◌, ◌^◌, ◌<◌, ◌≤◌, ◌==◌, ◌&&◌, nat_le, Bool, true, false, List, [], ◌∷◌, codes, length}
use Rattle.std.specs.List.{AllByRecursion}
use Rattle.std.proofs.Common.{refl, arith, length-append}
use Rattle.std.proofs.lemmas.Bool.{and_parts, and_from, leb-true, le-leb}
use Rattle.hex_digits.specs.Digits.{hex}
use Rattle.irq_frames.specs.Ranges.{AreRanges}
use Rattle.text_fields.specs.Spelling.{Spelling, IsExact, Avoids}
use Rattle.text_fields.specs.Numbers.{is_digit, hex_number, hex_number_is_exact, number_avoids, hex_length}
use Rattle.text_fields.specs.Fields.{longer_differs, passing, passing_is_exact, passing_avoids, beside, beside_is_exact, beside_avoids, restated, restated_is_exact, restated_avoids}
use Rattle.text_fields.specs.Lists.{listed, listed_longer, listed_or_mark, listed_or_mark_is_exact, listed_or_mark_avoids}

-- ranges from an address on to another, which ascend and neither overlap nor touch
abbrev pub are_ranges : (from hi : ℕ) → List (ℕ × ℕ) → Bool
are_ranges from hi [] = true
are_ranges from hi (range ∷ ranges) =
    nat_le from range.0 && (nat_le range.0 range.1 && (nat_le range.1 hi && are_ranges (range.1 + 2) hi ranges))

-- addresses of so many digits
abbrev pub range_field : (digits : ℕ) → Spelling (ℕ × ℕ)
range_field digits = beside 45 (hex_number digits) (hex_number digits)

-- the text of ranges, whatever RAM they lie in
abbrev pub ranges_text : (digits : ℕ) → List (ℕ × ℕ) → List ℕ
ranges_text digits = (listed_or_mark (range_field digits) 44 (codes "-")).text

abbrev pub ranges_field : (digits lo hi : ℕ) → Spelling (List (ℕ × ℕ))
ranges_field digits lo hi = restated (passing (listed_or_mark (range_field digits) 44 (codes "-")) (are_ranges lo hi)) (AreRanges lo hi)

-- LAWS

pub ranges_only : (from hi : ℕ) (ranges : List (ℕ × ℕ)) → are_ranges from hi ranges ≡ true → AreRanges from hi ranges
ranges_only from hi [] test = tt
ranges_only from hi (range ∷ ranges) test =
    let one = and_parts (nat_le from range.0) _ test in
    let two = and_parts (nat_le range.0 range.1) _ one.1 in
    let three = and_parts (nat_le range.1 hi) _ two.1 in
    (leb-true from range.0 one.0, leb-true range.0 range.1 two.0, leb-true range.1 hi three.0, ranges_only (range.1 + 2) hi ranges three.1)

pub ranges_back : (from hi : ℕ) (ranges : List (ℕ × ℕ)) → AreRanges from hi ranges → are_ranges from hi ranges ≡ true
ranges_back from hi [] are = refl
ranges_back from hi (range ∷ ranges) are =
    and_from (nat_le from range.0) _ (le-leb from range.0 are.0)
    (and_from (nat_le range.0 range.1) _ (le-leb range.0 range.1 are.1)
    (and_from (nat_le range.1 hi) _ (le-leb range.1 hi are.2) (ranges_back (range.1 + 2) hi ranges are.3)))

pub range_forms : (digits from hi : ℕ) (ranges : List (ℕ × ℕ)) → hi < 16 ^ digits → AreRanges from hi ranges
    → AllByRecursion (range_field digits).Form ranges
range_forms digits from hi [] below are = tt
range_forms digits from hi (range ∷ ranges) below are =
    ((omega (arith, are.1, are.2), omega (arith, are.2)), range_forms digits (range.1 + 2) hi ranges below are.3)

range_is_exact : (digits : ℕ) → IsExact (range_field digits)
range_is_exact digits = beside_is_exact 45 (hex_number digits) (hex_number digits) (hex_number_is_exact digits) (hex_number_is_exact digits)
    (number_avoids digits 45 refl)

range_avoids : (digits at : ℕ) → is_digit at ≡ false → (45 == at) ≡ false → Avoids (range_field digits) at
range_avoids digits at no_digit no_dash =
    beside_avoids 45 at (hex_number digits) (hex_number digits) no_dash (number_avoids digits at no_digit)
    (number_avoids digits at no_digit)

-- a range is longer than a dash
range_longer : (digits : ℕ) (range : ℕ × ℕ) → 1 ≤ digits → 2 ≤ length ((range_field digits).text range)
range_longer digits range some = omega (arith, hex_length digits range.0, length-append (hex digits range.0) (45 ∷ hex digits range.1))

ranges_narrow : (digits lo hi : ℕ) → hi < 16 ^ digits → (ranges : List (ℕ × ℕ)) → AreRanges lo hi ranges
    → (passing (listed_or_mark (range_field digits) 44 (codes "-")) (are_ranges lo hi)).Form ranges
ranges_narrow digits lo hi below ranges are = (range_forms digits lo hi ranges below are, ranges_back lo hi ranges are)

pub ranges_is_exact : (digits lo hi : ℕ) → 1 ≤ digits → hi < 16 ^ digits → IsExact (ranges_field digits lo hi)
ranges_is_exact digits lo hi some below =
    let range = range_field digits in
    restated_is_exact (passing (listed_or_mark range 44 (codes "-")) (are_ranges lo hi)) (AreRanges lo hi)
    (passing_is_exact (listed_or_mark range 44 (codes "-")) (are_ranges lo hi)
    (listed_or_mark_is_exact range 44 (codes "-") (λ ranges form. longer_differs ((listed range 44).text ranges) 45
    (listed_longer range 44 2 (λ r is. range_longer digits r some) ranges form))
    (range_is_exact digits) (range_avoids digits 44 refl refl)))
    (ranges_narrow digits lo hi below) (λ ranges form. ranges_only lo hi ranges form.1)

pub ranges_avoids : (digits lo hi at : ℕ) → hi < 16 ^ digits → is_digit at ≡ false → (44 == at) ≡ false → (45 == at) ≡ false
    → Avoids (ranges_field digits lo hi) at
ranges_avoids digits lo hi at below no_digit no_comma no_dash =
    let range = range_field digits in
    restated_avoids (passing (listed_or_mark range 44 (codes "-")) (are_ranges lo hi)) (AreRanges lo hi) at (ranges_narrow digits lo hi below)
    (passing_avoids (listed_or_mark range 44 (codes "-")) (are_ranges lo hi) at
    (listed_or_mark_avoids range 44 (codes "-") at no_comma (rw no_dash refl) (range_avoids digits at no_digit no_dash)))
