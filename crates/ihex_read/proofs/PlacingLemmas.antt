-- Tests of data bytes at their addresses.
use Rattle.std.proofs.Common.{◌≡◌, ℕ, suc, max, min, ◌+◌, ◌<◌, Bool, true, false, List, [], ◌∷◌, length, drop, get_or, refl, ◌∙◌, ap, add_assoc, arith}
use Rattle.std.specs.Prelude.{◌&&◌, ◌||◌, ◌==◌, not, nat_lt, nat_le, Option, None, Some}
use Rattle.std.specs.List.{list_any, enumerate_from}
use Rattle.std.proofs.lemmas.Bool.Decides.{nat_tests}
use Rattle.std.proofs.lemmas.List.{drop_more}
use Rattle.image.specs.declared.ram_range.RamRange.{RamRange}
use Rattle.image.specs.declared.rule_set.Rules.TheVariants.{Msp430, Mcs51}
use Rattle.image.specs.Kept.{lies_in, lies_in_mirror}
use Rattle.ihex_read.specs.ImageText.{is_misplaced}
use Rattle.ihex_read.specs.Loading.{is_outside, differs}

outside_step : (start n m : ℕ) → m ≡ start + 1 + n
    → (nat_lt 65535 start || (nat_lt 0 n && nat_lt 65536 (start + 1 + n))) ≡ (nat_lt 0 (suc n) && nat_lt 65536 m)
outside_step start n m e = grind (arith, nat_tests)

-- some byte of a row stands above FFFFh where the last one does
pub outside-row : (start : ℕ) (bytes : List ℕ)
    → list_any is_outside (enumerate_from start bytes) ≡ (nat_lt 0 (length bytes) && nat_lt 65536 (start + length bytes))
outside-row start [] = refl
outside-row start (b ∷ bytes) =
    ap (λ t. nat_lt 65535 start || t) (outside-row (start + 1) bytes) ∙ outside_step start (length bytes) (start + length (b ∷ bytes)) (omega arith)

range_step : (lo hi start n m : ℕ) → m ≡ start + 1 + n
    → ((nat_le lo start && nat_le start hi) || (nat_lt (start + 1) (start + 1 + n) && nat_lt (max (start + 1) lo) (min (start + 1 + n) (hi + 1))))
    ≡ (nat_lt start m && nat_lt (max start lo) (min m (hi + 1)))
range_step lo hi start n m e = grind (arith, nat_tests)

range_empty : (lo hi start m : ℕ) → m ≡ start → false ≡ (nat_lt start m && nat_lt (max start lo) (min m (hi + 1)))
range_empty lo hi start m e = grind (arith, nat_tests)

-- some byte of a row stands in a range where the row and the range overlap
pub range-row : (lo hi start : ℕ) (bytes : List ℕ)
    → list_any (λ byte. lies_in lo hi byte.0) (enumerate_from start bytes)
    ≡ (nat_lt start (start + length bytes) && nat_lt (max start lo) (min (start + length bytes) (hi + 1)))
range-row lo hi start [] = range_empty lo hi start (start + length {A = ℕ} []) (omega arith)
range-row lo hi start (b ∷ bytes) =
    ap (λ t. lies_in lo hi start || t) (range-row lo hi (start + 1) bytes)
    ∙ range_step lo hi start (length bytes) (start + length (b ∷ bytes)) (omega arith)

either_step : (a b c d : Bool) → ((a || b) || (c || d)) ≡ ((a || c) || (b || d))
either_step true b c d = refl
either_step false true true d = refl
either_step false true false d = refl
either_step false false c d = refl

-- some byte passes one of two tests where some byte passes the first or some byte the second
pub any_either : (p q : ℕ × ℕ → Bool) (bytes : List (ℕ × ℕ))
    → list_any (λ byte. p byte || q byte) bytes ≡ (list_any p bytes || list_any q bytes)
any_either p q [] = refl
any_either p q (byte ∷ bytes) =
    ap (λ t. (p byte || q byte) || t) (any_either p q bytes) ∙ either_step (p byte) (q byte) (list_any p bytes) (list_any q bytes)

pub mirror_nowhere : (bytes : List (ℕ × ℕ)) → list_any (λ byte. lies_in_mirror None byte.0) bytes ≡ false
mirror_nowhere [] = refl
mirror_nowhere (b ∷ bytes) = mirror_nowhere bytes

-- some byte of a row is misplaced in one of the three ranges
pub barred-row : (ram : RamRange) (bytes : List (ℕ × ℕ))
    → list_any (λ byte. is_misplaced (Msp430 ram) byte.0) bytes
    ≡ ((list_any (λ byte. lies_in 0 511 byte.0) bytes || list_any (λ byte. lies_in ram.lo ram.hi byte.0) bytes) || list_any (λ byte. lies_in_mirror ram.mirror byte.0) bytes)
barred-row ram bytes =
    any_either (λ byte. lies_in 0 511 byte.0 || lies_in ram.lo ram.hi byte.0) (λ byte. lies_in_mirror ram.mirror byte.0) bytes
    ∙ ap (λ t. t || list_any (λ byte. lies_in_mirror ram.mirror byte.0) bytes) (any_either (λ byte. lies_in 0 511 byte.0) (λ byte. lies_in ram.lo ram.hi byte.0) bytes)

pub barred_nowhere : (bytes : List (ℕ × ℕ)) → list_any (λ byte. is_misplaced Mcs51 byte.0) bytes ≡ false
barred_nowhere [] = refl
barred_nowhere (b ∷ bytes) = barred_nowhere bytes

-- a row from the byte with this index on
pub row_more : (start i : ℕ) (bytes : List ℕ) → i < length bytes
    → enumerate_from (start + i) (drop i bytes) ≡ (start + i, get_or bytes i 0) ∷ enumerate_from (start + (i + 1)) (drop (i + 1) bytes)
row_more start i bytes h = rw (drop_more bytes i 0 h, add_assoc) refl

-- what a row from this index on says by its first byte
pub any_more : (test : ℕ × ℕ → Bool) (start i : ℕ) (bytes : List ℕ) → i < length bytes → test (start + i, get_or bytes i 0) ≡ false
    → list_any test (enumerate_from (start + (i + 1)) (drop (i + 1) bytes)) ≡ list_any test (enumerate_from (start + i) (drop i bytes))
any_more test start i bytes h fails = rw (row_more start i bytes h, fails) refl

pub any_here : (test : ℕ × ℕ → Bool) (start i : ℕ) (bytes : List ℕ) → i < length bytes → test (start + i, get_or bytes i 0) ≡ true
    → true ≡ list_any test (enumerate_from (start + i) (drop i bytes))
any_here test start i bytes h holds = rw (row_more start i bytes h, holds) refl

differs_same : (held value : ℕ) → held ≡ value → not (held == value) ≡ false
differs_same held value e = grind (arith, nat_tests)

-- the same byte stands there, or none
pub differs_held : (place : Option ℕ) (held value : ℕ) → place ≡ Some held → held ≡ value → differs place value ≡ false
differs_held place held value e same = rw e (differs_same held value same)

pub differs_free : (place : Option ℕ) (value : ℕ) → ((held : ℕ) → place ≡ Some held → ⊥) → differs place value ≡ false
differs_free None value h = refl
differs_free (Some held) value h = absurd (h held refl)
