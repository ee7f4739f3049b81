-- An image that has the bytes of a list of places, and one byte more, and a row of bytes more.
use Rattle.std.proofs.Common.{◌≡◌, ◌≢◌, ℕ, ◌+◌, ◌<◌, ◌≤◌, ◌↔◌, inl, inr, Bool, true, false, List, [], ◌∷◌, ◌++◌, length, refl, sym, ◌∙◌, ap, subst, append_assoc, eq-eqb, arith}
use Rattle.std.specs.Prelude.{◌&&◌, ◌==◌, not, Option, None, Some, is_some, slice_set, Contains}
use Rattle.std.specs.List.{list_any, enumerate_from}
use Rattle.std.specs.Cmp.{both_ways}
use Rattle.std.proofs.lemmas.Bool.{cases_eq, and_parts, and_from}
use Rattle.std.proofs.lemmas.Bool.Decides.{nat_tests}
use Rattle.std.proofs.lemmas.List.{get_or-set_same, get_or-set_other, length-set, append-nil}
use Rattle.std.proofs.lemmas.List.Elements.{Contains-push, Contains-push_cases, Contains-append_left}
use Rattle.std.proofs.lemmas.List.Folds.{Any-from_list_any, list_any_at}
use Rattle.image.specs.Image.{byte_at}
use Rattle.ihex_read.specs.ImageText.{clashes, has_byte}
use Rattle.ihex_read.specs.Loading.{differs, is_taken, written}
use Rattle.std.proofs.lemmas.Bool.{or_parts}

-- the image has the bytes that were placed, and no others
abbrev pub Holds : List (Option ℕ) → List (ℕ × ℕ) → Type 0
Holds image placed = (at value : ℕ) → (byte_at image at ≡ Some value) ↔ Contains placed (at, value)

differs_other : (place : Option ℕ) (held value : ℕ) → place ≡ Some held → not (held == value) ≡ true → differs place value ≡ true
differs_other place held value e other = rw e other

differs_held : (place : Option ℕ) (value : ℕ) → differs place value ≡ true → (held : ℕ) × (place ≡ Some held) × (not (held == value) ≡ true)
differs_held None value h = cc h
differs_held (Some held) value h = (held, refl, h)

-- a byte clashes with those that were placed where the image has another
pub clashes-taken : (image : List (Option ℕ)) (placed : List (ℕ × ℕ)) (byte : ℕ × ℕ) → Holds image placed
    → clashes placed byte ≡ is_taken image byte
clashes-taken image placed byte holds =
    let test : ℕ × ℕ → Bool = λ other. (other.0 == byte.0) && not (other.1 == byte.1) in
    both_ways _ _
    (λ clash.
    let found = Any-from_list_any test placed clash in
    let parts = and_parts (found.1.0 == byte.0) (not (found.1.1 == byte.1)) found.4 in
    let same : found.1.0 ≡ byte.0 = grind (arith, nat_tests, parts.0) in
    let here = (holds found.1.0 found.1.1).1 (found.0, found.2, found.3) in
    differs_other (byte_at image byte.0) found.1.1 byte.1 (ap (byte_at image) (sym same) ∙ here) parts.1)
    (λ taken.
    let found = differs_held (byte_at image byte.0) byte.1 taken in
    let place = (holds byte.0 found.0).0 found.1 in
    list_any_at test placed place.0 (byte.0, found.0) place.1
    (rw place.2 (and_from (byte.0 == byte.0) _ (eq-eqb byte.0 byte.0 refl) found.2)))

some_byte : (place : Option ℕ) (value : ℕ) → place ≡ Some value → is_some place ≡ true
some_byte place value e = rw e refl

some_held : (place : Option ℕ) → is_some place ≡ true → (held : ℕ) × (place ≡ Some held)
some_held None h = cc h
some_held (Some held) h = (held, refl)

pub has_byte-some : (image : List (Option ℕ)) (placed : List (ℕ × ℕ)) (at : ℕ) → Holds image placed
    → has_byte placed at ≡ is_some (byte_at image at)
has_byte-some image placed at holds =
    let test : ℕ × ℕ → Bool = λ byte. byte.0 == at in
    both_ways _ _
    (λ has.
    let found = Any-from_list_any test placed has in
    let same : found.1.0 ≡ at = grind (arith, nat_tests, found.4) in
    let here = (holds found.1.0 found.1.1).1 (found.0, found.2, found.3) in
    some_byte (byte_at image at) found.1.1 (ap (byte_at image) (sym same) ∙ here))
    (λ there.
    let found = some_held (byte_at image at) there in
    let place = (holds at found.0).0 found.1 in
    list_any_at test placed place.0 (at, found.0) place.1 (rw place.2 (eq-eqb at at refl)))

free_same : (held value : ℕ) → differs (Some held) value ≡ false → held ≡ value
free_same held value h = grind (arith, nat_tests)

-- one byte more, at its address
here_written : (image : List (Option ℕ)) (placed : List (ℕ × ℕ)) (at value : ℕ) → Holds image placed → at < length image
    → is_taken image (at, value) ≡ false → (q w : ℕ) → q ≡ at
    → (byte_at (slice_set image at (Some value)) q ≡ Some w) ↔ Contains (placed ++ (at, value) ∷ []) (q, w)
here_written image placed at value holds inside free q w same =
    let now : byte_at (slice_set image at (Some value)) q ≡ Some value = rw same (get_or-set_same image at (Some value) None inside) in (
      λ is.
          let equal : value ≡ w = cc (sym now ∙ is) in
          let pair : (at, value) ≡ (q, w) = cc (equal, same) in
          subst (Contains (placed ++ (at, value) ∷ [])) pair (Contains-push placed (at, value)),
      λ has. elim (Contains-push_cases placed (at, value) (q, w) has) [
        | inl old ↦
            let was : byte_at image at ≡ Some w = ap (byte_at image) (sym same) ∙ (holds q w).1 old in
            let equal = free_same w value (ap (λ place. differs place value) (sym was) ∙ free) in
            now ∙ ap Some (sym equal)
        | inr new ↦ now ∙ ap (λ (pair : ℕ × ℕ). Some pair.1) new
      ],
    )

-- one byte more, at other addresses
there_written : (image : List (Option ℕ)) (placed : List (ℕ × ℕ)) (at value : ℕ) → Holds image placed → (q w : ℕ) → (q ≡ at → ⊥)
    → (byte_at (slice_set image at (Some value)) q ≡ Some w) ↔ Contains (placed ++ (at, value) ∷ []) (q, w)
there_written image placed at value holds q w other =
    let kept : byte_at (slice_set image at (Some value)) q ≡ byte_at image q = get_or-set_other image at q (Some value) None other in (
      λ is. Contains-append_left placed ((at, value) ∷ []) (q, w) ((holds q w).0 (sym kept ∙ is)),
      λ has. elim (Contains-push_cases placed (at, value) (q, w) has) [
        | inl old ↦ kept ∙ (holds q w).1 old
        | inr new ↦ absurd (other (sym (ap (λ (pair : ℕ × ℕ). pair.0) new)))
      ],
    )

one_written : (image : List (Option ℕ)) (placed : List (ℕ × ℕ)) (at value : ℕ) → Holds image placed → at < length image
    → is_taken image (at, value) ≡ false → Holds (slice_set image at (Some value)) (placed ++ (at, value) ∷ [])
one_written image placed at value holds inside free q w = elim (cases_eq q at) [
  | inl same ↦ here_written image placed at value holds inside free q w same
  | inr other ↦ there_written image placed at value holds q w other
]

-- a byte leaves the places behind it as they were
untouched : (image : List (Option ℕ)) (at start value : ℕ) (bytes : List ℕ) → at < start
    → list_any (is_taken (slice_set image at (Some value))) (enumerate_from start bytes) ≡ list_any (is_taken image) (enumerate_from start bytes)
untouched image at start value [] h = refl
untouched image at start value (b ∷ bytes) h =
    let other : start ≢ at = λ e. omega arith in
    let kept = get_or-set_other image at start (Some value) None other in
    let rest = untouched image at (start + 1) value bytes (omega arith) in
    rw (kept, rest) refl

-- a row of bytes more
pub row_written : (image : List (Option ℕ)) (placed : List (ℕ × ℕ)) (start : ℕ) (bytes : List ℕ) → Holds image placed
    → (0 < length bytes → start + length bytes ≤ length image) → list_any (is_taken image) (enumerate_from start bytes) ≡ false
    → Holds (written image (enumerate_from start bytes)) (placed ++ enumerate_from start bytes)
row_written image placed start [] holds inside free = rw append-nil holds
row_written image placed start (b ∷ bytes) holds inside free =
    let parts = or_parts (is_taken image (start, b)) _ free in
    let fits : start + length (b ∷ bytes) ≤ length image = inside (omega arith) in
    let first = one_written image placed start b holds (omega arith) parts.0 in
    let size = length-set image start (Some b) in
    let rest = row_written (slice_set image start (Some b)) (placed ++ (start, b) ∷ []) (start + 1) bytes first
    (λ some. omega (arith, size)) (untouched image start (start + 1) b bytes (omega arith) ∙ parts.1) in
    rw append_assoc at rest

pub length-written : (image : List (Option ℕ)) (bytes : List (ℕ × ℕ)) → length (written image bytes) ≡ length image
length-written image [] = refl
length-written image (byte ∷ bytes) = length-written (slice_set image byte.0 (Some byte.1)) bytes ∙ length-set image byte.0 (Some byte.1)
