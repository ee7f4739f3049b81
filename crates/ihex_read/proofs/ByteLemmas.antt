-- An image that lines denote has a byte or nothing at each of its 65,536 addresses.
use Rattle.std.proofs.Common.{◌≡◌, ℕ, ◌<◌, ◌+◌, ◌*◌, ◌-◌, ◌==◌, Bool, true, false, Option, None, Some, List, [], ◌∷◌, length, drop, refl, arith, suc}
use Rattle.std.specs.Prelude.{All, unwrap_or, if◌then◌else◌, nat_le, ◌&&◌}
use Rattle.std.specs.List.{enumerate_from}
use Rattle.std.proofs.lemmas.List.Elements.{All-nil, All-cons, All-take, All-drop, All-append, All-contains, All-from_get_or}
use Rattle.std.proofs.lemmas.Bool.{leb-true}
use Rattle.hex.specs.Hex.{hex_digit_value}
use Rattle.image.specs.Image.{byte_at, IsByte}
use Rattle.ihex_read.specs.ImageText.{placed_from, placed_of, Denotes, IsImage}
use Rattle.image.specs.declared.rule_set.Rules.{Rules}
use Rattle.image.specs.declared.tail.Tail.{Tail}
use Rattle.ihex_read.specs.Record.{bytes_of, record_of, data_of, placed_by, base_behind, offset_of, type_of}
use Rattle.std.proofs.lemmas.Bool.{and_parts}

abbrev AreBytes : List ℕ → Type 0
AreBytes xs = All (λ x. x < 256) xs

-- each second part is a byte
abbrev ArePlaced : List (ℕ × ℕ) → Type 0
ArePlaced pairs = All (λ (p : ℕ × ℕ). p.1 < 256) pairs

-- a digit's value is below 16
digit_below : (c : ℕ) → unwrap_or (hex_digit_value c) 0 < 16
digit_below c = upper (nat_le 65 c && nat_le c 70) refl
  where
    decimal : (b : Bool) → (nat_le 48 c && nat_le c 57) ≡ b → unwrap_or (if b then Some (c - 48) else None) 0 < 16
    decimal true e = let top = leb-true c 57 (and_parts (nat_le 48 c) (nat_le c 57) e).1 in omega (arith, top)
    decimal false e = omega arith

    lower : (b : Bool) → (nat_le 97 c && nat_le c 102) ≡ b
        → unwrap_or (if b then Some (c - 87) else if nat_le 48 c && nat_le c 57 then Some (c - 48) else None) 0 < 16
    lower true e = let top = leb-true c 102 (and_parts (nat_le 97 c) (nat_le c 102) e).1 in omega (arith, top)
    lower false e = decimal (nat_le 48 c && nat_le c 57) refl

    upper : (b : Bool) → (nat_le 65 c && nat_le c 70) ≡ b
        → unwrap_or (if b then Some (c - 55) else if nat_le 97 c && nat_le c 102 then Some (c - 87) else if nat_le 48 c && nat_le c 57 then Some (c - 48) else None) 0 < 16
    upper true e = let top = leb-true c 70 (and_parts (nat_le 65 c) (nat_le c 70) e).1 in omega (arith, top)
    upper false e = lower (nat_le 97 c && nat_le c 102) refl

bytes_of-are : (digits : List ℕ) → AreBytes (bytes_of digits)
bytes_of-are [] = All-nil (λ x. x < 256)
bytes_of-are (digit ∷ []) = All-nil (λ x. x < 256)
bytes_of-are (high ∷ low ∷ digits) =
    All-cons (λ x. x < 256) (unwrap_or (hex_digit_value high) 0 * 16 + unwrap_or (hex_digit_value low) 0) (bytes_of digits)
    (omega (arith, digit_below high, digit_below low)) (bytes_of-are digits)

enumerated : (n : ℕ) (xs : List ℕ) → AreBytes xs → ArePlaced (enumerate_from n xs)
enumerated n [] are = All-nil (λ (p : ℕ × ℕ). p.1 < 256)
enumerated n (x ∷ xs) are =
    All-cons (λ (p : ℕ × ℕ). p.1 < 256) (n, x) (enumerate_from (n + 1) xs) (are 0 x (omega arith))
    (enumerated (n + 1) xs (λ k d lt. are (suc k) d (omega arith)))

placed_by-are : (base : ℕ) (bytes : List ℕ) → AreBytes bytes → ArePlaced (placed_by base bytes)
placed_by-are base bytes are =
    elim (type_of bytes == 0) as (λ b. ArePlaced (if b then enumerate_from (base + offset_of bytes) (data_of bytes) else [])) [
      | true ↦ enumerated (base + offset_of bytes) (data_of bytes)
          (All-take (λ x. x < 256) (length bytes - 5) (drop 4 bytes) (All-drop (λ x. x < 256) 4 bytes are))
      | false ↦ All-nil (λ (p : ℕ × ℕ). p.1 < 256)
    ]

placed_from-are : (lines : List (List ℕ)) (base : ℕ) → ArePlaced (placed_from base lines)
placed_from-are [] base = All-nil (λ (p : ℕ × ℕ). p.1 < 256)
placed_from-are (line ∷ lines) base =
    All-append (λ (p : ℕ × ℕ). p.1 < 256) (placed_by base (record_of line)) (placed_from (base_behind base (record_of line)) lines)
    (placed_by-are base (record_of line) (bytes_of-are (drop 1 line)))
    (placed_from-are lines (base_behind base (record_of line)))

byte_at-is : (image : List (Option ℕ)) (lines : List (List ℕ)) → IsImage image lines → (at : ℕ) (found : Option ℕ)
    → byte_at image at ≡ found → IsByte found
byte_at-is image lines is at None e = tt
byte_at-is image lines is at (Some value) e =
    All-contains (λ (p : ℕ × ℕ). p.1 < 256) (placed_of lines) (at, value) (placed_from-are lines 0) ((is.bytes at value).0 e)

pub denoted_bytes : (rules : Rules) (tail : Tail) (lines : List (List ℕ)) (image : List (Option ℕ)) → Denotes rules tail lines image
    → (length image ≡ 65536) × All IsByte image
denoted_bytes rules tail lines image denoted =
    let is = denoted.5 in (
      is.size,
      All-from_get_or IsByte image None (λ at lt. byte_at-is image denoted.0 is at (byte_at image at) refl),
    )
