-- The faults of a line by itself.
use Rattle.std.proofs.Common.{◌≡◌, ℕ, ◌+◌, ◌/◌, ◌%◌, ◌<◌, ◌⊎◌, Bool, true, false, List, [], ◌∷◌, length, drop, slice_index, refl, sym, ◌∙◌, ap, subst, eq-eqb, arith}
use Rattle.std.specs.Prelude.{Option, None, Some, not, unwrap_or, ◌==◌, ◌||◌, nat_lt, if◌then◌else◌}
use Rattle.std.specs.Option.{option_or}
use Rattle.std.specs.List.{list_all}
use Rattle.std.proofs.lemmas.Bool.Decides.{nat_tests}
use Rattle.hex.specs.Hex.{hex_digit_value, is_hex_digit}
use Rattle.ihex_read.specs.declared.fault.HexFault.{HexFault}
use Rattle.ihex_read.specs.declared.fault.HexFault.TheVariants.{NoColon, BadDigit, BadLength, BadSum, BadType, BadTypeLength}
use Rattle.ihex_read.specs.Alone.{IsWhole, alone_fault, shape_fault, content_fault, digits_fault}
use Rattle.ihex_read.specs.Record.{bytes_of, record_of, length_of, type_of, is_miscounted, is_length_of_type}
use Rattle.ihex_read.proofs.Digits.{length-bytes_of}

digit_small : (c : ℕ) → unwrap_or (hex_digit_value c) 0 < 16
digit_small c = grind (arith, nat_tests)

pub length_of-small : (digits : List ℕ) → length_of (bytes_of digits) < 256
length_of-small [] = omega arith
length_of-small (a ∷ []) = omega arith
length_of-small (a ∷ b ∷ digits) = let high = digit_small a in let low = digit_small b in omega (arith, high, low)

-- the three tests of `is_miscounted`, over numbers
test_miscounted : (n b first : ℕ) → b ≡ n / 2 → first < 256 → (n % 2 ≡ 1) ⊎ ((n / 2 < 5) ⊎ (260 < n / 2))
    → ((n % 2 == 1) || (nat_lt b 5 || not (first + 5 == b))) ≡ true
test_miscounted n b first e small h = grind (arith, nat_tests)

test_counted : (n b first : ℕ) → ((n % 2 == 1) || (nat_lt b 5 || not (first + 5 == b))) ≡ false → first + 5 ≡ b
test_counted n b first h = grind (arith, nat_tests)

either_fault : (all miscounted : Bool) → miscounted ≡ true
    → Some (if all then BadLength else BadDigit) ≡ (if not all then Some BadDigit else if miscounted then Some BadLength else None)
either_fault true true h = refl
either_fault true false h = cc h
either_fault false miscounted h = refl

no_shape_fault : (all miscounted : Bool)
    → None ≡ (if not all then Some BadDigit else if miscounted then Some BadLength else None) → miscounted ≡ false
no_shape_fault true true h = cc h
no_shape_fault true false h = refl
no_shape_fault false miscounted h = cc h

no_content_fault : (sums high fits : Bool)
    → None ≡ (if not sums then Some BadSum else if high then Some BadType else if not fits then Some BadTypeLength else None) → fits ≡ true
no_content_fault true true fits h = cc h
no_content_fault true false true h = refl
no_content_fault true false false h = cc h
no_content_fault false high fits h = cc h

in_two_steps : (colon all miscounted sums high fits : Bool) → colon ≡ true
    → (if not colon then Some NoColon else if not all then Some BadDigit else if miscounted then Some BadLength
    else if not sums then Some BadSum else if high then Some BadType else if not fits then Some BadTypeLength else None)
    ≡ option_or (if not all then Some BadDigit else if miscounted then Some BadLength else None)
    (if not sums then Some BadSum else if high then Some BadType else if not fits then Some BadTypeLength else None)
in_two_steps true true true sums high fits h = refl
in_two_steps true true false sums high fits h = refl
in_two_steps true false miscounted sums high fits h = refl
in_two_steps false all miscounted sums high fits h = cc h

-- digits of which no record can be made, whatever they are
pub misshaped : (digits : List ℕ) → (length digits % 2 ≡ 1) ⊎ ((length digits / 2 < 5) ⊎ (260 < length digits / 2))
    → Some (digits_fault digits) ≡ shape_fault digits
misshaped digits h = either_fault (list_all is_hex_digit digits) (is_miscounted digits)
    (test_miscounted (length digits) (length (bytes_of digits)) (length_of (bytes_of digits)) (length-bytes_of digits) (length_of-small digits) h)

-- the faults of a line that begins with a colon
pub alone_by : (line digits : List ℕ) → digits ≡ drop 1 line → slice_index line 0 ≡ 58
    → alone_fault line ≡ option_or (shape_fault digits) (content_fault (bytes_of digits))
alone_by line digits e colon = rw e
    (in_two_steps (slice_index line 0 == 58) (list_all is_hex_digit (drop 1 line)) (is_miscounted (drop 1 line)) _ _ _ (eq-eqb _ 58 colon))

whole_by : (bytes digits : List ℕ) → bytes ≡ bytes_of digits → None ≡ shape_fault digits → None ≡ content_fault bytes → IsWhole bytes
whole_by bytes digits e shape content = record {
  counted =
      test_counted (length digits) (length bytes) (length_of bytes) (rw e (no_shape_fault (list_all is_hex_digit digits) (is_miscounted digits) shape));
  fitting = no_content_fault _ _ (is_length_of_type (type_of bytes) (length_of bytes)) content;
}

-- a fault of the digits is the line's
pub shape_first : (line digits : List ℕ) (fault : HexFault) → digits ≡ drop 1 line → slice_index line 0 ≡ 58
    → Some fault ≡ shape_fault digits → Some fault ≡ alone_fault line
shape_first line digits fault e colon shape =
    ap (λ s. option_or s (content_fault (bytes_of digits))) shape ∙ sym (alone_by line digits e colon)

-- where the digits have none, the bytes tell the line's
pub content_next : (line digits bytes : List ℕ) (fault : Option HexFault) → digits ≡ drop 1 line → slice_index line 0 ≡ 58
    → None ≡ shape_fault digits → bytes ≡ bytes_of digits → fault ≡ content_fault bytes → fault ≡ alone_fault line
content_next line digits bytes fault e colon shape decoded content = content ∙ ap content_fault decoded
    ∙ ap (λ s. option_or s (content_fault (bytes_of digits))) shape ∙ sym (alone_by line digits e colon)

pub whole_record : (line digits bytes : List ℕ) → digits ≡ drop 1 line → bytes ≡ bytes_of digits → None ≡ shape_fault digits
    → None ≡ content_fault bytes → IsWhole (record_of line)
whole_record line digits bytes e decoded shape content =
    subst IsWhole (decoded ∙ ap bytes_of e) (whole_by bytes digits decoded shape content)
