-- The line of a data record, and what the reader finds in it.
use Rattle.std.proofs.Common.{◌≡◌, ℕ, ◌+◌, ◌-◌, ◌*◌, ◌/◌, ◌%◌, ◌<◌, ◌≤◌, ◌==◌, ◌||◌, not, nat_lt, false, List, [], ◌∷◌, ◌++◌, length, drop, sum, refl, sym, ◌∙◌, ap, length-append, take_at, ne_eqb, eq-eqb, le-ltb, arith}
use Rattle.std.specs.List.{enumerate_from}
use Rattle.std.proofs.lemmas.List.Elements.{All-cons, All-nil, All-append}
use Rattle.std.proofs.lemmas.List.Sums.{sum_by_push}
use Rattle.hex.specs.Hex.{encode_upper}
use Rattle.image_gen.specs.Records.{checksum_of, front_of, record_line}
use Rattle.ihex_read.specs.declared.fault.HexFault.TheVariants.{NoColon, BadDigit, BadLength, BadSum, BadType, BadTypeLength}
use Rattle.ihex_read.specs.ImageText.{has_alone, is_end}
use Rattle.text_lines.specs.Lines.{lines_of}
use Rattle.ihex_read.specs.Record.{record_of, is_miscounted, length_of, type_of, data_of, base_behind, placed_by}
use Rattle.made_programs.proofs.Digits.{AreBytes, are_digits, bytes_back, length-digits, one_line}

-- a data record with its checksum
abbrev pub whole_record : ℕ → List ℕ → List ℕ
whole_record at bytes = front_of at bytes ++ checksum_of (front_of at bytes) ∷ []

abbrev pub line_at : ℕ → List ℕ → List ℕ
line_at at bytes = 58 ∷ encode_upper (whole_record at bytes)

-- bytes of a record that starts in memory
pub record IsRow (at : ℕ) (bytes : List ℕ) : Type 0 where
  pub starts : at < 65536
  pub short : length bytes ≤ 16
  pub bytes_are : AreBytes bytes

whole_bytes : (at : ℕ) (bytes : List ℕ) → IsRow at bytes → AreBytes (whole_record at bytes)
whole_bytes at bytes row =
    let small : ℕ → Type 0 = λ x. x < 256 in
    let check : checksum_of (front_of at bytes) < 256 = omega arith in
    All-append small (front_of at bytes) (checksum_of (front_of at bytes) ∷ [])
    (All-cons small (length bytes) (at / 256 ∷ at % 256 ∷ 0 ∷ bytes) (omega (arith, row.short))
    (All-cons small (at / 256) (at % 256 ∷ 0 ∷ bytes) (omega (arith, row.starts))
    (All-cons small (at % 256) (0 ∷ bytes) (omega arith)
    (All-cons small 0 bytes (omega arith) row.bytes_are))))
    (All-cons small (checksum_of (front_of at bytes)) [] check (All-nil small))

-- the reader finds the record
pub record_back : (at : ℕ) (bytes : List ℕ) → IsRow at bytes → record_of (line_at at bytes) ≡ whole_record at bytes
record_back at bytes row = bytes_back (whole_record at bytes) (whole_bytes at bytes row)

pub line_found : (at : ℕ) (bytes text : List ℕ) → IsRow at bytes
    → lines_of (record_line at bytes ++ text) ≡ line_at at bytes ∷ lines_of text
line_found at bytes text row = one_line (whole_record at bytes) text (whole_bytes at bytes row)

pub length-whole : (at : ℕ) (bytes : List ℕ) → length (whole_record at bytes) ≡ length bytes + 5
length-whole at bytes = omega (arith, length-append (front_of at bytes) (checksum_of (front_of at bytes) ∷ []))

sum_zero : (n : ℕ) → (n + (256 - n % 256) % 256) % 256 ≡ 0
sum_zero n = omega arith

sum-whole : (at : ℕ) (bytes : List ℕ) → sum (whole_record at bytes) % 256 ≡ 0
sum-whole at bytes =
    ap (λ n. n % 256) (sum_by_push (λ x. x) (front_of at bytes) (checksum_of (front_of at bytes)))
    ∙ sum_zero (sum (front_of at bytes))

-- the three tests of `is_miscounted`, over numbers
counted : (n b first : ℕ) → n ≡ 2 * b → b ≡ first + 5 → ((n % 2 == 1) || (nat_lt b 5 || not (first + 5 == b))) ≡ false
counted n b first twice is =
    let even = ne_eqb (n % 2) 1 (λ odd. omega arith) in
    let long = le-ltb b 5 (omega arith) in
    let same = eq-eqb (first + 5) b (sym is) in
    rw (even, long, same) refl

digits_counted : (at : ℕ) (bytes : List ℕ) → IsRow at bytes → is_miscounted (drop 1 (line_at at bytes)) ≡ false
digits_counted at bytes row =
    let back = record_back at bytes row in
    let long = length-whole at bytes in
    counted (length (encode_upper (whole_record at bytes))) (length (record_of (line_at at bytes))) (length_of (record_of (line_at at bytes)))
    (length-digits (whole_record at bytes) ∙ ap (λ xs. 2 * length xs) (sym back))
    (ap length back ∙ long ∙ ap (λ xs. length_of xs + 5) (sym back))

-- no fault of its own
pub record NoneAlone (line : List ℕ) : Type 0 where
  pub colon : has_alone line NoColon ≡ false
  pub digit : has_alone line BadDigit ≡ false
  pub long : has_alone line BadLength ≡ false
  pub summed : has_alone line BadSum ≡ false
  pub kind : has_alone line BadType ≡ false
  pub kind_long : has_alone line BadTypeLength ≡ false

pub none_alone : (at : ℕ) (bytes : List ℕ) → IsRow at bytes → NoneAlone (line_at at bytes)
none_alone at bytes row =
    let back = record_back at bytes row in
    let digits = are_digits (whole_record at bytes) (whole_bytes at bytes row) in
    record {
      colon = refl;
      digit = ap not digits;
      long = digits_counted at bytes row;
      summed = ap (λ xs. not (sum xs % 256 == 0)) back ∙ ap not (eq-eqb (sum (whole_record at bytes) % 256) 0 (sum-whole at bytes));
      kind = ap (λ xs. nat_lt 5 (type_of xs)) back;
      kind_long = rw back refl;
    }

pub no_end : (at : ℕ) (bytes : List ℕ) → IsRow at bytes → is_end (line_at at bytes) ≡ false
no_end at bytes row = ap (λ xs. type_of xs == 1) (record_back at bytes row)

pub base_stays : (base at : ℕ) (bytes : List ℕ) → IsRow at bytes → base_behind base (record_of (line_at at bytes)) ≡ base
base_stays base at bytes row = ap (base_behind base) (record_back at bytes row)

data_back : (at : ℕ) (bytes : List ℕ) → data_of (whole_record at bytes) ≡ bytes
data_back at bytes =
    let long = length-whole at bytes in
    take_at bytes (checksum_of (front_of at bytes) ∷ []) (length (whole_record at bytes) - 5) (omega arith)

pub placed_back : (at : ℕ) (bytes : List ℕ) → IsRow at bytes → placed_by 0 (record_of (line_at at bytes)) ≡ enumerate_from at bytes
placed_back at bytes row =
    let place : 0 + (at / 256 * 256 + at % 256) ≡ at = omega arith in
    ap (placed_by 0) (record_back at bytes row)
    ∙ ap (λ xs. enumerate_from (0 + (at / 256 * 256 + at % 256)) xs) (data_back at bytes)
    ∙ ap (λ n. enumerate_from n bytes) place
