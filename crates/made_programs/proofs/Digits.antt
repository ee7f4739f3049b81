-- The digits of bytes: each is a digit, they give the bytes back, and they make one line.
use Rattle.std.proofs.Common.{◌≡◌, ℕ, ◌+◌, ◌-◌, ◌*◌, ◌/◌, ◌%◌, ◌<◌, ◌==◌, true, false, List, [], ◌∷◌, ◌++◌, length, slice_index, refl, sym, ◌∙◌, ap, append-nil, append_assoc, arith}
use Rattle.std.specs.Prelude.{All, is_some, unwrap_or}
use Rattle.std.specs.List.{list_all}
use Rattle.std.proofs.lemmas.Bool.{and_parts, and_from, ne_eqb}
use Rattle.std.proofs.lemmas.List.Elements.{All-head, All-tail}
use Rattle.hex.specs.Hex.{encode_with, encode_upper, is_hex_digit, hex_digit_value, upper_digits}
use Rattle.hex.proofs.HexLemmas.{IsDigits, IsDigits-upper_digits, length-encode_with}
use Rattle.text_lines.specs.Lines.{lines_behind, lines_of, without_return}
use Rattle.ihex_read.specs.Record.{bytes_of}

abbrev pub AreBytes : List ℕ → Type 0
AreBytes xs = All (λ x. x < 256) xs

digits_by : (table bytes : List ℕ) → IsDigits table → AreBytes bytes → list_all is_hex_digit (encode_with table bytes) ≡ true
unfolding encode_with
digits_by table [] so are = refl
digits_by table (b ∷ bytes) so are =
    let small : b < 256 = All-head (λ x. x < 256) b bytes are in
    let rest = digits_by table bytes so (All-tail (λ x. x < 256) b bytes are) in
    let high : is_hex_digit (slice_index table (b / 16)) ≡ true = ap is_some (so (b / 16) (omega arith)) in
    let low : is_hex_digit (slice_index table (b % 16)) ≡ true = ap is_some (so (b % 16) (omega arith)) in
    and_from (is_hex_digit (slice_index table (b / 16))) _ high (and_from (is_hex_digit (slice_index table (b % 16))) _ low rest)

back_by : (table bytes : List ℕ) → IsDigits table → AreBytes bytes → bytes_of (encode_with table bytes) ≡ bytes
unfolding encode_with
back_by table [] so are = refl
back_by table (b ∷ bytes) so are =
    let small : b < 256 = All-head (λ x. x < 256) b bytes are in
    let rest = back_by table bytes so (All-tail (λ x. x < 256) b bytes are) in
    let high : unwrap_or (hex_digit_value (slice_index table (b / 16))) 0 ≡ b / 16 = ap (λ o. unwrap_or o 0) (so (b / 16) (omega arith)) in
    let low : unwrap_or (hex_digit_value (slice_index table (b % 16))) 0 ≡ b % 16 = ap (λ o. unwrap_or o 0) (so (b % 16) (omega arith)) in
    let byte : b / 16 * 16 + b % 16 ≡ b = omega arith in
    rw (high, low, byte, rest) refl

pub are_digits : (bytes : List ℕ) → AreBytes bytes → list_all is_hex_digit (encode_upper bytes) ≡ true
are_digits bytes are = digits_by upper_digits bytes IsDigits-upper_digits are

pub bytes_back : (bytes : List ℕ) → AreBytes bytes → bytes_of (encode_upper bytes) ≡ bytes
bytes_back bytes are = back_by upper_digits bytes IsDigits-upper_digits are

pub length-digits : (bytes : List ℕ) → length (encode_upper bytes) ≡ 2 * length bytes
length-digits bytes = length-encode_with upper_digits bytes

-- a digit ends no line, and is no carriage return
not_digit : (c d : ℕ) → is_hex_digit d ≡ false → is_hex_digit c ≡ true → c ≡ d → ⊥
not_digit c d other is same = cc

no_feed : (c : ℕ) → is_hex_digit c ≡ true → (c == 10) ≡ false
no_feed c is = ne_eqb c 10 (not_digit c 10 refl is)

-- digits and a line feed behind the first bytes of a line
line_ends : (begun digits text : List ℕ) → list_all is_hex_digit digits ≡ true
    → lines_behind begun (digits ++ 10 ∷ text) ≡ without_return (begun ++ digits) ∷ lines_behind [] text
line_ends begun [] text all = ap (λ line. without_return line ∷ lines_behind [] text) (sym (append-nil begun))
line_ends begun (c ∷ digits) text all =
    let parts = and_parts (is_hex_digit c) (list_all is_hex_digit digits) all in
    let more = line_ends (begun ++ c ∷ []) digits text parts.1 in
    rw (no_feed c parts.0, more) (ap (λ line. without_return line ∷ lines_behind [] text) (append_assoc begun (c ∷ []) digits))

-- the last of digits behind a byte that is no carriage return is none either
last_other : (c : ℕ) (digits : List ℕ) → (c ≡ 13 → ⊥) → list_all is_hex_digit digits ≡ true
    → slice_index (c ∷ digits) (length digits) ≡ 13 → ⊥
last_other c [] other all = other
last_other c (d ∷ digits) other all =
    let parts = and_parts (is_hex_digit d) (list_all is_hex_digit digits) all in
    last_other d digits (not_digit d 13 refl parts.0) parts.1

kept : (c : ℕ) (digits : List ℕ) → (c ≡ 13 → ⊥) → list_all is_hex_digit digits ≡ true → without_return (c ∷ digits) ≡ c ∷ digits
kept c digits other all =
    let place : length (c ∷ digits) - 1 ≡ length digits = omega arith in
    let test : (slice_index (c ∷ digits) (length (c ∷ digits) - 1) == 13) ≡ false =
    rw place (ne_eqb (slice_index (c ∷ digits) (length digits)) 13 (last_other c digits other all)) in
    rw test refl

-- a colon, the digits of bytes and a line feed are one line
pub one_line : (bytes text : List ℕ) → AreBytes bytes
    → lines_of ((58 ∷ encode_upper bytes ++ 10 ∷ []) ++ text) ≡ (58 ∷ encode_upper bytes) ∷ lines_of text
one_line bytes text are =
    let all = are_digits bytes are in
    ap (λ more. lines_behind (58 ∷ []) more) (append_assoc (encode_upper bytes) (10 ∷ []) text)
    ∙ line_ends (58 ∷ []) (encode_upper bytes) text all
    ∙ ap (λ line. line ∷ lines_behind [] text) (kept 58 (encode_upper bytes) (λ same. omega arith) all)
