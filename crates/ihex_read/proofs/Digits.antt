-- Hexadecimal digits and the bytes that they give, beside what `hex` decodes.
use Rattle.std.proofs.Common.{◌≡◌, ℕ, ◌+◌, ◌*◌, ◌/◌, true, List, [], ◌∷◌, length, refl, sym, ◌∙◌, ap, arith}
use Rattle.std.specs.Prelude.{Option, Result, Ok, Err, Some, None, unwrap_or, MatchResult, is_ok}
use Rattle.std.specs.List.{list_all}
use Rattle.std.specs.Cmp.{both_ways}
use Rattle.std.proofs.lemmas.List.Sums.{AllPass-from_list_all, list_all-from_AllPass}
use Rattle.hex.specs.Hex.{hex_digit_value, is_hex_digit, digit_or_error, value_at, pair_value, decode_pairs, decode_sized, ◌>>=◌}
use Rattle.hex.specs.declared.error.FromHexError.{FromHexError}
use Rattle.hex.proofs.HexLemmas.{IsOk-decode_sized, decode_sized-twice, decode_of-even}
use Rattle.ihex_read.specs.Record.{bytes_of}

-- two digits give one byte
pub length-bytes_of : (digits : List ℕ) → length (bytes_of digits) ≡ length digits / 2
length-bytes_of [] = refl
length-bytes_of (a ∷ []) = refl
length-bytes_of (a ∷ b ∷ digits) = let step = length-bytes_of digits in omega (arith, step)

bind_ok : {A B : Type 0} (r : Result A FromHexError) (f : A → Result B FromHexError) (y : B) → (r >>= f) ≡ Ok y
    → (x : A) × (r ≡ Ok x) × (f x ≡ Ok y)
bind_ok (Ok x) f y h = (x, refl, h)
bind_ok (Err e) f y h = cc h

digit_read : (c i : ℕ) (o : Option ℕ) (v : ℕ) → digit_or_error c i o ≡ Ok v → unwrap_or o 0 ≡ v
digit_read c i (Some w) v h = cc h
digit_read c i None v h = cc h

-- what `hex` decodes
pub bytes_of-decode_pairs : (i : ℕ) (digits bytes : List ℕ) → decode_pairs i digits ≡ Ok bytes → bytes_of digits ≡ bytes
unfolding decode_pairs
bytes_of-decode_pairs i [] bytes h = cc h
bytes_of-decode_pairs i (a ∷ []) bytes h = cc h
bytes_of-decode_pairs i (a ∷ b ∷ digits) bytes h =
    let pair = bind_ok (pair_value a b i) _ bytes h in
    let high = bind_ok (value_at a i) _ pair.0 pair.1 in
    let low = bind_ok (value_at b (i + 1)) _ pair.0 high.2 in
    let rest = bind_ok (decode_pairs (i + 2) digits) _ bytes pair.2 in
    let step = bytes_of-decode_pairs (i + 2) digits rest.0 rest.1 in
    let first = digit_read a i (hex_digit_value a) high.0 high.1 in
    let second = digit_read b (i + 1) (hex_digit_value b) low.0 low.1 in
    cc (rest.2, low.2, step, first, second)

-- what decoding into room for half as many bytes answers
pub all_digits : (digits : List ℕ) (n : ℕ) → length digits ≡ 2 * n → is_ok (decode_sized digits n) ≡ list_all is_hex_digit digits
all_digits digits n twice = let both = IsOk-decode_sized digits n in
    both_ways _ _ (λ ok. list_all-from_AllPass is_hex_digit digits (both.0 ok).1)
    (λ all. both.1 (twice, AllPass-from_list_all is_hex_digit digits all))

decoded : (digits : List ℕ) (n : ℕ) (bytes : List ℕ) → length digits ≡ 2 * n → decode_sized digits n ≡ Ok bytes → bytes_of digits ≡ bytes
decoded digits n bytes twice h = bytes_of-decode_pairs 0 digits bytes
    (sym (decode_of-even digits (omega arith)) ∙ sym (decode_sized-twice digits n twice) ∙ h)

-- the answer of `decode_to_slice`, by the answer of the decoder
answer : (digits : List ℕ) (n : ℕ) (r : Result (Unit {0}) FromHexError) (out : List ℕ) (d : Result (List ℕ) FromHexError)
    → length digits ≡ 2 * n
    → decode_sized digits n ≡ d → MatchResult d (λ bytes. (r ≡ Ok tt) × (out ≡ bytes)) (λ e. r ≡ Err e)
    → (is_ok r ≡ is_ok d) × (is_ok r ≡ true → out ≡ bytes_of digits)
answer digits n r out (Ok bytes) twice e h = (ap is_ok h.0, λ _. h.1 ∙ sym (decoded digits n bytes twice e))
answer digits n r out (Err f) twice e h = (ap is_ok h, λ ok. cc (ok, h))

pub reads : (digits : List ℕ) (n : ℕ) (r : Result (Unit {0}) FromHexError) (out : List ℕ) → length digits ≡ 2 * n
    → MatchResult (decode_sized digits n) (λ bytes. (r ≡ Ok tt) × (out ≡ bytes)) (λ e. r ≡ Err e)
    → (is_ok r ≡ list_all is_hex_digit digits) × (is_ok r ≡ true → out ≡ bytes_of digits)
reads digits n r out twice h = let told = answer digits n r out (decode_sized digits n) twice refl h in
    (told.0 ∙ all_digits digits n twice, told.1)
