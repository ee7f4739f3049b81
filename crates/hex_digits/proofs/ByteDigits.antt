-- The digits of bytes.
use Rattle.std.proofs.Common.{◌≡◌, ℕ, ◌+◌, ◌*◌, ◌-◌, List, [], ◌∷◌, ◌++◌, take, drop, refl, sym, ◌∙◌, ap, ap₂, append_assoc, arith}
use Rattle.std.proofs.lemmas.List.{append-nil, take-append-drop, take-take, drop-take}
use Rattle.hex_digits.specs.Digits.{hex, hex_bytes}

hex_bytes-append : (xs ys : List ℕ) → hex_bytes (xs ++ ys) ≡ hex_bytes xs ++ hex_bytes ys
hex_bytes-append [] ys = refl
hex_bytes-append (x ∷ xs) ys = ap (λ (zs : List ℕ). hex 2 x ++ zs) (hex_bytes-append xs ys) ∙ sym (append_assoc (hex 2 x) (hex_bytes xs) (hex_bytes ys))

take_two : (i : ℕ) (text : List ℕ) → take i text ++ take 2 (drop i text) ≡ take (i + 2) text
take_two i text = ap₂ (λ (xs ys : List ℕ). xs ++ ys) (sym (take-take i (i + 2) text (omega arith))) (sym (drop-take i 2 text)) ∙ take-append-drop i (take (i + 2) text)

pub byte_more : (i byte : ℕ) (bytes more text : List ℕ) → more ≡ bytes ++ byte ∷ []
    → hex_bytes bytes ≡ take (2 * i) text → hex 2 byte ≡ take (2 * i + 2 - 2 * i) (drop (2 * i) text)
    → hex_bytes more ≡ take (2 * (i + 1)) text
byte_more i byte bytes more text is so_far here =
    let e : 2 * i + 2 ≡ 2 * (i + 1) = omega arith in
    let two : 2 * i + 2 - 2 * i ≡ 2 = omega arith in
    ap hex_bytes is ∙ hex_bytes-append bytes (byte ∷ []) ∙ ap (λ (zs : List ℕ). hex_bytes bytes ++ zs) (append-nil (hex 2 byte))
    ∙ ap (λ (zs : List ℕ). zs ++ hex 2 byte) so_far ∙ ap (λ (zs : List ℕ). take (2 * i) text ++ zs) (here ∙ ap (λ (n : ℕ). take n (drop (2 * i) text)) two) ∙ take_two (2 * i) text ∙ ap (λ (n : ℕ). take n text) e
