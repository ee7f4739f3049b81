-- The numbers of pages: decimal, without leading zeros.
use Rattle.std.specs.Prelude.{◌≡◌, ℕ, ◌+◌, ◌<◌, ◌^◌, ◌==◌, nat_lt, if◌then◌else◌, true, false, List, [], ◌∷◌, length, map}
use Rattle.std.specs.Fmt.{decimal, digits}
use Rattle.std.specs.Int.Digits.{digits_of}
use Rattle.std.specs.List.{AllByRecursion}
use Rattle.std.proofs.Common.{refl, sym, ap, ap₂, ◌∙◌, inl, inr, arith, get_or}
use Rattle.std.proofs.lemmas.Bool.{cases_Bool, eqb-true, eqb-false, ltb-true, eq-eqb}
use Rattle.std.proofs.lemmas.Fmt.{decimal-digits_of}
use Rattle.std.proofs.lemmas.Int.Digits.{first_digits_of, same_from_digits_of}
use Rattle.text_fields.specs.Spelling.{has_byte}

-- digits as bytes
abbrev pub glyphs : List ℕ → List ℕ
glyphs digits = map (λ d. 48 + d) digits

-- the number as a text
unfoldable pub name_of : (number : ℕ) → List ℕ
name_of number = if number == 0 then 48 ∷ [] else glyphs (digits_of 10 number)

-- LAWS

name_zero : (n : ℕ) → (n == 0) ≡ true → name_of n ≡ 48 ∷ []
unfolding name_of
name_zero n is = rw is refl

name_some : (n : ℕ) → (n == 0) ≡ false → name_of n ≡ glyphs (digits_of 10 n)
unfolding name_of
name_some n some = rw some refl

abbrev tail : List ℕ → List ℕ
tail [] = []
tail (x ∷ xs) = xs

glyphs_once : (ds es : List ℕ) → glyphs ds ≡ glyphs es → ds ≡ es
glyphs_once [] [] e = refl
glyphs_once [] (d ∷ es) e = absurd (omega (arith, ap length e))
glyphs_once (d ∷ ds) [] e = absurd (omega (arith, ap length e))
glyphs_once (c ∷ ds) (d ∷ es) e =
    let first : c ≡ d = omega (arith, ap (λ (xs : List ℕ). get_or xs 0 0) e) in
    ap₂ (λ (x : ℕ) (xs : List ℕ). x ∷ xs) first (glyphs_once ds es (ap tail e))

-- no number above 0 is written as 0
never_zero : (n : ℕ) → (n == 0) ≡ false → 48 ∷ [] ≡ glyphs (digits_of 10 n) → ⊥
never_zero n some e =
    let first = first_digits_of 10 n (omega arith) (omega (arith, eqb-false n 0 some)) in
    omega (arith, first, ap (λ (xs : List ℕ). get_or xs 0 0) (glyphs_once (0 ∷ []) (digits_of 10 n) e))

-- no two numbers have one text
pub name_once : (m n : ℕ) → name_of m ≡ name_of n → m ≡ n
name_once m n e = elim (cases_Bool (m == 0)) [
  | inl none ↦ elim (cases_Bool (n == 0)) [
    | inl also ↦ eqb-true m 0 none ∙ sym (eqb-true n 0 also)
    | inr some ↦ absurd (never_zero n some (sym (name_zero m none) ∙ e ∙ name_some n some))
  ]
  | inr some ↦ elim (cases_Bool (n == 0)) [
    | inl also ↦ absurd (never_zero m some (sym (name_zero n also) ∙ sym e ∙ name_some m some))
    | inr more ↦ same_from_digits_of 10 m n (omega arith)
        (glyphs_once (digits_of 10 m) (digits_of 10 n) (sym (name_some m some) ∙ e ∙ name_some n more))
  ]
]

no_glyph : (at d : ℕ) → at < 48 → (48 + d == at) ≡ false
no_glyph at d low = grind (arith, low)

glyphs_avoid : (at : ℕ) → at < 48 → (ds : List ℕ) → has_byte at (glyphs ds) ≡ false
glyphs_avoid at low [] = refl
glyphs_avoid at low (d ∷ ds) = rw (no_glyph at d low) (glyphs_avoid at low ds)

-- only digits stand in a number
pub name_avoids : (at : ℕ) → at < 48 → (n : ℕ) → has_byte at (name_of n) ≡ false
name_avoids at low n = elim (cases_Bool (n == 0)) [
  | inl none ↦ ap (has_byte at) (name_zero n none) ∙ glyphs_avoid at low (0 ∷ [])
  | inr some ↦ ap (has_byte at) (name_some n some) ∙ glyphs_avoid at low (digits_of 10 n)
]

-- it is what a number of a machine writes
pub name_decimal : (n : ℕ) → n < 2 ^ 64 → name_of n ≡ decimal n
unfolding digits
name_decimal n small = elim (cases_Bool (n == 0)) [
  | inl none ↦ name_zero n none ∙ ap decimal (sym (eqb-true n 0 none))
  | inr some ↦ name_some n some ∙ sym (decimal-digits_of n (omega (arith, eqb-false n 0 some)) small)
]
