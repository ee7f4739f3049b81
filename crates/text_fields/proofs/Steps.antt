-- Steps of the loops.
use Rattle.std.proofs.Common.{◌≡◌, ℕ, zero, suc, ◌-◌, ◌/◌, ◌%◌, ◌≤◌, Option, List, [], ◌∷◌, ◌++◌, take, drop, get_or, length, sym, ap, ap₂, ◌∙◌, arith, append_assoc}
use Rattle.std.specs.Prelude.{option_map}
use Rattle.std.proofs.lemmas.List.{append-nil, drop_all, take_rest}
use Rattle.hex_digits.specs.Digits.{hex, hex_digit}
use Rattle.text_fields.specs.Spelling.{Spelling}
use Rattle.text_fields.specs.Lists.{listed, listed_others, others_text}

-- CUTS

-- more in front of what stands before the cut
abbrev pub prefixed : List ℕ → Option (List ℕ × List ℕ) → Option (List ℕ × List ℕ)
prefixed front parts = option_map (λ p. (front ++ p.0, p.1)) parts

-- NUMBERS

-- the last digit behind the others
pub hex_last : (digits n digit : ℕ) (old before all : List ℕ) → 1 ≤ digits → before ≡ old ++ hex (digits - 1) (n / 16)
    → all ≡ before ++ digit ∷ []
    → digit ≡ hex_digit (n % 16)
    → all ≡ old ++ hex digits n
hex_last zero n digit old before all some is pushed same = absurd (omega arith)
hex_last (suc digits) n digit old before all some is pushed same =
    let one_less : suc digits - 1 ≡ digits = omega arith in
    pushed ∙ ap₂ (λ front d. front ++ d ∷ []) (is ∙ ap (λ d. old ++ hex d (n / 16)) one_less) same
    ∙ append_assoc old (hex digits (n / 16)) (hex_digit (n % 16) ∷ [])

-- LISTS

-- all values behind the first one
pub list_pushed : {A : Type 0} (s : Spelling A) (at : ℕ) (values others : List A) (first : A) (i : ℕ) (old pushed all : List ℕ)
    → 1 ≤ length values
    → first ≡ get_or values 0 first
    → others ≡ take (length values - 1) (drop 1 values) → length others ≤ i → pushed ≡ old ++ s.text first
    → all ++ others_text s at (drop i others) ≡ pushed ++ others_text s at others → all ≡ old ++ (listed s at).text values
list_pushed s at [] others first i old pushed all some is rest past one so_far = absurd (omega arith)
list_pushed s at (x ∷ xs) others first i old pushed all some is rest past one so_far =
    let whole : others ≡ xs = rest ∙ take_rest (x ∷ xs) 1 in
    sym (append-nil all) ∙ ap (λ rest. all ++ others_text s at rest) (sym (drop_all i others past)) ∙ so_far
    ∙ ap₂ (λ front ys. front ++ others_text s at ys) (one ∙ ap (λ y. old ++ s.text y) is) whole
    ∙ append_assoc old (s.text x) (others_text s at xs) ∙ ap (λ t. old ++ t) (sym (listed_others s at x xs))
