-- Known bits: 0, 1, or x for one that may be either, the highest bit first.
use Rattle.std.specs.Prelude.{◌≡◌, ℕ, true, Option, List, [], ◌∷◌, reverse, length}
use Rattle.std.specs.List.{AllByRecursion}
use Rattle.std.proofs.Common.{refl, sym, ◌∙◌, inl, inr}
use Rattle.std.proofs.lemmas.List.{reverse-reverse, length-reverse}
use Rattle.value_bits.specs.declared.tri.Tri.{Tri}
use Rattle.value_bits.specs.declared.tri.Tri.TheVariants.{Zero, One, Either}
use Rattle.text_fields.specs.Spelling.{Spelling, IsExact, Avoids}
use Rattle.text_fields.specs.Fields.{one_of, one_of_is_exact, one_of_avoids, none_has, told_by, told_by_is_exact, told_by_avoids, restated, restated_is_exact, restated_avoids}
use Rattle.text_fields.specs.Items.{IsItem}
use Rattle.text_fields.specs.Lists.{in_row, in_row_is_exact, in_row_avoids}

abbrev pub bit_code : Tri → ℕ
bit_code Zero = 48
bit_code One = 49
bit_code Either = 120

abbrev pub all_bits : List Tri
all_bits = Zero ∷ One ∷ Either ∷ []

abbrev pub bit_field : Spelling Tri
bit_field = one_of (λ bit. bit_code bit ∷ []) all_bits

-- the bit that a character stands for
abbrev pub bit_of : ℕ → Option Tri
bit_of b = bit_field.value (b ∷ [])

-- so many bits, which are listed from the lowest on
abbrev pub bits_field : (count : ℕ) → Spelling (List Tri)
bits_field count = restated (told_by (in_row count bit_field) reverse reverse) (λ bits. length bits ≡ count)

-- LAWS

pub bit_is_exact : IsExact bit_field
bit_is_exact = one_of_is_exact (λ bit. bit_code bit ∷ []) all_bits refl

pub bit_form : (bit : Tri) → bit_field.Form bit
bit_form Zero = inl refl
bit_form One = inr (inl refl)
bit_form Either = inr (inr (inl refl))

bits_forms : (bits : List Tri) → AllByRecursion bit_field.Form bits
bits_forms [] = tt
bits_forms (bit ∷ bits) = (bit_form bit, bits_forms bits)

bits_narrow : (count : ℕ) (bits : List Tri) → length bits ≡ count → (told_by (in_row count bit_field) reverse reverse).Form bits
bits_narrow count bits long = ((length-reverse bits ∙ long, bits_forms (reverse bits)), reverse-reverse bits)

pub bits_is_exact : (count : ℕ) → IsExact (bits_field count)
bits_is_exact count =
    restated_is_exact (told_by (in_row count bit_field) reverse reverse) (λ bits. length bits ≡ count)
    (told_by_is_exact (in_row count bit_field) reverse reverse (in_row_is_exact count bit_field bit_is_exact (λ bit form. refl))
    (λ bits form. reverse-reverse bits))
    (bits_narrow count) (λ bits form. sym (length-reverse bits) ∙ form.0.0)

pub bits_avoids : (count at : ℕ) → none_has at ((48 ∷ []) ∷ (49 ∷ []) ∷ (120 ∷ []) ∷ []) ≡ true → Avoids (bits_field count) at
bits_avoids count at none =
    restated_avoids (told_by (in_row count bit_field) reverse reverse) (λ bits. length bits ≡ count) at (bits_narrow count)
    (told_by_avoids (in_row count bit_field) reverse reverse at (in_row_avoids count bit_field at (one_of_avoids (λ bit. bit_code bit ∷ []) all_bits at none)))

-- AS ITEMS OF A LINE

pub bit_item : IsItem bit_field
bit_item = record {
  exact = bit_is_exact;
  no_space = one_of_avoids (λ bit. bit_code bit ∷ []) all_bits 32 refl;
  no_feed = one_of_avoids (λ bit. bit_code bit ∷ []) all_bits 10 refl;
}

pub bits_item : (count : ℕ) → IsItem (bits_field count)
bits_item count = record { exact = bits_is_exact count; no_space = bits_avoids count 32 refl; no_feed = bits_avoids count 10 refl }
