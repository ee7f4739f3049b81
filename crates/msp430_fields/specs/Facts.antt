-- What the flags say of a register: a dash for nothing, or the register, a plus, what is added, a colon, what the sum is
-- compared with, a dot, and w or b for words or bytes.
use Rattle.std.specs.Prelude.{◌≡◌, ℕ, ◌<◌, ◌==◌, ◌&&◌, nat_lt, Bool, true, false, Option, None, Some, List, [], ◌∷◌, codes, map}
use Rattle.std.proofs.Common.{refl, sym, ◌∙◌, inl, inr, arith}
use Rattle.std.proofs.lemmas.Bool.{and_parts, and_from, true≢false, ltb-true, lt-ltb}
use Rattle.msp430_decode.specs.declared.instr.Width.{Width}
use Rattle.msp430_decode.specs.declared.instr.Width.TheVariants.{Word, Byte}
use Rattle.msp430_chip.specs.Arithmetic.{modulus}
use Rattle.msp430_state.specs.declared.fact.FlagFact.{FlagFact}
use Rattle.msp430_state.specs.Forms.{IsFact}
use Rattle.text_fields.specs.Spelling.{Spelling, IsExact, Avoids, has_byte}
use Rattle.text_fields.specs.Numbers.{is_digit, hex_number, hex_number_is_exact, number_avoids}
use Rattle.text_fields.specs.Fields.{IfForm, byte_differs, one_of, one_of_is_exact, one_of_avoids, none_has, passing, passing_is_exact, passing_avoids, or_mark, or_mark_is_exact, or_mark_avoids, beside, beside_is_exact, beside_avoids, told_by, told_by_is_exact, told_by_avoids, restated, restated_is_exact, restated_avoids}
use Rattle.text_fields.specs.Items.{IsItem}
use Rattle.msp430_fields.specs.Places.{register_field, register_is_exact, register_avoids, register_rows}

-- THE FIELD

abbrev pub width_text : Width → List ℕ
width_text Word = codes "w"
width_text Byte = codes "b"

abbrev pub width_field : Spelling Width
width_field = one_of width_text (Word ∷ Byte ∷ [])

-- what the sum is compared with, and the width
abbrev pub compared_field : Spelling (ℕ × Width)
compared_field = beside 46 (hex_number 4) width_field

-- what is added, and these
abbrev pub numbers_field : Spelling (ℕ × (ℕ × Width))
numbers_field = beside 58 (hex_number 4) compared_field

-- both numbers are of the width
abbrev pub are_of_width : Width → ℕ → ℕ → Bool
are_of_width width added compared = nat_lt added (modulus width) && nat_lt compared (modulus width)

abbrev pub Parts : Type 0
Parts = ℕ × (ℕ × (ℕ × Width))

abbrev pub untested : Spelling Parts
untested = beside 43 register_field numbers_field

abbrev pub parts_field : Spelling Parts
parts_field = passing untested (λ parts. are_of_width parts.1.1.1 parts.1.0 parts.1.1.0)

abbrev pub fact_of : Parts → FlagFact
fact_of parts = record { register = parts.0; added = parts.1.0; compared = parts.1.1.0; width = parts.1.1.1 }

abbrev pub parts_of : FlagFact → Parts
parts_of fact = (fact.register, (fact.added, (fact.compared, fact.width)))

abbrev pub some_fact : Spelling FlagFact
some_fact = told_by parts_field fact_of parts_of

-- perhaps a fact
abbrev pub fact_field : Spelling (Option FlagFact)
fact_field = restated (or_mark some_fact (codes "-")) IsFact

-- LAWS

width_form : (width : Width) → width_field.Form width
width_form Word = inl refl
width_form Byte = inr (inl refl)

width_below : (width : Width) (n : ℕ) → n < modulus width → n < 65536
width_below Word n small = small
width_below Byte n small = omega (arith, small)

fact_narrow : (fact : Option FlagFact) → IsFact fact → IfForm some_fact.Form fact
fact_narrow None form = tt
fact_narrow (Some fact) form = (
  (
    ((form.0, form.1), (width_below fact.width fact.added form.2, (width_below fact.width fact.compared form.3, width_form fact.width))),
    and_from (nat_lt fact.added (modulus fact.width)) _ (lt-ltb fact.added (modulus fact.width) form.2)
        (lt-ltb fact.compared (modulus fact.width) form.3),
  ),
  refl,
)

fact_wide : (fact : Option FlagFact) → IfForm some_fact.Form fact → IsFact fact
fact_wide None form = tt
fact_wide (Some fact) form =
    let parts = and_parts (nat_lt fact.added (modulus fact.width)) _ form.0.1 in
    (form.0.0.0.0, form.0.0.0.1, ltb-true fact.added (modulus fact.width) parts.0, ltb-true fact.compared (modulus fact.width) parts.1)

width_is_exact : IsExact width_field
width_is_exact = one_of_is_exact width_text (Word ∷ Byte ∷ []) refl

compared_is_exact : IsExact compared_field
compared_is_exact = beside_is_exact 46 (hex_number 4) width_field (hex_number_is_exact 4) width_is_exact (number_avoids 4 46 refl)

numbers_is_exact : IsExact numbers_field
numbers_is_exact = beside_is_exact 58 (hex_number 4) compared_field (hex_number_is_exact 4) compared_is_exact (number_avoids 4 58 refl)

parts_is_exact : IsExact parts_field
parts_is_exact =
    passing_is_exact untested (λ parts. are_of_width parts.1.1.1 parts.1.0 parts.1.1.0)
    (beside_is_exact 43 register_field numbers_field register_is_exact numbers_is_exact (register_avoids 43 refl))

some_is_exact : IsExact some_fact
some_is_exact = told_by_is_exact parts_field fact_of parts_of parts_is_exact (λ parts form. refl)

-- a fact has no dash
some_avoids : (at : ℕ) → is_digit at ≡ false → (43 == at) ≡ false → (46 == at) ≡ false → (58 == at) ≡ false
    → none_has at (map (λ row. row.1) register_rows) ≡ true → none_has at (codes "w" ∷ codes "b" ∷ []) ≡ true → Avoids some_fact at
some_avoids at no_digit no_plus no_dot no_colon no_register no_width =
    told_by_avoids parts_field fact_of parts_of at
    (passing_avoids untested (λ parts. are_of_width parts.1.1.1 parts.1.0 parts.1.1.0) at
    (beside_avoids 43 at register_field numbers_field no_plus (register_avoids at no_register)
    (beside_avoids 58 at (hex_number 4) compared_field no_colon (number_avoids 4 at no_digit)
    (beside_avoids 46 at (hex_number 4) width_field no_dot (number_avoids 4 at no_digit)
    (one_of_avoids width_text (Word ∷ Byte ∷ []) at no_width)))))

fact_is_exact : IsExact fact_field
fact_is_exact =
    restated_is_exact (or_mark some_fact (codes "-")) IsFact
    (or_mark_is_exact some_fact (codes "-") (λ fact form. byte_differs 45 (some_fact.text fact) (codes "-") true refl
    (λ has. true≢false (sym has ∙ some_avoids 45 refl refl refl refl refl refl fact form))) some_is_exact)
    fact_narrow fact_wide

fact_avoids : (at : ℕ) → is_digit at ≡ false → (43 == at) ≡ false → (46 == at) ≡ false → (58 == at) ≡ false
    → has_byte at (codes "-") ≡ false
    → none_has at (map (λ row. row.1) register_rows) ≡ true → none_has at (codes "w" ∷ codes "b" ∷ []) ≡ true → Avoids fact_field at
fact_avoids at no_digit no_plus no_dot no_colon no_dash no_register no_width =
    restated_avoids (or_mark some_fact (codes "-")) IsFact at fact_narrow
    (or_mark_avoids some_fact (codes "-") at no_dash (some_avoids at no_digit no_plus no_dot no_colon no_register no_width))

pub fact_item : IsItem fact_field
fact_item = record {
  exact = fact_is_exact;
  no_space = fact_avoids 32 refl refl refl refl refl refl refl;
  no_feed = fact_avoids 10 refl refl refl refl refl refl refl;
}
