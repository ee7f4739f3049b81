-- The names of the places that a relation may name, and of the registers that a fact of the flags may name.
use Rattle.std.specs.Prelude.{◌≡◌, ℕ, ◌<◌, ◌==◌, ◌&&◌, ◌||◌, nat_lt, not, Bool, true, List, [], ◌∷◌, codes, map}
use Rattle.std.proofs.Common.{refl, inl, inr, arith}
use Rattle.std.proofs.lemmas.Bool.{and_parts, and_from, or_cases, eqb-true, ltb-true, lt-ltb}
use Rattle.msp430_state.specs.Forms.{is_place}
use Rattle.text_fields.specs.Spelling.{Spelling, IsExact, Avoids}
use Rattle.plain_lemmas.specs.Cases.{implied}
use Rattle.value_text.specs.Words.{ArePlaces}
use Rattle.text_fields.specs.Fields.{below_passes, named_passes, one_named, one_named_is_exact, one_named_avoids, is_named, none_has, restated, restated_is_exact, restated_avoids}

-- R4 to R15
abbrev pub register_rows : List (ℕ × List ℕ)
register_rows =
    (4, codes "R4") ∷ (5, codes "R5") ∷ (6, codes "R6") ∷ (7, codes "R7") ∷ (8, codes "R8") ∷ (9, codes "R9") ∷ (10, codes "R10") ∷ (11, codes "R11")
    ∷ (12, codes "R12") ∷ (13, codes "R13") ∷ (14, codes "R14") ∷ (15, codes "R15") ∷ []

-- and PC and SR
abbrev pub place_rows : List (ℕ × List ℕ)
place_rows = (0, codes "PC") ∷ (2, codes "SR") ∷ register_rows

abbrev pub IsPlace : ℕ → Type 0
IsPlace place = is_place place ≡ true

abbrev pub place_field : Spelling ℕ
place_field = restated (one_named place_rows) IsPlace

abbrev pub IsRegister : ℕ → Type 0
IsRegister register = (3 < register) × (register < 16)

abbrev pub register_field : Spelling ℕ
register_field = restated (one_named register_rows) IsRegister

-- LAWS

place_below : (n : ℕ) → is_place n ≡ true → n < 16
place_below n is = elim (or_cases ((n == 0) || (n == 2)) (nat_lt 3 n && nat_lt n 16) is) [
  | inl low ↦ elim (or_cases (n == 0) (n == 2) low) [ inl first ↦ omega (arith, eqb-true n 0 first) | inr second ↦ omega (arith, eqb-true n 2 second) ]
  | inr high ↦ ltb-true n 16 (and_parts (nat_lt 3 n) (nat_lt n 16) high).1
]

place_narrow : (n : ℕ) → IsPlace n → is_named place_rows n ≡ true
place_narrow n is =
    implied (is_place n) (is_named place_rows n)
    (below_passes (λ m. not (is_place m) || is_named place_rows m) 16 n refl (place_below n is)) is

pub place_is_exact : IsExact place_field
place_is_exact = restated_is_exact (one_named place_rows) IsPlace (one_named_is_exact place_rows refl) place_narrow
    (λ n is. named_passes is_place place_rows n refl is)

place_avoids : (at : ℕ) → none_has at (map (λ row. row.1) place_rows) ≡ true → Avoids place_field at
place_avoids at none = restated_avoids (one_named place_rows) IsPlace at place_narrow (one_named_avoids place_rows at none)

pub places : ArePlaces place_field
places = record {
  exact = place_is_exact;
  apart = place_avoids 38 refl;
  parted = place_avoids 59 refl;
  no_space = place_avoids 32 refl;
  no_feed = place_avoids 10 refl;
}

abbrev is_register : ℕ → Bool
is_register n = nat_lt 3 n && nat_lt n 16

register_narrow : (n : ℕ) → IsRegister n → is_named register_rows n ≡ true
register_narrow n is =
    implied (is_register n) (is_named register_rows n)
    (below_passes (λ m. not (is_register m) || is_named register_rows m) 16 n refl is.1)
    (and_from (nat_lt 3 n) (nat_lt n 16) (lt-ltb 3 n is.0) (lt-ltb n 16 is.1))

register_wide : (n : ℕ) → is_named register_rows n ≡ true → IsRegister n
register_wide n is =
    let parts = and_parts (nat_lt 3 n) (nat_lt n 16) (named_passes is_register register_rows n refl is) in (ltb-true 3 n parts.0, ltb-true n 16 parts.1)

pub register_is_exact : IsExact register_field
register_is_exact =
    restated_is_exact (one_named register_rows) IsRegister (one_named_is_exact register_rows refl) register_narrow register_wide

pub register_avoids : (at : ℕ) → none_has at (map (λ row. row.1) register_rows) ≡ true → Avoids register_field at
register_avoids at none = restated_avoids (one_named register_rows) IsRegister at register_narrow (one_named_avoids register_rows at none)
