-- The names of the places that a relation may name: A, B, DPL, DPH, PSW, IE, IP, the bytes of PC, and m with its address for a
-- byte of RAM.
use Rattle.std.specs.Prelude.{◌≡◌, ◌⊎◌, ℕ, ◌-◌, ◌<◌, ◌==◌, ◌||◌, nat_lt, not, if◌then◌else◌, true, false, List, [], ◌∷◌, codes, map}
use Rattle.std.proofs.Common.{refl, sym, ◌∙◌, inl, inr, arith}
use Rattle.std.proofs.lemmas.Bool.{cases_Bool, or_cases, false≢true, eqb-true, ltb-true, lt-ltb, not-true}
use Rattle.mcs51_chip.specs.Registers.{sfr_at}
use Rattle.mcs51_state.specs.Places.{is_place, is_remembered, sfr_of}
use Rattle.text_fields.specs.Spelling.{Spelling, IsExact, Avoids, has_byte, has_byte-first}
use Rattle.text_fields.specs.Numbers.{is_digit, hex_number, hex_number_is_exact, number_avoids}
use Rattle.plain_lemmas.specs.Cases.{implied}
use Rattle.value_text.specs.Words.{ArePlaces}
use Rattle.text_fields.specs.Fields.{below_passes, named_passes, either, either_is_exact, either_avoids, named, named_is_exact, named_avoids, one_named, one_named_is_exact, one_named_avoids, is_named, none_has, told_by, told_by_is_exact, told_by_avoids, restated, restated_is_exact, restated_avoids}

-- the registers, and the low and the high byte of PC
abbrev pub register_rows : List (ℕ × List ℕ)
register_rows =
    (0x1E0, codes "A") ∷ (0x1F0, codes "B") ∷ (0x182, codes "DPL") ∷ (0x183, codes "DPH") ∷ (0x1D0, codes "PSW") ∷ (0x1A8, codes "IE")
    ∷ (0x1B8, codes "IP") ∷ (0x200, codes "PCL") ∷ (0x201, codes "PCH") ∷ []

-- a byte of RAM
abbrev pub ram_field : Spelling ℕ
ram_field = named (hex_number 2) (codes "m")

abbrev pub number_of : ℕ ⊎ ℕ → ℕ
number_of (inl at) = at
number_of (inr place) = place

abbrev pub kind_of : ℕ → ℕ ⊎ ℕ
kind_of place = if nat_lt place 256 then inl place else inr place

abbrev pub kinds_field : Spelling (ℕ ⊎ ℕ)
kinds_field = either 109 ram_field (one_named register_rows)

abbrev pub IsPlace : ℕ → Type 0
IsPlace place = is_place place ≡ true

abbrev pub place_field : Spelling ℕ
place_field = restated (told_by kinds_field number_of kind_of) IsPlace

-- LAWS

-- a register that is remembered stands below 100h
pick : (at k : ℕ) (P : Type 0) → (at ≡ k → P) → ((at == k) ≡ false → P) → P
pick at k P here other = elim (cases_Bool (at == k)) [ inl same ↦ here (eqb-true at k same) | inr none ↦ other none ]

remembered_below : (at : ℕ) → is_remembered (sfr_at at) ≡ true → at < 256
remembered_below at is =
    pick at 0x81 (at < 256) (λ e. omega (arith, e)) (λ a.
    pick at 0x82 (at < 256) (λ e. omega (arith, e)) (λ b.
    pick at 0x83 (at < 256) (λ e. omega (arith, e)) (λ c.
    pick at 0xA8 (at < 256) (λ e. omega (arith, e)) (λ d.
    pick at 0xB8 (at < 256) (λ e. omega (arith, e)) (λ f.
    pick at 0xD0 (at < 256) (λ e. omega (arith, e)) (λ g.
    pick at 0xE0 (at < 256) (λ e. omega (arith, e)) (λ h.
    pick at 0xF0 (at < 256) (λ e. omega (arith, e)) (λ k.
    absurd (false≢true (rw (a, b, c, d, f, g, h, k) at is))))))))))

place_below : (n : ℕ) → IsPlace n → n < 514
place_below n is = elim (or_cases (nat_lt n 256 || is_remembered (sfr_of n) || (n == 512)) (n == 513) is) [
  | inl low ↦ elim (or_cases (nat_lt n 256 || is_remembered (sfr_of n)) (n == 512) low) [
    | inl first ↦ elim (or_cases (nat_lt n 256) (is_remembered (sfr_of n)) first) [
      | inl ram ↦ omega (arith, ltb-true n 256 ram)
      | inr register ↦ omega (arith, remembered_below (n - 256) register)
    ]
    | inr pcl ↦ omega (arith, eqb-true n 512 pcl)
  ]
  | inr pch ↦ omega (arith, eqb-true n 513 pch)
]

-- a place is a byte of RAM, or it has a name
place_named : (n : ℕ) → IsPlace n → nat_lt n 256 ≡ false → is_named register_rows n ≡ true
place_named n is high = elim (or_cases (nat_lt n 256) (is_named register_rows n)
    (implied (is_place n) (nat_lt n 256 || is_named register_rows n)
    (below_passes (λ m. not (is_place m) || (nat_lt m 256 || is_named register_rows m)) 514 n refl (place_below n is)) is)) [
      | inl low ↦ absurd (false≢true (sym high ∙ low))
      | inr named ↦ named
    ]

named_high : (n : ℕ) → is_named register_rows n ≡ true → nat_lt n 256 ≡ false
named_high n is = not-true (nat_lt n 256) (named_passes (λ m. not (nat_lt m 256)) register_rows n refl is)

place_narrow : (n : ℕ) → IsPlace n → (told_by kinds_field number_of kind_of).Form n
place_narrow n is = elim (cases_Bool (nat_lt n 256)) [
  | inl low ↦ rw low (ltb-true n 256 low, refl)
  | inr high ↦ rw high (place_named n is high, refl)
]

place_wide : (n : ℕ) → (told_by kinds_field number_of kind_of).Form n → IsPlace n
place_wide n form = elim (cases_Bool (nat_lt n 256)) [
  | inl low ↦ rw low refl
  | inr high ↦ named_passes is_place register_rows n refl (rw high at form.0)
]

kind_back : (kind : ℕ ⊎ ℕ) → kinds_field.Form kind → kind_of (number_of kind) ≡ kind
kind_back (inl at) form = rw (lt-ltb at 256 form) refl
kind_back (inr place) form = rw (named_high place form) refl

kinds_are_exact : IsExact kinds_field
kinds_are_exact =
    either_is_exact 109 ram_field (one_named register_rows) (named_is_exact (hex_number 2) (codes "m") (hex_number_is_exact 2))
    (one_named_is_exact register_rows refl) (λ at form. has_byte-first 109 ((hex_number 2).text at)) (one_named_avoids register_rows 109 refl)

pub place_is_exact : IsExact place_field
place_is_exact =
    restated_is_exact (told_by kinds_field number_of kind_of) IsPlace (told_by_is_exact kinds_field number_of kind_of kinds_are_exact kind_back)
    place_narrow place_wide

pub ram_avoids : (at : ℕ) → is_digit at ≡ false → has_byte at (codes "m") ≡ false → Avoids ram_field at
ram_avoids at no_digit no_name = named_avoids (hex_number 2) (codes "m") at no_name (number_avoids 2 at no_digit)

place_avoids : (at : ℕ) → is_digit at ≡ false → has_byte at (codes "m") ≡ false → none_has at (map (λ row. row.1) register_rows) ≡ true
    → Avoids place_field at
place_avoids at no_digit no_name none =
    restated_avoids (told_by kinds_field number_of kind_of) IsPlace at place_narrow
    (told_by_avoids kinds_field number_of kind_of at
    (either_avoids 109 at ram_field (one_named register_rows) (ram_avoids at no_digit no_name) (one_named_avoids register_rows at none)))

pub places : ArePlaces place_field
places = record {
  exact = place_is_exact;
  apart = place_avoids 38 refl refl refl;
  parted = place_avoids 59 refl refl refl;
  no_space = place_avoids 32 refl refl refl;
  no_feed = place_avoids 10 refl refl refl;
}
