-- What is known beside values: which levels may be in service as a digit, what the accumulator is by a byte of RAM, and what
-- CY says of a byte.
use Rattle.std.specs.Prelude.{◌≡◌, ℕ, ◌+◌, ◌/◌, ◌%◌, ◌<◌, ◌≤◌, ◌==◌, nat_lt, if◌then◌else◌, Bool, true, false, Option, None, Some, codes}
use Rattle.std.proofs.Common.{refl, sym, ◌∙◌, arith}
use Rattle.std.proofs.lemmas.Bool.{true≢false, eqb-true, ltb-true, lt-ltb}
use Rattle.mcs51_state.specs.declared.fact.Compared.{Compared}
use Rattle.mcs51_state.specs.declared.fact.Compared.TheVariants.{Accumulator, Ram}
use Rattle.mcs51_state.specs.declared.fact.LinearFact.{LinearFact}
use Rattle.mcs51_state.specs.declared.fact.CarryFact.{CarryFact}
use Rattle.mcs51_state.specs.declared.levels.Levels.{Levels}
use Rattle.mcs51_state.specs.Forms.{AreLevels, IsCarry, IsCompared, IsLinear}
use Rattle.mcs51_state.specs.Levels.{may_serve}
use Rattle.text_fields.specs.Spelling.{Spelling, IsExact, Avoids, has_byte}
use Rattle.text_fields.specs.Numbers.{is_digit, hex_number, hex_number_is_exact, number_avoids, hex_length}
use Rattle.text_fields.specs.Fields.{IfForm, below_passes, byte_differs, longer_differs, named_is_exact, passing, passing_is_exact, passing_avoids, or_mark, or_mark_is_exact, or_mark_avoids, beside, beside_is_exact, beside_avoids, told_by, told_by_is_exact, told_by_avoids, restated, restated_is_exact, restated_avoids}
use Rattle.text_fields.specs.Items.{IsItem}
use Rattle.mcs51_fields.specs.Places.{ram_field, ram_avoids}

-- LEVELS

-- no level counts 1, the low one 2, the high one 4, and both 8
abbrev pub weight : (may_serve : Bool) → ℕ → ℕ
weight may_serve value = if may_serve then value else 0

abbrev pub digit_of : (none low high both : Bool) → ℕ
digit_of none low high both = weight none 1 + (weight low 2 + (weight high 4 + weight both 8))

abbrev pub number_of : Levels → ℕ
number_of levels = digit_of levels.none levels.low levels.high levels.both

abbrev pub levels_of : ℕ → Levels
levels_of n = record { none = n % 2 == 1; low = n / 2 % 2 == 1; high = n / 4 % 2 == 1; both = n / 8 % 2 == 1 }

-- a digit that isn't 0
abbrev pub digit_field : Spelling ℕ
digit_field = passing (hex_number 1) (λ n. nat_lt 0 n)

abbrev pub levels_field : Spelling Levels
levels_field = restated (told_by digit_field levels_of number_of) AreLevels

-- FACTS

abbrev pub LinearParts : Type 0
LinearParts = ℕ × (ℕ × ℕ)

abbrev pub linear_of : LinearParts → LinearFact
linear_of parts = record { place = parts.0; factor = parts.1.0; added = parts.1.1 }

abbrev pub linear_parts : LinearFact → LinearParts
linear_parts fact = (fact.place, (fact.factor, fact.added))

-- the byte's address, a star, what it is multiplied by, a plus, and what is added
abbrev pub factor_field : Spelling (ℕ × ℕ)
factor_field = beside 43 (hex_number 2) (hex_number 2)

abbrev pub some_linear : Spelling LinearFact
some_linear = told_by (beside 42 (hex_number 2) factor_field) linear_of linear_parts

abbrev pub linear_field : Spelling (Option LinearFact)
linear_field = restated (or_mark some_linear (codes "-")) IsLinear

abbrev pub compared_of : Option ℕ → Compared
compared_of None = Accumulator
compared_of (Some at) = Ram at

abbrev pub address_of : Compared → Option ℕ
address_of Accumulator = None
address_of (Ram at) = Some at

-- A, or a byte of RAM
abbrev pub compared_field : Spelling Compared
compared_field = told_by (or_mark ram_field (codes "A")) compared_of address_of

abbrev pub carry_of : Compared × ℕ → CarryFact
carry_of parts = record { compared = parts.0; bound = parts.1 }

abbrev pub carry_parts : CarryFact → Compared × ℕ
carry_parts fact = (fact.compared, fact.bound)

-- what is compared, a sign for less, and the bound
abbrev pub some_carry : Spelling CarryFact
some_carry = told_by (beside 60 compared_field (hex_number 2)) carry_of carry_parts

abbrev pub carry_field : Spelling (Option CarryFact)
carry_field = restated (or_mark some_carry (codes "-")) IsCarry

-- LAWS OF LEVELS

again : (none low high both : Bool) → levels_of (digit_of none low high both) ≡ record { none = none; low = low; high = high; both = both }
again true true true true = refl
again true true true false = refl
again true true false true = refl
again true true false false = refl
again true false true true = refl
again true false true false = refl
again true false false true = refl
again true false false false = refl
again false true true true = refl
again false true true false = refl
again false true false true = refl
again false true false false = refl
again false false true true = refl
again false false true false = refl
again false false false true = refl
again false false false false = refl

bit : (b : Bool) (n : ℕ) → weight b n ≤ n
bit true n = omega arith
bit false n = omega arith

below_16 : (none low high both : Bool) → digit_of none low high both < 16
below_16 none low high both = omega (arith, bit none 1, bit low 2, bit high 4, bit both 8)

some_service : (levels : Levels) (low high : Bool) → may_serve levels low high ≡ true → 0 < number_of levels
some_service levels false false e = rw e (omega arith)
some_service levels true false e = rw e (omega arith)
some_service levels false true e = rw e (omega arith)
some_service levels true true e = rw e (omega arith)

service : (none low high both : Bool) → 0 < digit_of none low high both
    → AreLevels (record { none = none; low = low; high = high; both = both })
service true low high both some = (false, false, refl)
service false true high both some = (true, false, refl)
service false false true both some = (false, true, refl)
service false false false true some = (true, true, refl)
service false false false false some = absurd (omega (arith, some))

levels_narrow : (levels : Levels) → AreLevels levels → (told_by digit_field levels_of number_of).Form levels
levels_narrow levels are = (
  (below_16 levels.none levels.low levels.high levels.both, lt-ltb 0 (number_of levels) (some_service levels are.0 are.1 are.2)),
  again levels.none levels.low levels.high levels.both,
)

levels_wide : (levels : Levels) → (told_by digit_field levels_of number_of).Form levels → AreLevels levels
levels_wide levels form = service levels.none levels.low levels.high levels.both (ltb-true 0 (number_of levels) form.0.1)

-- a digit is that of its levels
digit_again : (n : ℕ) → n < 16 → number_of (levels_of n) ≡ n
digit_again n small = eqb-true (number_of (levels_of n)) n (below_passes (λ m. number_of (levels_of m) == m) 16 n refl small)

levels_are_exact : IsExact levels_field
levels_are_exact =
    restated_is_exact (told_by digit_field levels_of number_of) AreLevels
    (told_by_is_exact digit_field levels_of number_of (passing_is_exact (hex_number 1) (λ n. nat_lt 0 n) (hex_number_is_exact 1))
    (λ n form. digit_again n form.0))
    levels_narrow levels_wide

levels_avoid : (at : ℕ) → is_digit at ≡ false → Avoids levels_field at
levels_avoid at no_digit =
    restated_avoids (told_by digit_field levels_of number_of) AreLevels at levels_narrow
    (told_by_avoids digit_field levels_of number_of at (passing_avoids (hex_number 1) (λ n. nat_lt 0 n) at (number_avoids 1 at no_digit)))

-- LAWS OF FACTS

linear_narrow : (fact : Option LinearFact) → IsLinear fact → IfForm some_linear.Form fact
linear_narrow None form = tt
linear_narrow (Some fact) form = ((form.0, (form.1, form.2)), refl)

linear_wide : (fact : Option LinearFact) → IfForm some_linear.Form fact → IsLinear fact
linear_wide None form = tt
linear_wide (Some fact) form = (form.0.0, form.0.1.0, form.0.1.1)

some_linear_avoids : (at : ℕ) → is_digit at ≡ false → (42 == at) ≡ false → (43 == at) ≡ false → Avoids some_linear at
some_linear_avoids at no_digit no_star no_plus =
    told_by_avoids (beside 42 (hex_number 2) factor_field) linear_of linear_parts at
    (beside_avoids 42 at (hex_number 2) factor_field no_star (number_avoids 2 at no_digit)
    (beside_avoids 43 at (hex_number 2) (hex_number 2) no_plus (number_avoids 2 at no_digit) (number_avoids 2 at no_digit)))

linear_is_exact : IsExact linear_field
linear_is_exact =
    restated_is_exact (or_mark some_linear (codes "-")) IsLinear
    (or_mark_is_exact some_linear (codes "-") (λ fact form. byte_differs 45 (some_linear.text fact) (codes "-") true refl
    (λ has. true≢false (sym has ∙ some_linear_avoids 45 refl refl refl fact form)))
    (told_by_is_exact (beside 42 (hex_number 2) factor_field) linear_of linear_parts
    (beside_is_exact 42 (hex_number 2) factor_field (hex_number_is_exact 2)
    (beside_is_exact 43 (hex_number 2) (hex_number 2) (hex_number_is_exact 2) (hex_number_is_exact 2) (number_avoids 2 43 refl)) (number_avoids 2 42 refl))
    (λ parts form. refl)))
    linear_narrow linear_wide

linear_avoids : (at : ℕ) → is_digit at ≡ false → (42 == at) ≡ false → (43 == at) ≡ false
    → has_byte at (codes "-") ≡ false → Avoids linear_field at
linear_avoids at no_digit no_star no_plus no_dash =
    restated_avoids (or_mark some_linear (codes "-")) IsLinear at linear_narrow
    (or_mark_avoids some_linear (codes "-") at no_dash (some_linear_avoids at no_digit no_star no_plus))

compared_back : (at : Option ℕ) → address_of (compared_of at) ≡ at
compared_back None = refl
compared_back (Some at) = refl

compared_again : (compared : Compared) → compared_of (address_of compared) ≡ compared
compared_again Accumulator = refl
compared_again (Ram at) = refl

compared_form : (compared : Compared) → IsCompared compared → IfForm ram_field.Form (address_of compared)
compared_form Accumulator form = tt
compared_form (Ram at) form = form

compared_only : (compared : Compared) → IfForm ram_field.Form (address_of compared) → IsCompared compared
compared_only Accumulator form = tt
compared_only (Ram at) form = form

compared_is_exact : IsExact compared_field
compared_is_exact =
    told_by_is_exact (or_mark ram_field (codes "A")) compared_of address_of
    (or_mark_is_exact ram_field (codes "A") (λ at form. longer_differs (ram_field.text at) 65 (omega (arith, hex_length 2 at)))
    (named_is_exact (hex_number 2) (codes "m") (hex_number_is_exact 2)))
    (λ at form. compared_back at)

compared_avoids : (at : ℕ) → is_digit at ≡ false → has_byte at (codes "m") ≡ false → has_byte at (codes "A") ≡ false
    → Avoids compared_field at
compared_avoids at no_digit no_ram no_a =
    told_by_avoids (or_mark ram_field (codes "A")) compared_of address_of at (or_mark_avoids ram_field (codes "A") at no_a (ram_avoids at no_digit no_ram))

carry_narrow : (fact : Option CarryFact) → IsCarry fact → IfForm some_carry.Form fact
carry_narrow None form = tt
carry_narrow (Some fact) form = (((compared_form fact.compared form.0, compared_again fact.compared), form.1), refl)

carry_wide : (fact : Option CarryFact) → IfForm some_carry.Form fact → IsCarry fact
carry_wide None form = tt
carry_wide (Some fact) form = (compared_only fact.compared form.0.0.0, form.0.1)

some_carry_avoids : (at : ℕ) → is_digit at ≡ false → (60 == at) ≡ false → has_byte at (codes "m") ≡ false → has_byte at (codes "A") ≡ false
    → Avoids some_carry at
some_carry_avoids at no_digit no_less no_ram no_a =
    told_by_avoids (beside 60 compared_field (hex_number 2)) carry_of carry_parts at
    (beside_avoids 60 at compared_field (hex_number 2) no_less (compared_avoids at no_digit no_ram no_a) (number_avoids 2 at no_digit))

carry_is_exact : IsExact carry_field
carry_is_exact =
    restated_is_exact (or_mark some_carry (codes "-")) IsCarry
    (or_mark_is_exact some_carry (codes "-") (λ fact form. byte_differs 45 (some_carry.text fact) (codes "-") true refl
    (λ has. true≢false (sym has ∙ some_carry_avoids 45 refl refl refl refl fact form)))
    (told_by_is_exact (beside 60 compared_field (hex_number 2)) carry_of carry_parts
    (beside_is_exact 60 compared_field (hex_number 2) compared_is_exact (hex_number_is_exact 2) (compared_avoids 60 refl refl refl)) (λ parts form. refl)))
    carry_narrow carry_wide

carry_avoids : (at : ℕ) → is_digit at ≡ false → (60 == at) ≡ false → has_byte at (codes "m") ≡ false → has_byte at (codes "A") ≡ false
    → has_byte at (codes "-") ≡ false → Avoids carry_field at
carry_avoids at no_digit no_less no_ram no_a no_dash =
    restated_avoids (or_mark some_carry (codes "-")) IsCarry at carry_narrow
    (or_mark_avoids some_carry (codes "-") at no_dash (some_carry_avoids at no_digit no_less no_ram no_a))

-- AS ITEMS OF A LINE

pub levels_item : IsItem levels_field
levels_item = record { exact = levels_are_exact; no_space = levels_avoid 32 refl; no_feed = levels_avoid 10 refl }

pub linear_item : IsItem linear_field
linear_item = record { exact = linear_is_exact; no_space = linear_avoids 32 refl refl refl refl; no_feed = linear_avoids 10 refl refl refl refl }

pub carry_item : IsItem carry_field
carry_item = record { exact = carry_is_exact; no_space = carry_avoids 32 refl refl refl refl refl; no_feed = carry_avoids 10 refl refl refl refl refl }
