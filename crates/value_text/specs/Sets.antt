-- Sets of numbers as a report spells them: a star for all, ascending numbers with commas, or base, stride and count of a run.
use Rattle.std.specs.Prelude.{◌≡◌, ◌⊎◌, ℕ, ◌^◌, ◌≤◌, ◌==◌, ◌||◌, if◌then◌else◌, Bool, true, false, Option, None, Some, option_map, List, [], ◌∷◌, ◌++◌, codes, length, map}
use Rattle.std.specs.List.{join_with_byte}
use Rattle.std.proofs.Common.{refl, sym, ap, ◌∙◌, subst, inl, inr, arith, append_assoc}
use Rattle.std.proofs.lemmas.Bool.{and_parts, and_from, true≢false, leb-true, le-leb, eq-eqb, eqb-true}
use Rattle.std.proofs.lemmas.List.{append-nil}
use Rattle.hex_digits.specs.Digits.{hex, short_hex}
use Rattle.item_lines.specs.Line.{comma_list, form_text}
use Rattle.value_set.specs.Form.{IsNormal, IsNormalRun}
use Rattle.value_set.specs.declared.form.Progression.{Progression}
use Rattle.value_set.specs.declared.form.Form.{Form}
use Rattle.value_set.specs.declared.form.Form.TheVariants.{Values, Run}
use Rattle.plain_lemmas.specs.Cases.{neither}
use Rattle.text_fields.specs.Spelling.{Spelling, IsExact, Avoids, has_byte, has_byte-at}
use Rattle.text_fields.specs.Numbers.{is_digit, hex_number, hex_number_is_exact, number_avoids, short_number, short_number_is_exact, short_avoids, longer_power}
use Rattle.text_fields.specs.Fields.{passing, passing_is_exact, passing_avoids, or_mark, or_mark_is_exact, or_mark_avoids, byte_differs, beside, beside_is_exact, beside_avoids, either, either_is_exact, either_avoids, told_by, told_by_is_exact, told_by_avoids, restated, restated_is_exact, restated_avoids, respelled, respelled_is_exact, respelled_avoids}
use Rattle.text_fields.specs.Items.{IsItem}
use Rattle.text_fields.specs.Lists.{listed, listed_is_exact, listed_avoids}
use Rattle.value_text.specs.Runs.{is_list, is_run, ascends, ascends_only, ascends_back, run_only, run_back, whole_only, whole_back, run_is_below}

-- THE FIELDS

-- ascending numbers, with commas
abbrev pub list_field : (digits : ℕ) → Spelling (List ℕ)
list_field digits = passing (listed (hex_number digits) 44) is_list

-- stride and count, without leading zeros
abbrev pub steps_field : (digits : ℕ) → Spelling (ℕ × ℕ)
steps_field digits = beside 47 (short_number digits) (short_number digits)

-- base, stride and count, with slashes
abbrev pub run_field : (digits : ℕ) → Spelling (ℕ × (ℕ × ℕ))
run_field digits = passing (beside 47 (hex_number digits) (steps_field digits)) (λ run. is_run (16 ^ digits) run.0 run.1.0 run.1.1)

abbrev pub Parts : Type 0
Parts = Option ((ℕ × (ℕ × ℕ)) ⊎ List ℕ)

abbrev pub parts_field : (digits : ℕ) → Spelling Parts
parts_field digits = or_mark (either 47 (run_field digits) (list_field digits)) (codes "*")

-- the set of all m numbers
abbrev pub whole : ℕ → Form
whole m = Run (record { base = 0; stride = 1; count = m })

abbrev pub form_of : ℕ → Parts → Form
form_of m None = whole m
form_of m (Some (inl run)) = Run (record { base = run.0; stride = run.1.0; count = run.1.1 })
form_of m (Some (inr values)) = Values values

abbrev pub parts_of : ℕ → Form → Parts
parts_of m (Values values) = Some (inr values)
parts_of m (Run run) = if run.count == m then None else Some (inl (run.base, (run.stride, run.count)))

abbrev pub form_field : (digits : ℕ) → Spelling Form
form_field digits = told_by (parts_field digits) (form_of (16 ^ digits)) (parts_of (16 ^ digits))

-- a set of numbers of so many digits
abbrev pub set_field : (digits : ℕ) → Spelling Form
set_field digits = respelled (restated (form_field digits) (IsNormal (16 ^ digits))) (form_text digits (16 ^ digits))

-- the set of a text that isn't a star
abbrev pub part_of : (digits : ℕ) → List ℕ → Option Form
part_of digits text =
    if has_byte 47 text then option_map (λ run. form_of (16 ^ digits) (Some (inl run))) ((run_field digits).value text)
    else option_map Values ((list_field digits).value text)

-- a set has digits, stars, commas and slashes
abbrev pub is_set_byte : ℕ → Bool
is_set_byte at = is_digit at || (42 == at) || (44 == at) || (47 == at)

-- LAWS

list_is_exact : (digits : ℕ) → IsExact (list_field digits)
list_is_exact digits = passing_is_exact (listed (hex_number digits) 44) is_list
    (listed_is_exact (hex_number digits) 44 (hex_number_is_exact digits) (number_avoids digits 44 refl))

steps_is_exact : (digits : ℕ) → IsExact (steps_field digits)
steps_is_exact digits =
    beside_is_exact 47 (short_number digits) (short_number digits) (short_number_is_exact digits) (short_number_is_exact digits)
    (short_avoids digits 47 refl)

run_is_exact : (digits : ℕ) → IsExact (run_field digits)
run_is_exact digits =
    passing_is_exact (beside 47 (hex_number digits) (steps_field digits)) (λ run. is_run (16 ^ digits) run.0 run.1.0 run.1.1)
    (beside_is_exact 47 (hex_number digits) (steps_field digits) (hex_number_is_exact digits) (steps_is_exact digits) (number_avoids digits 47 refl))

list_avoids : (digits at : ℕ) → is_digit at ≡ false → (44 == at) ≡ false → Avoids (list_field digits) at
list_avoids digits at no_digit no_comma = passing_avoids (listed (hex_number digits) 44) is_list at
    (listed_avoids (hex_number digits) 44 at no_comma (number_avoids digits at no_digit))

run_avoids : (digits at : ℕ) → is_digit at ≡ false → (47 == at) ≡ false → Avoids (run_field digits) at
run_avoids digits at no_digit no_slash =
    passing_avoids (beside 47 (hex_number digits) (steps_field digits)) (λ run. is_run (16 ^ digits) run.0 run.1.0 run.1.1) at
    (beside_avoids 47 at (hex_number digits) (steps_field digits) no_slash (number_avoids digits at no_digit)
    (beside_avoids 47 at (short_number digits) (short_number digits) no_slash (short_avoids digits at no_digit) (short_avoids digits at no_digit)))

run_has_slash : (digits : ℕ) (run : ℕ × (ℕ × ℕ)) → (run_field digits).Form run → has_byte 47 ((run_field digits).text run) ≡ true
run_has_slash digits run form = has_byte-at 47 (hex digits run.0) ((steps_field digits).text run.1)

one_avoids : (digits at : ℕ) → is_digit at ≡ false → (44 == at) ≡ false → (47 == at) ≡ false
    → Avoids (either 47 (run_field digits) (list_field digits)) at
one_avoids digits at no_digit no_comma no_slash =
    either_avoids 47 at (run_field digits) (list_field digits) (run_avoids digits at no_digit no_slash)
    (list_avoids digits at no_digit no_comma)

parts_is_exact : (digits : ℕ) → IsExact (parts_field digits)
parts_is_exact digits =
    let one = either 47 (run_field digits) (list_field digits) in
    or_mark_is_exact one (codes "*") (λ parts form. byte_differs 42 (one.text parts) (codes "*") true refl
    (λ has. true≢false (sym has ∙ one_avoids digits 42 refl refl refl parts form)))
    (either_is_exact 47 (run_field digits) (list_field digits) (run_is_exact digits) (list_is_exact digits) (run_has_slash digits)
    (list_avoids digits 47 refl refl))

parts_back : (digits : ℕ) (parts : Parts) → (parts_field digits).Form parts → parts_of (16 ^ digits) (form_of (16 ^ digits) parts) ≡ parts
parts_back digits None form = rw (eq-eqb (16 ^ digits) (16 ^ digits) refl) refl
parts_back digits (Some (inl run)) form = rw ((run_only (16 ^ digits) run.0 run.1.0 run.1.1 form.0.0 form.0.1.0.0 form.1).1) refl
parts_back digits (Some (inr values)) form = refl

big_enough : (digits : ℕ) → 2 ≤ digits → 17 ≤ 16 ^ digits
big_enough digits two = omega (arith, longer_power 2 digits two)

abbrev IsTold : (digits : ℕ) → Form → Type 0
IsTold digits form = (form_field digits).Form form

run_narrow : (digits : ℕ) (run : Progression) (all : Bool) → (run.count == 16 ^ digits) ≡ all → 2 ≤ digits
    → IsNormalRun (16 ^ digits) run.base run.stride run.count → IsTold digits (Run run)
run_narrow digits run true all two normal =
    let same = eqb-true run.count (16 ^ digits) all in
    let parts = whole_only (16 ^ digits) run.base run.stride (big_enough digits two)
    (subst (λ n. IsNormalRun (16 ^ digits) run.base run.stride n) same normal) in
    rw all (tt, rw (parts.0, parts.1, same) refl)
run_narrow digits run false all two normal =
    let below = run_is_below (16 ^ digits) run.base run.stride run.count normal all in
    rw all (
      (
        (normal.below, ((normal.strides, below.0), (omega (arith, normal.long), below.1))),
        run_back
            (16 ^ digits) run.base run.stride run.count normal all,
      ),
      refl,
    )

form_narrow : (digits : ℕ) → 2 ≤ digits → (form : Form) → IsNormal (16 ^ digits) form → IsTold digits form
form_narrow digits two (Values values) normal =
    let are = ascends_back 0 (16 ^ digits) values normal.2 in
    (((normal.0, are.0), and_from (ascends 0 values) _ are.1 (le-leb (length values) 16 normal.1)), refl)
form_narrow digits two (Run run) normal = run_narrow digits run (run.count == 16 ^ digits) refl two normal

run_wide : (digits : ℕ) (run : Progression) (all : Bool) → (run.count == 16 ^ digits) ≡ all → 2 ≤ digits → IsTold digits (Run run)
    → IsNormalRun (16 ^ digits) run.base run.stride run.count
run_wide digits run true all two form =
    let whole_is : whole (16 ^ digits) ≡ Run run = rw all at form.1 in
    subst (IsNormal (16 ^ digits)) whole_is (whole_back (16 ^ digits) (big_enough digits two))
run_wide digits run false all two form =
    let is : (run_field digits).Form (run.base, (run.stride, run.count)) = rw all at form.0 in
    (run_only (16 ^ digits) run.base run.stride run.count is.0.0 is.0.1.0.0 is.1).0

form_wide : (digits : ℕ) → 2 ≤ digits → (form : Form) → IsTold digits form → IsNormal (16 ^ digits) form
form_wide digits two (Values values) form =
    let parts = and_parts (ascends 0 values) _ form.0.1 in
    (form.0.0.0, leb-true (length values) 16 parts.1, ascends_only 0 (16 ^ digits) values form.0.0.1 parts.0)
form_wide digits two (Run run) form = run_wide digits run (run.count == 16 ^ digits) refl two form

same_list : (digits x : ℕ) (xs : List ℕ) → comma_list digits (x ∷ xs) ≡ join_with_byte 44 (map (hex digits) (x ∷ xs))
same_list digits x [] = append-nil (hex digits x)
same_list digits x (y ∷ xs) = ap (λ (t : List ℕ). hex digits x ++ 44 ∷ t) (same_list digits y xs)

same_run : (digits : ℕ) (run : Progression) → hex digits run.base ++ codes "/" ++ short_hex run.stride ++ codes "/" ++ short_hex run.count
    ≡ (run_field digits).text (run.base, (run.stride, run.count))
same_run digits run =
    append_assoc (hex digits run.base ++ codes "/" ++ short_hex run.stride) (codes "/") (short_hex run.count)
    ∙ append_assoc (hex digits run.base ++ codes "/") (short_hex run.stride) (47 ∷ short_hex run.count)
    ∙ append_assoc (hex digits run.base) (codes "/") (short_hex run.stride ++ 47 ∷ short_hex run.count)

pub other_run_text : (digits : ℕ) (run : Progression) → (run.count == 16 ^ digits) ≡ false
    → form_text digits (16 ^ digits) (Run run) ≡ (run_field digits).text (run.base, (run.stride, run.count))
other_run_text digits run other = rw other (same_run digits run)

run_text : (digits : ℕ) (run : Progression) (all : Bool) → (run.count == 16 ^ digits) ≡ all
    → form_text digits (16 ^ digits) (Run run) ≡ (form_field digits).text (Run run)
run_text digits run true all = rw all refl
run_text digits run false all = rw all (same_run digits run)

same_text : (digits : ℕ) (form : Form) → IsNormal (16 ^ digits) form → form_text digits (16 ^ digits) form ≡ (form_field digits).text form
same_text digits (Values []) normal = absurd (omega (arith, normal.0))
same_text digits (Values (x ∷ xs)) normal = same_list digits x xs
same_text digits (Run run) normal = run_text digits run (run.count == 16 ^ digits) refl

pub set_is_exact : (digits : ℕ) → 2 ≤ digits → IsExact (set_field digits)
set_is_exact digits two =
    respelled_is_exact (restated (form_field digits) (IsNormal (16 ^ digits))) (form_text digits (16 ^ digits))
    (restated_is_exact (form_field digits) (IsNormal (16 ^ digits))
    (told_by_is_exact (parts_field digits) (form_of (16 ^ digits)) (parts_of (16 ^ digits)) (parts_is_exact digits) (parts_back digits))
    (form_narrow digits two) (form_wide digits two))
    (same_text digits)

set_byte_parts : (at : ℕ) → is_set_byte at ≡ false
    → (is_digit at ≡ false) × ((42 == at) ≡ false) × ((44 == at) ≡ false) × ((47 == at) ≡ false)
set_byte_parts at none =
    let last = neither (is_digit at || (42 == at) || (44 == at)) (47 == at) none in
    let third = neither (is_digit at || (42 == at)) (44 == at) last.0 in
    let first = neither (is_digit at) (42 == at) third.0 in
    (first.0, first.1, third.1, last.1)

pub set_avoids : (digits at : ℕ) → 2 ≤ digits → is_set_byte at ≡ false → Avoids (set_field digits) at
set_avoids digits at two none =
    let parts = set_byte_parts at none in
    respelled_avoids (restated (form_field digits) (IsNormal (16 ^ digits))) (form_text digits (16 ^ digits)) at (same_text digits)
    (restated_avoids (form_field digits) (IsNormal (16 ^ digits)) at (form_narrow digits two)
    (told_by_avoids (parts_field digits) (form_of (16 ^ digits)) (parts_of (16 ^ digits)) at
    (or_mark_avoids (either 47 (run_field digits) (list_field digits)) (codes "*") at (rw parts.1 refl) (one_avoids digits at parts.0 parts.2 parts.3))))

pub set_item : (digits : ℕ) → 2 ≤ digits → IsItem (set_field digits)
set_item digits two = record { exact = set_is_exact digits two; no_space = set_avoids digits 32 two refl; no_feed = set_avoids digits 10 two refl }
