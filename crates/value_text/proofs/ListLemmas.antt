-- Lists of numbers, as they are read.
use Rattle.std.proofs.Common.{◌≡◌, ℕ, ◌+◌, ◌≤◌, Bool, true, false, Option, None, Some, List, [], ◌∷◌, ◌++◌, length, refl, sym, ap, ◌∙◌, arith, length-append, if◌then◌else◌}
use Rattle.std.specs.Prelude.{option_map, option_and_then, nat_le, ◌&&◌}
use Rattle.std.proofs.lemmas.Bool.{lt-leb, le-leb}
use Rattle.text_fields.specs.Numbers.{hex_number, hex_number_is_exact, number_avoids}
use Rattle.text_fields.specs.Lists.{listed, listed_is_exact}
use Rattle.value_text.specs.Runs.{ascends, is_list}
use Rattle.value_text.specs.Sets.{list_field}

no_room : (b : Bool) → (b && false) ≡ false
no_room true = refl
no_room false = refl

room : (b : Bool) → (b && true) ≡ b
room true = refl
room false = refl

behind_many : (digits : ℕ) (values rest : List ℕ) (more : Option (List ℕ)) → length values ≡ 16
    → (listed (hex_number digits) 44).value rest ≡ more
    → option_and_then (λ xs. if is_list xs then Some xs else None) (option_map (λ xs. values ++ xs) more) ≡ None
behind_many digits values rest None many e = refl
behind_many digits values rest (Some xs) many e =
    let form = ((listed_is_exact (hex_number digits) 44 (hex_number_is_exact digits) (number_avoids digits 44 refl)).only rest xs e).0 in
    let long : nat_le (length (values ++ xs)) 16 ≡ false = lt-leb (length (values ++ xs)) 16 (omega (arith, many, form.0, length-append values xs)) in
    rw (long, no_room (ascends 0 (values ++ xs))) refl

-- more than 16 numbers
pub too_many : (digits : ℕ) (values text rest : List ℕ) → length values ≡ 16
    → (listed (hex_number digits) 44).value text ≡ option_map (λ more. values ++ more) ((listed (hex_number digits) 44).value rest) → None
    ≡ (list_field digits).value text
too_many digits values text rest many so_far =
    sym (ap (option_and_then (λ xs. if is_list xs then Some xs else None)) so_far
    ∙ behind_many digits values rest ((listed (hex_number digits) 44).value rest) many refl)

-- no number
pub no_list : (digits : ℕ) (text : List ℕ) → (listed (hex_number digits) 44).value text ≡ None → None ≡ (list_field digits).value text
no_list digits text none = sym (ap (option_and_then (λ xs. if is_list xs then Some xs else None)) none)

-- all numbers
pub the_list : (digits : ℕ) (values text : List ℕ) → length values ≤ 16 → (listed (hex_number digits) 44).value text ≡ Some values
    → (list_field digits).value text ≡ (if ascends 0 values then Some values else None)
the_list digits values text few is =
    ap (option_and_then (λ xs. if is_list xs then Some xs else None)) is
    ∙ ap (λ b. if ascends 0 values && b then Some values else None) (le-leb (length values) 16 few)
    ∙ ap (λ b. if b then Some values else None) (room (ascends 0 values))

-- the last number, and the test of all
pub tested : (digits : ℕ) (values longer text : List ℕ) (value : ℕ) → length values ≤ 16 → (length values ≡ 16 → ⊥)
    → longer ≡ values ++ value ∷ []
    → (listed (hex_number digits) 44).value text ≡ Some longer
    → (if ascends 0 longer then Some longer else None) ≡ (list_field digits).value text
tested digits values longer text value few other pushed is =
    let long : length longer ≡ length values + 1 = ap length pushed ∙ omega (arith, length-append values (value ∷ [])) in
    sym (the_list digits longer text (omega (arith, long, few, other)) is)
