-- Sites, as they are read.
use Rattle.std.proofs.Common.{◌≡◌, ℕ, ◌+◌, ◌≤◌, Option, None, Some, List, [], ◌∷◌, ◌++◌, length, refl, sym, ap, ◌∙◌, arith, length-append, if◌then◌else◌}
use Rattle.std.specs.Prelude.{option_map, option_and_then, nat_le}
use Rattle.std.proofs.lemmas.Bool.{lt-leb, le-leb}
use Rattle.text_fields.specs.Numbers.{hex_number, hex_number_is_exact, number_avoids}
use Rattle.text_fields.specs.Lists.{listed, listed_is_exact}
use Rattle.node_fields.specs.Nodes.{some_calls}

behind_many : (sites rest : List ℕ) (more : Option (List ℕ)) → length sites ≡ 8 → (listed (hex_number 4) 44).value rest ≡ more
    → option_and_then (λ xs. if nat_le (length xs) 8 then Some xs else None) (option_map (λ xs. sites ++ xs) more) ≡ None
behind_many sites rest None many e = refl
behind_many sites rest (Some xs) many e =
    let form = ((listed_is_exact (hex_number 4) 44 (hex_number_is_exact 4) (number_avoids 4 44 refl)).only rest xs e).0 in
    rw (lt-leb (length (sites ++ xs)) 8 (omega (arith, many, form.0, length-append sites xs))) refl

-- more than eight sites
pub too_many : (sites text rest : List ℕ) → length sites ≡ 8
    → (listed (hex_number 4) 44).value text ≡ option_map (λ more. sites ++ more) ((listed (hex_number 4) 44).value rest)
    → None ≡ some_calls text
too_many sites text rest many so_far =
    sym (ap (option_and_then (λ xs. if nat_le (length xs) 8 then Some xs else None)) so_far
    ∙ behind_many sites rest ((listed (hex_number 4) 44).value rest) many refl)

pub no_sites : (text : List ℕ) → (listed (hex_number 4) 44).value text ≡ None → None ≡ some_calls text
no_sites text none = sym (ap (option_and_then (λ xs. if nat_le (length xs) 8 then Some xs else None)) none)

pub all_sites : (sites longer text : List ℕ) (site : ℕ) → length sites ≤ 8 → (length sites ≡ 8 → ⊥) → longer ≡ sites ++ site ∷ []
    → (listed (hex_number 4) 44).value text ≡ Some longer
    → Some longer ≡ some_calls text
all_sites sites longer text site few other pushed is =
    let long : length longer ≡ length sites + 1 = ap length pushed ∙ omega (arith, length-append sites (site ∷ [])) in
    sym (ap (option_and_then (λ xs. if nat_le (length xs) 8 then Some xs else None)) is ∙ rw (le-leb (length longer) 8 (omega (arith, long, few, other))) refl)
