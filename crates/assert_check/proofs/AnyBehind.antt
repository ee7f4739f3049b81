-- Whether some item of works passes a test.
use Rattle.std.proofs.Common.{◌≡◌, Bool, true, false, List, [], ◌∷◌, ◌++◌, refl, ap, sym, ◌∙◌}
use Rattle.std.specs.Prelude.{◌||◌}
use Rattle.std.specs.List.{flat_map, list_any}
use Rattle.std.specs.Map.{values_of}

or_along : (a b c : Bool) → ((a || b) || c) ≡ (a || (b || c))
or_along true b c = refl
or_along false b c = refl

any_append : {X : Type 0} (test : X → Bool) (xs ys : List X) → list_any test (xs ++ ys) ≡ (list_any test xs || list_any test ys)
any_append test [] ys = refl
any_append test (x ∷ xs) ys =
    ap (λ b. test x || b) (any_append test xs ys) ∙ sym (or_along (test x) (list_any test xs) (list_any test ys))

-- test by test, and all at once
pub any_values : {K V X : Type 0} (test : X → Bool) (parts : V → List X) (pairs : List (K × V))
    → list_any (λ pair. list_any test (parts pair.1)) pairs ≡ list_any test (flat_map parts (values_of pairs))
any_values test parts [] = refl
any_values test parts (pair ∷ pairs) =
    ap (λ b. list_any test (parts pair.1) || b) (any_values test parts pairs)
    ∙ sym (any_append test (parts pair.1) (flat_map parts (values_of pairs)))
