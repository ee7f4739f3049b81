-- Relations that are read at several addresses.
use Rattle.std.proofs.Common.{◌≡◌, ℕ, ◌<◌, Bool, None, List, [], ◌∷◌, length, get_or, refl, arith}
use Rattle.mcs51_state.specs.Known.{Known}
use Rattle.mcs51_state.specs.Reading.{list_relation, ram_relation}

-- a relation is read from one address alone
pub relation_one : (framed : Bool) (known : Known) (ms : List ℕ) (d : ℕ) → length ms ≡ 1
    → list_relation framed known ms ≡ ram_relation framed known (get_or ms 0 d)
relation_one framed known [] d one = absurd (omega (arith, one))
relation_one framed known (m ∷ []) d one = refl
relation_one framed known (m ∷ next ∷ rest) d one = absurd (omega (arith, one))

pub relation_many : (framed : Bool) (known : Known) (ms : List ℕ) → 1 < length ms → list_relation framed known ms ≡ None
relation_many framed known [] many = refl
relation_many framed known (m ∷ []) many = absurd (omega (arith, many))
relation_many framed known (m ∷ next ∷ rest) many = refl
