-- Accesses are shown one by one: lemmas, also for the proofs of crates above.
use Rattle.std.proofs.Common.{ℕ, List, [], ◌∷◌, subst, arith}
use Rattle.plain_lemmas.specs.Members.{in_first, in_one}
use Rattle.call_context.specs.declared.shown.Item.{Item}
use Rattle.call_context.specs.Showing.{Shows}
use Rattle.mcs51_chip.specs.declared.place.Access.{Access}
use Rattle.mcs51_chip.specs.Step.{accessed}
use Rattle.mcs51_state.specs.Showing.{AreShown}

pub none_shown : (items : List Item) (pc : ℕ) → AreShown items pc []
none_shown items pc access there = absurd (omega (arith, there.1))

-- one item shows one access
pub one_shown : (item : Item) (pc : ℕ) (access : Access) → Shows item (accessed pc access) → AreShown (item ∷ []) pc (access ∷ [])
one_shown item pc access shows other there =
    (item, in_first item [], subst (λ a. Shows item (accessed pc a)) (in_one access other there) shows)
