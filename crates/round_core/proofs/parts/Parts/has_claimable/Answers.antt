use Rattle.std.proofs.Common.{◌≡◌, ◌∙◌, sym, true, false, not, Bool, IsTrue, refl}
use Rattle.round_core.proofs.CountedLemmas.{one_of_them, some_of_them}
use Rattle.round_core.proofs.parts.Parts.has_claimable.Goals as goal

not_true : (b : Bool) → IsTrue (not b) → b ≡ false
not_true true h = absurd (cc)
not_true false h = refl

pub returns-clause-some : goal.returns-clause-some
returns-clause-some g c = λ b s t. some_of_them b (c.can_claim.ensures.enough b s t)

pub returns-clause-none : goal.returns-clause-none
returns-clause-none g c = λ b s t u k.
    let some : IsTrue c.can_claim.result = c.can_claim.ensures.few b s (one_of_them b (u, k)) in
    let bad : true ≡ false = sym some ∙ not_true _ t in absurd (cc)
