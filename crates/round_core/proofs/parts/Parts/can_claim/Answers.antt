use Rattle.std.specs.Prelude.{is_some, count_by}
use Rattle.round_core.specs.Shown.{found_at, is_new_return}
use Rattle.round_core.proofs.CountedLemmas.{counted_enough, counts_reach, enough_counted, reach_counts}
use Rattle.round_core.proofs.parts.Parts.can_claim.Goals as goal

pub returns-clause-enough : goal.returns-clause-enough
returns-clause-enough g c = λ b s t.
    let p = c.args.self.now in
    let first = c.claimable_candidates-found in
    enough_counted b p s c.args.least first.ensures.once
    (counts_reach c.args.least first.result c.new_returns.result (count_by (λ q. is_some (found_at p q)) p.agenda.candidates.keys)
    (count_by (is_new_return p) p.turns.returned) first.ensures.count c.new_returns.ensures t)

pub returns-clause-few : goal.returns-clause-few
returns-clause-few g c = λ b s h.
    let p = c.args.self.now in
    let first = c.claimable_candidates-found in
    reach_counts c.args.least first.result c.new_returns.result (count_by (λ q. is_some (found_at p q)) p.agenda.candidates.keys)
    (count_by (is_new_return p) p.turns.returned) first.ensures.count c.new_returns.ensures (counted_enough b p s c.args.least h)
