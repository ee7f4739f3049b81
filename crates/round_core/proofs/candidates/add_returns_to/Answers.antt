use Rattle.std.proofs.Common.{◌<◌, below_more, subst, arith}
use Rattle.round_core.specs.declared.place.Place.TheVariants.{Back}
use Rattle.round_core.specs.Agenda.{IsIn}
use Rattle.round_core.proofs.ListLemmas.{index_of}
use Rattle.round_core.proofs.candidates.add_returns_to.Goals as goal

pub returns-in_err-add_candidate-clause-kept : goal.returns-in_err-add_candidate-clause-kept
returns-in_err-add_candidate-clause-kept c = λ p h. c.add_candidate.ensures.kept p (c.loop-exit.invariant.kept p h)

pub loop-exit-preserved : goal.loop-exit-preserved
loop-exit-preserved c = record {
  added = below_more _ _ (λ i h. c.add_candidate.ensures.kept _ (c.loop-exit.invariant.added i h)) c.in_ok-add_candidate.ensures.added;
  kept = λ p h. c.add_candidate.ensures.kept p (c.loop-exit.invariant.kept p h);
}

pub returns-clause-added : goal.returns-clause-added
returns-clause-added c = λ x h.
    let i = index_of x c.args.exits.now 0 h in
    let at : i.0 < c.loop-exit.exit-index = let b = i.1 in omega arith in
    subst (λ q. IsIn (Back c.args.node q) c.loop-exit.candidates.keys) i.2 (c.loop-exit.invariant.added i.0 at)
