use Rattle.round_core.specs.Raise.{held_rows, with_all}
use Rattle.round_core.proofs.RaisedLemmas.{place-next}
use Rattle.round_core.proofs.nodes.Nodes.set_all.Goals as goal

pub set_at-requires-clause-place : goal.set_at-requires-clause-place
set_at-requires-clause-place g c =
    let i = c.loop-risen.invariant in
    place-next c.loop-risen.self.rows (with_all c.args.self.now.rows (held_rows c.args.raised.rows.items)) _ _ c.in-Some.risen c.in-Some.ensures.steps.0 i.rest i.placed
