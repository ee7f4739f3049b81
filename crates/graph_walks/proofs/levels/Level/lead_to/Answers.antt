use Rattle.std.proofs.Common.{ap, ◌∙◌, refl}
use Rattle.std.specs.Prelude.{not}
use Rattle.graph_walks.proofs.LevelLemmas.{spread_new, spread_none}
use Rattle.graph_walks.proofs.ListLemmas.{read_at}
use Rattle.graph_walks.proofs.levels.Level.lead_to.Goals as goal

pub returns-in_ok-push : goal.returns-in_ok-push
returns-in_ok-push c =
    let here = c.index.result.now in
    spread_new c.args.self.now _ c.args.vertex c.args.distance here (read_at _ _ here c.requires c.index.ensures) (c.is_none.ensures ∙ ap not c.if-is_none.true) c.requires
    refl c.in_ok-push.ensures.items

pub returns-else-is_none : goal.returns-else-is_none
returns-else-is_none c =
    let here = c.index.result.now in
    spread_none c.args.self.now c.args.vertex c.args.distance here (read_at _ _ here c.requires c.index.ensures) (c.is_none.ensures ∙ ap not c.if-is_none.false)
