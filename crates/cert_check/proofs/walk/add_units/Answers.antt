use Rattle.std.proofs.Common.{ap, ◌∙◌}
use Rattle.call_context.specs.declared.node.Unit.TheVariants.{One}
use Rattle.cert_check.proofs.WalkLemmas.{units_added}
use Rattle.cert_check.proofs.walk.add_units.Goals as goal

pub returns-clause-works : goal.returns-clause-works
returns-clause-works g c =
    units_added (g.C.Chip.analysis
    (g.C.Chip.base c.args.chip.now)) c.args.exits.now c.args.row.now.0 c.args.row.now.1 c.in-At.field-0 c.in-At.field-1 c.in-At.field-2
    c.in_ok-work.work c.as_slice.result.now c.args.works.now.items c.push_work.new.works.items c.move_all.new.to.items c.in_ok-returns.returns.items c.in-At.is
    (c.in_ok-work.ensures.work ∙ ap ((g.C.Chip.analysis (g.C.Chip.base c.args.chip.now)).work (One c.args.row.now.0) c.args.row.now.1) c.no_exit.ensures)
    c.as_slice.ensures c.in_ok-returns.ensures.works c.in_ok-push_work.ensures c.in_ok-move_all.ensures
