use Rattle.std.proofs.Common.{◌∙◌}
use Rattle.value_set.proofs.Cuts.{cut-list, cut-run}
use Rattle.value_set.proofs.cutting.cut.Goals as goal

pub returns-in-Values : goal.returns-in-Values
returns-in-Values c = c.list_or_none.ensures ∙ cut-list c.args.modulus c.args.set.now c.in-Values.values c.cut_list.result c.args.low c.args.len c.in-Values.is c.cut_list.ensures

pub returns-in-Run : goal.returns-in-Run
returns-in-Run c = c.cut_run.ensures ∙ cut-run c.args.modulus c.args.set.now c.in-Run.run' c.args.low c.args.len c.in-Run.is
