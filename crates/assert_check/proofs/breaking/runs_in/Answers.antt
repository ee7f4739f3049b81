use Rattle.assert_check.proofs.ItemTests.{none_runs}
use Rattle.assert_check.proofs.breaking.runs_in.Goals as goal

pub returns-in-Edge-2 : goal.returns-in-Edge-2
returns-in-Edge-2 c = none_runs c.args.lo c.args.hi c.args.item.now c.in-Edge.is

pub returns-in-Edge-3 : goal.returns-in-Edge-3
returns-in-Edge-3 c = none_runs c.args.lo c.args.hi c.args.item.now c.in-Edge.is
