use Rattle.std.proofs.Common.{sym}
use Rattle.value_set.proofs.Answering.{count_of_run}
use Rattle.value_set.proofs.member.count.Goals as goal

pub returns-in-Run : goal.returns-in-Run
returns-in-Run c = sym (count_of_run c.args.modulus c.args.set.now c.in-Run.run' c.in-Run.is)
