use Rattle.chip_law.proofs.RunLemmas.{up_to}
use Rattle.chip_law.proofs.laws.runs_up_to.Goals as goal

pub returns : goal.returns
returns g c = λ program keeps leaves. up_to keeps leaves (g.C.RunningChip.machine program)
