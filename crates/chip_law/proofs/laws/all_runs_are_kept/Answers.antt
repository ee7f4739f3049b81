use Rattle.chip_law.proofs.RunLemmas.{all_alike}
use Rattle.chip_law.proofs.laws.all_runs_are_kept.Goals as goal

pub returns : goal.returns
returns g c = λ program keeps leaves all every. all_alike keeps leaves (g.C.RunningChip.machine program) all every
