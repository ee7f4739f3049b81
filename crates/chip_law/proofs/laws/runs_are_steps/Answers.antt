use Rattle.chip_law.proofs.RunLemmas.{by_number, by_steps}
use Rattle.chip_law.proofs.laws.runs_are_steps.Goals as goal

pub returns : goal.returns
returns g c = λ program n s. let m = g.C.RunningChip.machine program in
    (by_steps m n s, (λ by. by_number m n by.0 s by.1 by.2))
