use Rattle.report_bytes.proofs.StackLemmas.{tells_stacks}
use Rattle.report_bytes.proofs.laws.reports_tell_stacks.Goals as goal

pub returns : goal.returns
returns g c = λ text works one_way. tells_stacks text works one_way
