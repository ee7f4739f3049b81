use Rattle.mcs51_resume.proofs.Covering.{covers, has_pointer, resumed_form}
use Rattle.mcs51_resume.proofs.laws.resumption_laws.Goals as goal

pub returns : goal.returns
returns c =
    let laws = c.instruction_laws.ensures in
    assumption (covers laws, has_pointer, resumed_form laws)
