use Rattle.msp430_resume.proofs.Covering.{covers, has_pointer, in_form}
use Rattle.msp430_resume.proofs.laws.resumption_laws.Goals as goal

pub returns : goal.returns
returns c =
    let laws = c.memory_laws.ensures in
    assumption (covers laws, has_pointer, in_form laws)
