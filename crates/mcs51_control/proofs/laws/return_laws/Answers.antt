use Rattle.mcs51_control.proofs.Backs.{back_so, base_so}
use Rattle.mcs51_control.proofs.Returns.{interrupt_form, interrupt_so, returned_form, returned_so, target_so, targets_so}
use Rattle.mcs51_control.proofs.Showing.{return_shown}
use Rattle.mcs51_control.proofs.laws.return_laws.Goals as goal

pub returns : goal.returns
returns c =
    let laws = c.instruction_laws.ensures in
    assumption (returned_so laws, interrupt_so laws, target_so laws, targets_so laws, returned_form laws, interrupt_form laws, return_shown laws, back_so laws, base_so)
