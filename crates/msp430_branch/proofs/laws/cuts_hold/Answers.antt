use Rattle.msp430_branch.proofs.Outcomes.{cut_holds, cut_interrupts, state_cut, cut_in_form, set_form, set_holds}
use Rattle.msp430_branch.proofs.laws.cuts_hold.Goals as goal

pub returns : goal.returns
returns c =
    let laws = c.known_laws.ensures in
    assumption (cut_holds laws, state_cut laws, cut_in_form laws, cut_interrupts, set_holds, set_form)
