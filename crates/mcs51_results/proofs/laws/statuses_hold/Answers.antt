use Rattle.mcs51_results.proofs.StatusWrites.{masked_psw_holds, masked_psw_form}
use Rattle.mcs51_results.proofs.laws.statuses_hold.Goals as goal

pub returns : goal.returns
returns c =
    let laws = c.known_laws.ensures in
    assumption (masked_psw_holds laws, masked_psw_form)
