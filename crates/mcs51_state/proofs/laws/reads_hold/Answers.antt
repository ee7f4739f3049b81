use Rattle.mcs51_state.proofs.BitReads.{carry_is}
use Rattle.mcs51_state.proofs.ReadForms.{bit_is, byte_form, byte_is}
use Rattle.mcs51_state.proofs.RegisterReads.{status_held}
use Rattle.mcs51_state.proofs.laws.reads_hold.Goals as goal

pub returns : goal.returns
returns c =
    let laws = c.known_laws.ensures in
    assumption (byte_is laws, byte_form laws, bit_is laws, carry_is, status_held laws)
