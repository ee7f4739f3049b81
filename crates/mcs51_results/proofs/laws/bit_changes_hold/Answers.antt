use Rattle.mcs51_results.proofs.BitWrites.{carry_holds, carry_bit_holds, byte_bit_holds, byte_bit_form, bit_known, status_bit_holds, status_bit_form, status_bit_known}
use Rattle.mcs51_results.proofs.laws.bit_changes_hold.Goals as goal

pub returns : goal.returns
returns c =
    let laws = c.known_laws.ensures in
    assumption (carry_holds, carry_bit_holds, byte_bit_holds laws, byte_bit_form laws, bit_known laws, status_bit_holds laws, status_bit_form, status_bit_known)
