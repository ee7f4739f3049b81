use Rattle.mcs51_jumps.proofs.Carries.{carry_bit_form, carry_form}
use Rattle.mcs51_jumps.proofs.ChangedBits.{bit_form}
use Rattle.mcs51_jumps.proofs.laws.bits_keep_form.Goals as goal

pub returns : goal.returns
returns c =
    let laws = c.instruction_laws.ensures in
    record { change_carry = carry_form laws; carry_bit = carry_bit_form laws; change_bit = bit_form laws }
