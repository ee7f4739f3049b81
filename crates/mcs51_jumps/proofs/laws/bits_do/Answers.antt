use Rattle.mcs51_jumps.proofs.Carries.{carry_bit_does, carry_does}
use Rattle.mcs51_jumps.proofs.ChangedBits.{bit_does, changed_leads}
use Rattle.mcs51_jumps.proofs.laws.bits_do.Goals as goal

pub returns : goal.returns
returns c =
    let laws = c.instruction_laws.ensures in
    record {
      change_carry = carry_does laws;
      carry_bit = carry_bit_does laws;
      change_bit = bit_does laws;
      changed = changed_leads laws;
    }
