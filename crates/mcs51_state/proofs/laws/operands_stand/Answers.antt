use Rattle.mcs51_state.proofs.Standing.{bit_stands, direct_stands, operand_form, operand_stands, working_form, working_stands}
use Rattle.mcs51_state.proofs.laws.operands_stand.Goals as goal

pub returns : goal.returns
returns c =
    let laws = c.known_laws.ensures in
    record {
      working = working_stands laws;
      working_form = working_form laws;
      operand = operand_stands laws;
      operand_form = operand_form laws;
      direct = direct_stands laws;
      bit = bit_stands laws;
    }
