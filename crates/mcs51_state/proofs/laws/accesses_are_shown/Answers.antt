use Rattle.mcs51_state.proofs.Shown.{address_shown, operand_shown, pointer_shown}
use Rattle.mcs51_state.proofs.laws.accesses_are_shown.Goals as goal

pub returns : goal.returns
returns c =
    let laws = c.known_laws.ensures in
    record {
      operand = operand_shown laws;
      pointer = pointer_shown laws;
      address = address_shown laws;
    }
