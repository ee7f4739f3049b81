use Rattle.mcs51_state.proofs.laws.operand_laws.Goals as goal

pub returns : goal.returns
returns c = assumption c
