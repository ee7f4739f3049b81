use Rattle.mcs51_state.proofs.laws.store_laws.Goals as goal

pub returns : goal.returns
returns c = assumption c
