use Rattle.msp430_flow.proofs.laws.laws_below.Goals as goal

pub returns : goal.returns
returns c = assumption c
