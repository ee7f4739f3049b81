use Rattle.msp430_results.proofs.laws.instruction_laws.Goals as goal

pub returns : goal.returns
returns c = assumption c
