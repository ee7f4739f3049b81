use Rattle.mcs51_results.proofs.laws.result_laws.Goals as goal

pub returns : goal.returns
returns c = assumption c
