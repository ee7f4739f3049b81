use Rattle.mcs51_branch.proofs.laws.branch_laws.Goals as goal

pub returns : goal.returns
returns c = assumption c
