use Rattle.ihex_read.proofs.LawLemmas.{some_outcome, not_both, one_image, one_fault}
use Rattle.ihex_read.proofs.laws.image_or_fault.Goals as goal

pub returns-clause-one : goal.returns-clause-one
returns-clause-one c = some_outcome

pub returns-clause-not_both : goal.returns-clause-not_both
returns-clause-not_both c = λ rules tail lines image line fault. not_both rules tail lines image {line = line} {fault = fault}

pub returns-clause-one_image : goal.returns-clause-one_image
returns-clause-one_image c = one_image

pub returns-clause-one_fault : goal.returns-clause-one_fault
returns-clause-one_fault c = λ rules tail lines line other_line fault other. one_fault rules tail lines {line = line} {other_line = other_line} {fault = fault} {other = other}
