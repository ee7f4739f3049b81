use Rattle.ihex_read.proofs.FrontLemmas.{has_ended_more, faultless_end}
use Rattle.ihex_read.proofs.laws.ended_texts_stay.Goals as goal

pub returns-clause-ended : goal.returns-clause-ended
returns-clause-ended c = has_ended_more

pub returns-clause-faultless : goal.returns-clause-faultless
returns-clause-faultless c = faultless_end
