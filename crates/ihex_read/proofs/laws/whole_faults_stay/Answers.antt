use Rattle.ihex_read.proofs.FrontLemmas.{faults_within_more}
use Rattle.ihex_read.proofs.laws.whole_faults_stay.Goals as goal

pub returns : goal.returns
returns c = faults_within_more
