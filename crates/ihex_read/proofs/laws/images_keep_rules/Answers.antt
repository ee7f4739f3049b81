use Rattle.ihex_read.proofs.KeptLemmas.{denoted_kept}
use Rattle.ihex_read.proofs.laws.images_keep_rules.Goals as goal

pub returns : goal.returns
returns c = denoted_kept
