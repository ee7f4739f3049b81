use Rattle.ihex_read.proofs.ByteLemmas.{denoted_bytes}
use Rattle.ihex_read.proofs.laws.images_have_bytes.Goals as goal

pub returns : goal.returns
returns c = denoted_bytes
