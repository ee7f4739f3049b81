use Rattle.ihex_read.proofs.ReaderLemmas.{read_ended}
use Rattle.ihex_read.proofs.feeding.Reader.ended.Goals as goal

pub returns : goal.returns
returns c = rw (← c.self.view_is, c.has_ended.ensures) (read_ended _ _ _ _ _ _ _ c.self.invariant)
