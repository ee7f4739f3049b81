use Rattle.std.proofs.Common.{refl}
use Rattle.abs_pages.proofs.writing.nothing_at.Goals as goal

pub returns-clause-byte : goal.returns-clause-byte
returns-clause-byte c = c.unknown.ensures.byte refl
