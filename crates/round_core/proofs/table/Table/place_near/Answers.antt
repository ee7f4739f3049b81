use Rattle.std.proofs.Common.{sym}
use Rattle.round_core.proofs.table.Table.place_near.Goals as goal

pub returns-then-stands_at : goal.returns-then-stands_at
returns-then-stands_at g c = sym (c.stands_at.ensures c.if-stands_at.true)
