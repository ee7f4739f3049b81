use Rattle.value_set.proofs.Joins.{tested}
use Rattle.value_set.proofs.words.Vs16.within.Goals as goal

pub returns-clause-value : goal.returns-clause-value
returns-clause-value c = tested 65536 c.args.self.now c.args.other.now c.within.result (rw (← c.self.view_is, ← c.other.view_is) c.within.ensures)

pub returns-clause-inclusion : goal.returns-clause-inclusion
returns-clause-inclusion c = rw (← c.self.view_is, ← c.other.view_is) c.within.ensures
