use Rattle.value_set.proofs.bytes.Vs8.least.Goals as goal

pub returns-clause-first : goal.returns-clause-first
returns-clause-first c = rw (← c.self.view_is) c.least.ensures.first
