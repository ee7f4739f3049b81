use Rattle.value_set.proofs.bytes.Vs8.greatest.Goals as goal

pub returns-clause-last : goal.returns-clause-last
returns-clause-last c = rw (← c.self.view_is) c.greatest.ensures.last
