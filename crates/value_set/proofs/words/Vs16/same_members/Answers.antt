use Rattle.value_set.proofs.words.Vs16.same_members.Goals as goal

pub same_members-requires-clause-same : goal.same_members-requires-clause-same
same_members-requires-clause-same c = rw (c.self.view_is, c.other.view_is) c.requires
