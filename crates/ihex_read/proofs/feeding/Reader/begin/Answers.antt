use Rattle.ihex_read.proofs.ReaderLemmas.{read_begin, read_going}
use Rattle.ihex_read.proofs.feeding.Reader.begin.Goals as goal

pub invariant_of-self-2 : goal.invariant_of-self-2
invariant_of-self-2 c =
    let going = rw (← c.self.view_is) at c.requires.going in
    let room = rw (← c.self.view_is) at c.requires.room in
    rw c.in_ok-extend_from_slice.ensures.items (read_begin _ _ _ _ _ _ _ _ c.self.invariant c.requires.unbroken going room)

pub returns-clause-going : goal.returns-clause-going
returns-clause-going c =
    let going = rw (← c.self.view_is) at c.requires.going in
    rw (c.in_ok-extend_from_slice.ensures.items) (read_going _ _ _ _ _ _ _ _ c.self.invariant c.requires.unbroken going)
