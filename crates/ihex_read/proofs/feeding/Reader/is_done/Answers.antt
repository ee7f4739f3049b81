use Rattle.ihex_read.proofs.ReaderLemmas.{read_ended, read_no_fault, read_first_end}
use Rattle.ihex_read.proofs.feeding.Reader.is_done.Goals as goal

pub returns-in-Blank-clause-good : goal.returns-in-Blank-clause-good
returns-in-Blank-clause-good c = rw (← c.self.view_is) (λ line fault. read_no_fault _ _ _ _ _ _ _ line fault c.self.invariant)

pub returns-in-Second-clause-done : goal.returns-in-Second-clause-done
returns-in-Second-clause-done c = rw (← c.self.view_is, c.has_ended.ensures)
    (let ended = read_ended _ _ _ _ _ _ _ c.self.invariant in (λ is. (c.in-Second.is, ended.0 is), λ has. ended.1 has.1))

pub returns-in-Second-clause-good : goal.returns-in-Second-clause-good
returns-in-Second-clause-good c = rw (← c.self.view_is) (λ line fault. read_no_fault _ _ _ _ _ _ _ line fault c.self.invariant)

pub returns-in-Second-clause-first : goal.returns-in-Second-clause-first
returns-in-Second-clause-first c = rw (← c.self.view_is) (λ second k. read_first_end _ _ _ _ _ _ _ k c.self.invariant second)
