use Rattle.std.proofs.Common.{subst}
use Rattle.std.specs.Map.{values_of}
use Rattle.closed_book.specs.ClosedBook.{Closed, IsClosedBook, NoneIsOpen}
use Rattle.closed_book.specs.BookFacts.{none_open}
use Rattle.closed_book.proofs.closed.ClosedBook.is_of_closed_table.Goals as goal

pub returns-clause-program : goal.returns-clause-program
returns-clause-program g c = subst (λ (v : Closed _ _). g.C.OrderlyChip.program v.base) c.self.view_is c.self.invariant.0

pub returns-clause-closed : goal.returns-clause-closed
returns-clause-closed g c =
    subst (λ (v : Closed _ _). IsClosedBook (g.C.Chip.analysis v.base) v.nodes v.works) c.self.view_is c.self.invariant.1

pub returns-clause-no_open : goal.returns-clause-no_open
returns-clause-no_open g c =
    subst (λ (v : Closed _ _). NoneIsOpen (values_of v.works)) c.self.view_is (none_open _ _ _ c.self.invariant.1)
