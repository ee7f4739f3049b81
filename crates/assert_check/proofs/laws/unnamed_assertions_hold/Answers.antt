use Rattle.assert_check.proofs.LeastItems.{holds_but}
use Rattle.assert_check.proofs.laws.unnamed_assertions_hold.Goals as goal

pub returns : goal.returns
returns g c = λ base works line_of list covering. holds_but (g.C.LawfulChip.machine base) works covering line_of list
