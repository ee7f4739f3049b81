use Rattle.std.specs.List.{flat_map}
use Rattle.assert_check.specs.Assertions.{broken_of}
use Rattle.assert_check.proofs.LeastItems.{holds_all, items_of}
use Rattle.assert_check.proofs.laws.unbroken_lists_hold.Goals as goal

pub returns : goal.returns
returns g c = λ base works line_of list covering none.
    holds_all (g.C.LawfulChip.machine base) list (broken_of line_of list (flat_map items_of works))
    (c.unnamed_assertions_hold.ensures base works line_of list covering) none
