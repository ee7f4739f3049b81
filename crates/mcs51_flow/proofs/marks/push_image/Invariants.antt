use Rattle.std.proofs.Common.{◌≡◌, ◌++◌, ◌-◌}
use Rattle.chip_flow.specs.Marks.{marks_along}
use Rattle.mcs51_flow.specs.Marks.{marks_at}
use Rattle.mcs51_flow.proofs.marks.push_image.Given as goal

-- the marks so far and those that are left are all of them
abbrev pub invariant-loop-at : goal.invariant-loop-at
invariant-loop-at l =
    l.marks.items ++ marks_along (marks_at l.image) l.at (65536 - l.at) ≡ l.fn.marks.items ++ marks_along (marks_at l.image) 0 65536
