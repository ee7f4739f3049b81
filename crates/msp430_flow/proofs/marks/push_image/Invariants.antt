use Rattle.std.proofs.Common.{◌≡◌, ◌++◌, ◌-◌}
use Rattle.chip_flow.specs.Marks.{marks_along}
use Rattle.msp430_flow.specs.Marks.{marks_at}
use Rattle.msp430_flow.proofs.marks.push_image.Given as goal

-- the marks so far and those that are left are all of them
abbrev pub invariant-loop-word : goal.invariant-loop-word
invariant-loop-word l =
    l.marks.items ++ marks_along (marks_at l.image) l.word (32768 - l.word) ≡ l.fn.marks.items ++ marks_along (marks_at l.image) 0 32768
