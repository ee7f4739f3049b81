use Rattle.std.proofs.Common.{◌≡◌, ltb, take}
use Rattle.std.specs.List.{filter}
use Rattle.abs_memory.proofs.joining.low_marks.Given as goal

abbrev pub invariant-loop-mark : goal.invariant-loop-mark
invariant-loop-mark l = l.low.items ≡ filter (λ mark. ltb mark 256) (take l.mark-index l.marks)
