use Rattle.std.proofs.Common.{◌≡◌, take}
use Rattle.mcs51_state.proofs.state.word_marks.Given as goal

abbrev pub invariant-loop-mark : goal.invariant-loop-mark
invariant-loop-mark l = l.words.items ≡ take l.mark-index l.marks
