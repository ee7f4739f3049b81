use Rattle.std.proofs.Common.{◌≡◌, length}
use Rattle.graph_rows.proofs.graphs.marks_of.Given as goal

abbrev pub invariant-loop-word : goal.invariant-loop-word
invariant-loop-word l = length l.marks.items ≡ l.count
