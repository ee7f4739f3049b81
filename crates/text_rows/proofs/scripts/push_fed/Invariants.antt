use Rattle.std.proofs.Common.{◌+◌, ◌≤◌, length}
use Rattle.text_rows.proofs.scripts.push_fed.Given as goal

abbrev pub invariant-loop-piece : goal.invariant-loop-piece
invariant-loop-piece l = length l.reader.text + l.room ≤ 1000
