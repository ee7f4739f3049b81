use Rattle.std.proofs.Common.{◌≡◌, drop}
use Rattle.symbol_lists.specs.Lines as lines
use Rattle.symbol_lists.proofs.number.behind_spaces.Given as goal

abbrev pub invariant-loop-i : goal.invariant-loop-i
invariant-loop-i l = lines.behind_spaces (drop l.i l.text) ≡ lines.behind_spaces l.text
