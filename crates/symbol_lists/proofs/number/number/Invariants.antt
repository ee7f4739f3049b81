use Rattle.std.proofs.Common.{◌≡◌, ◌≤◌, drop}
use Rattle.symbol_lists.specs.Lines as lines
use Rattle.symbol_lists.proofs.number.number.Given as goal

-- the rest of the digits gives what is left
abbrev pub invariant-loop-i : goal.invariant-loop-i
invariant-loop-i l = (l.number ≤ 65536) × (lines.number_behind l.number (drop l.i l.text) ≡ lines.number l.text)
