use Rattle.std.proofs.Common.{take}
use Rattle.graph_walks.specs.Turned.{IsTurnedRow}
use Rattle.graph_walks.proofs.turning.turn.Given as goal

abbrev pub invariant-loop-to : goal.invariant-loop-to
invariant-loop-to l = IsTurnedRow l.stop l.from (take l.to-index l.row) l.initial.turned l.turned
