use Rattle.graph_walks.proofs.LevelLemmas.{IsBegun}
use Rattle.graph_walks.proofs.levels.Level.of_starts.Given as goal

abbrev pub invariant-loop-vertex : goal.invariant-loop-vertex
invariant-loop-vertex l = IsBegun l.from l.vertex l.level
