use Rattle.std.proofs.Common.{◌≡◌, take, None}
use Rattle.round_core.specs.Turns.{index_out}
use Rattle.round_core.proofs.turns.index_of.Given as goal

abbrev pub invariant-loop-index : goal.invariant-loop-index
invariant-loop-index l = index_out (take l.index l.out) l.unit ≡ None
