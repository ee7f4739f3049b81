use Rattle.std.proofs.Common.{◌≡◌, take, map}
use Rattle.std.specs.List.{fold}
use Rattle.value_set.specs.Form.{greater}
use Rattle.value_set.proofs.long.greatest.Given as goal

abbrev pub invariant-loop-number : goal.invariant-loop-number
invariant-loop-number g l = l.greatest ≡ fold greater 0 (map g.N.Number.number (take l.number-index l.list))
