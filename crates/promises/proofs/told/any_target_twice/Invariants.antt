use Rattle.std.proofs.Common.{◌≡◌, drop}
use Rattle.std.specs.List.{list_any}
use Rattle.promises.specs.Text.{has_target_twice}
use Rattle.promises.proofs.told.any_target_twice.Given as goal

abbrev pub invariant-loop-promise : goal.invariant-loop-promise
invariant-loop-promise l = list_any has_target_twice l.promises ≡ list_any has_target_twice (drop l.promise-index l.promises)
