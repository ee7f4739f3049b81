use Rattle.std.proofs.Common.{◌≡◌, drop}
use Rattle.promises.specs.Keeping.{first_of_all, windows_for_all}
use Rattle.promises.proofs.windows.other_windows.Given as goal

abbrev pub invariant-loop-promise : goal.invariant-loop-promise
invariant-loop-promise l = first_of_all (windows_for_all) l.promises ≡ first_of_all (windows_for_all) (drop l.promise-index l.promises)
