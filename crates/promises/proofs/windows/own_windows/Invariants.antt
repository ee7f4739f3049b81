use Rattle.std.proofs.Common.{◌≡◌, drop}
use Rattle.promises.specs.Keeping.{first_of_all, windows_for}
use Rattle.promises.proofs.windows.own_windows.Given as goal

abbrev pub invariant-loop-promise : goal.invariant-loop-promise
invariant-loop-promise l = first_of_all (windows_for l.pc) l.promises ≡ first_of_all (windows_for l.pc) (drop l.promise-index l.promises)
