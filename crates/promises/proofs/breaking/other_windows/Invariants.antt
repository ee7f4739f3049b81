use Rattle.std.proofs.Common.{◌≡◌, drop}
use Rattle.promises.specs.Breaking.{numbered}
use Rattle.promises.specs.Keeping.{first_of_all, windows_for_all}
use Rattle.promises.proofs.breaking.other_windows.Given as goal

abbrev pub invariant-loop-line : goal.invariant-loop-line
invariant-loop-line l = first_of_all (numbered windows_for_all) l.list ≡ first_of_all (numbered windows_for_all) (drop l.line-index l.list)
