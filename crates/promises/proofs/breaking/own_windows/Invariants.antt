use Rattle.std.proofs.Common.{◌≡◌, drop}
use Rattle.promises.specs.Breaking.{numbered}
use Rattle.promises.specs.Keeping.{first_of_all, windows_for}
use Rattle.promises.proofs.breaking.own_windows.Given as goal

abbrev pub invariant-loop-line : goal.invariant-loop-line
invariant-loop-line l = first_of_all (numbered (windows_for l.pc)) l.list ≡ first_of_all (numbered (windows_for l.pc)) (drop l.line-index l.list)
