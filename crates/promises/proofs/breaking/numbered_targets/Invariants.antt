use Rattle.std.proofs.Common.{◌≡◌, drop}
use Rattle.promises.specs.Breaking.{numbered}
use Rattle.promises.specs.Keeping.{first_of_all, targets_for}
use Rattle.promises.proofs.breaking.numbered_targets.Given as goal

abbrev pub invariant-loop-line : goal.invariant-loop-line
invariant-loop-line l = first_of_all (numbered (targets_for l.pc)) l.list ≡ first_of_all (numbered (targets_for l.pc)) (drop l.line-index l.list)
