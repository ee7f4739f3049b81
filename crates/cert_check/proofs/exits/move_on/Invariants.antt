use Rattle.std.proofs.Common.{◌≡◌, ◌++◌, drop, map, take}
use Rattle.cert_check.specs.Exits.{moved}
use Rattle.cert_check.proofs.exits.move_on.Given as goal

-- those so far have moved
abbrev pub invariant-loop-cursor : goal.invariant-loop-cursor
invariant-loop-cursor l =
    l.cursors ≡ map (moved l.frame l.next) (take l.cursor-index l.initial.cursors) ++ drop l.cursor-index l.initial.cursors
