use Rattle.std.proofs.Common.{◌≡◌, ◌++◌, drop}
use Rattle.cert_check.specs.Exits.{cursors_at}
use Rattle.cert_check.proofs.exits.Exits.cursors.Given as goal

-- the cursors so far and those of what is left are all cursors
abbrev pub invariant-loop-frame : goal.invariant-loop-frame
invariant-loop-frame g l = l.cursors.items ++ cursors_at 0 l.self (drop l.frame-index l.frames) ≡ cursors_at 0 l.self l.frames
