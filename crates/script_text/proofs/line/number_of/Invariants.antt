use Rattle.std.proofs.Common.{◌≡◌, ◌<◌, ◌^◌, drop}
use Rattle.script_text.specs.Script as script
use Rattle.script_text.proofs.line.number_of.Given as goal

-- the rest of the digits gives what is left
abbrev pub invariant-loop-i : goal.invariant-loop-i
invariant-loop-i l = (l.number < 16 ^ l.i) × (script.number_behind l.number (drop l.i l.line) ≡ script.number_of l.line)
