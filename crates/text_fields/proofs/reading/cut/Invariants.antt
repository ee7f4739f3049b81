use Rattle.std.proofs.Common.{◌≡◌, take, drop}
use Rattle.text_fields.specs.Fields.{cut_at}
use Rattle.text_fields.proofs.Steps.{prefixed}
use Rattle.text_fields.proofs.reading.cut.Given as goal

-- the byte isn't in what was passed
abbrev pub invariant-loop-i : goal.invariant-loop-i
invariant-loop-i l = cut_at l.at l.text ≡ prefixed (take l.i l.text) (cut_at l.at (drop l.i l.text))
