use Rattle.std.proofs.Common.{◌≡◌, drop}
use Rattle.text_fields.specs.Spelling.{has_byte}
use Rattle.text_fields.proofs.reading.has.Given as goal

-- the byte isn't in what was passed
abbrev pub invariant-loop-byte : goal.invariant-loop-byte
invariant-loop-byte l = has_byte l.at l.text ≡ has_byte l.at (drop l.byte-index l.text)
