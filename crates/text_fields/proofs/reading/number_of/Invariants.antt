use Rattle.std.proofs.Common.{◌≡◌, ◌<◌, ◌^◌, drop}
use Rattle.text_fields.specs.Numbers.{digits_behind}
use Rattle.text_fields.proofs.reading.number_of.Given as goal

-- the number so far, and what the other digits make of it
abbrev pub invariant-loop-byte : goal.invariant-loop-byte
invariant-loop-byte l = (digits_behind 0 l.text ≡ digits_behind l.number (drop l.byte-index l.text)) × (l.number < 16 ^ l.byte-index)
