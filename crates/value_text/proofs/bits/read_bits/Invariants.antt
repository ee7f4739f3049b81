use Rattle.std.proofs.Common.{◌≡◌, ◌-◌, Some, length, take, drop, reverse}
use Rattle.value_text.proofs.BitLemmas.{row_of}
use Rattle.value_text.proofs.bits.read_bits.Given as goal

-- the bits of the text so far, from the highest on
abbrev pub invariant-loop-i : goal.invariant-loop-i
invariant-loop-i g l = (length l.bits ≡ g.row.N) × (row_of (take l.i l.text) ≡ Some (reverse (drop (g.row.N - l.i) l.bits)))
