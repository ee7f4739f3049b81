use Rattle.std.proofs.Common.{◌*◌, ◌-◌, ◌/◌}
use Rattle.disassembly.proofs.ListingLemmas.{GoesOn}
use Rattle.disassembly.proofs.listing.disassembly_of.Given as goal

-- what was told up to here goes on by what the units from here on tell
abbrev pub invariant-loop-index : goal.invariant-loop-index
invariant-loop-index g l = GoesOn l.unit g.C.Code.reads l.image (65536 / l.unit - l.index) (l.unit * l.index) l.passed l.lines.items
