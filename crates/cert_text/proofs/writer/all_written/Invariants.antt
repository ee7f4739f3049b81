use Rattle.std.proofs.Common.{◌≡◌, ◌++◌, drop, map}
use Rattle.cert_text.specs.Writing.{bytes_of, written}
use Rattle.cert_text.proofs.writer.all_written.Given as goal

-- what is written so far and what is left make the whole list
abbrev pub invariant-loop-row : goal.invariant-loop-row
invariant-loop-row g l = let one = written (g.C.StateText.texts (g.C.Chip.base l.chip)) in
    map bytes_of l.pairs.items ++ map one (drop l.row-index l.nodes) ≡ map one l.nodes
