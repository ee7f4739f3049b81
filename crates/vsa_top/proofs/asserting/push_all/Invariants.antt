use Rattle.std.proofs.Common.{◌≡◌, ◌++◌, drop}
use Rattle.std.specs.Prelude.{flat_map}
use Rattle.item_lines.specs.Line.{item_line_of}
use Rattle.vsa_top.specs.Asserted.{fails_line}
use Rattle.vsa_top.proofs.asserting.push_all.Given as goal

-- the text so far and what is left make the whole text
abbrev pub invariant-loop-one : goal.invariant-loop-one
invariant-loop-one g l =
    let line = fails_line (item_line_of (g.C.InstrText.text_of l.chip)) in
    l.text.items ++ flat_map line (drop l.one-index l.broken) ≡ l.fn.text.items ++ flat_map line l.broken
