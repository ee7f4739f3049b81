use Rattle.std.proofs.Common.{◌≡◌, drop}
use Rattle.std.specs.Prelude.{map}
use Rattle.item_lines.specs.Line.{item_line_of}
use Rattle.report_bytes.specs.Report.{with_lines}
use Rattle.report_bytes.proofs.report.add_items.Given as goal

-- what is left makes the set that all make
abbrev pub invariant-loop-item : goal.invariant-loop-item
invariant-loop-item g l = let line = item_line_of (g.C.InstrText.text_of l.chip) in
    with_lines l.lines (map line (drop l.item-index l.items)) ≡ with_lines l.fn.lines (map line l.items)
