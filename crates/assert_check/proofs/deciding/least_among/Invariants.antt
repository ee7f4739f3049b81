use Rattle.std.proofs.Common.{◌≡◌, drop}
use Rattle.std.specs.Prelude.{filter, fold}
use Rattle.item_lines.specs.Line.{item_line_of}
use Rattle.assert_check.specs.Assertions.{breaks_item, lesser}
use Rattle.assert_check.proofs.deciding.least_among.Given as goal

-- what is left gives what all give
abbrev pub invariant-loop-item : goal.invariant-loop-item
invariant-loop-item g l = let less = lesser (item_line_of (g.C.InstrText.text_of l.chip)) in
    fold less l.least (filter (breaks_item l.assertion) (drop l.item-index l.items)) ≡ fold less l.fn.held (filter (breaks_item l.assertion) l.items)
