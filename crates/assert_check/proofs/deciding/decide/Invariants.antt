use Rattle.std.proofs.Common.{◌≡◌, ◌++◌, drop}
use Rattle.std.specs.Prelude.{flat_map}
use Rattle.std.specs.Map.{values_of}
use Rattle.item_lines.specs.Line.{item_line_of}
use Rattle.assert_check.specs.Assertions.{broken_of}
use Rattle.assert_check.proofs.deciding.decide.Given as goal

-- what is broken so far, and of what is left, is all that is broken
abbrev pub invariant-loop-line : goal.invariant-loop-line
invariant-loop-line g l =
    let line_of = item_line_of (g.C.InstrText.text_of l.chip) in
    let items = flat_map (λ work. work.items) (values_of l.book.works) in
    l.broken.items ++ broken_of line_of (drop l.line-index l.list) items ≡ broken_of line_of l.list items
