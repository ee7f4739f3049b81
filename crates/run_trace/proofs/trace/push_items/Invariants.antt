use Rattle.std.proofs.Common.{◌≡◌, ◌++◌, take}
use Rattle.std.specs.Prelude.{codes}
use Rattle.std.specs.List.{flat_map}
use Rattle.item_lines.specs.Line.{item_line_of}
use Rattle.run_trace.proofs.trace.push_items.Given as goal

abbrev pub invariant-loop-item : goal.invariant-loop-item
invariant-loop-item g l =
    l.text.items ≡ l.fn.text.items ++ flat_map (λ item. item_line_of (g.T.InstrText.text_of l.texts) item ++ codes "\n") (take l.item-index l.items)
