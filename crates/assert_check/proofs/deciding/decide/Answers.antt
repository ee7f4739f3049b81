use Rattle.std.proofs.Common.{sym, subst, ◌∙◌}
use Rattle.std.specs.Map.{values_of}
use Rattle.std.specs.Prelude.{flat_map}
use Rattle.item_lines.specs.Line.{item_line_of}
use Rattle.assert_check.specs.Holding.{HoldsBut}
use Rattle.assert_check.proofs.LeastItems.{all_told, items_of}
use Rattle.assert_check.proofs.deciding.decide.Goals as goal

pub returns-clause-holds_but : goal.returns-clause-holds_but
returns-clause-holds_but g c =
    let line_of = item_line_of (g.C.InstrText.text_of c.args.chip.now) in
    let works = values_of c.args.book.now.works in
    let list = c.args.list.now in
    let exact = all_told line_of list (flat_map items_of works) c.loop-line.broken.items _ c.loop-line.line-index c.loop-line-test.false
    c.loop-line.invariant in
    subst (HoldsBut (g.C.LawfulChip.machine c.args.book.now.base) list) (sym exact)
    (c.unnamed_assertions_hold.ensures c.args.book.now.base works line_of list c.covers_runs.ensures.works)

pub returns-clause-holds : goal.returns-clause-holds
returns-clause-holds g c = λ none.
    let line_of = item_line_of (g.C.InstrText.text_of c.args.chip.now) in
    let works = values_of c.args.book.now.works in
    let list = c.args.list.now in
    let exact = all_told line_of list (flat_map items_of works) c.loop-line.broken.items _ c.loop-line.line-index c.loop-line-test.false
    c.loop-line.invariant in
    c.unbroken_lists_hold.ensures c.args.book.now.base works line_of list c.covers_runs.ensures.works (sym exact ∙ none)
