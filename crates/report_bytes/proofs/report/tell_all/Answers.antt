use Rattle.std.proofs.Common.{◌≡◌, [], ◌&&◌, ◌+◌, None, drop, sym, ◌∙◌, ap, subst}
use Rattle.std.specs.List.{flat_map}
use Rattle.book_rules.specs.Kept.{is_live, live_works}
use Rattle.book_rules.specs.Machine.{replay}
use Rattle.report_bytes.specs.Deepest.{deepest_of}
use Rattle.report_bytes.specs.Report.{with_lines, lines_of, are_closed}
use Rattle.report_bytes.proofs.ReportLemmas.{first_left, passing, passing-cons, lines_more, closed_more, deepest_more}
use Rattle.report_bytes.proofs.report.tell_all.Goals as goal

pub loop-unit-preserved : goal.loop-unit-preserved
loop-unit-preserved g c =
    let i = c.loop-unit.unit-index in
    let pairs = c.works-unit-items.result.now in
    let pair = c.loop-unit-item.result in
    let b = replay (g.C.Chip.analysis c.args.book.now.base) c.args.book.now.journal in
    let text = g.C.InstrText.text_of c.args.chip.now in
    let live = c.is_live-is_live.result in
    let first = first_left i pairs pair c.loop-unit-test.true c.loop-unit-item.is in
    let rest = passing (is_live b.done) (drop (i + 1) pairs) in
    let left = ap (passing (is_live b.done)) first ∙ passing-cons (is_live b.done) pair (drop (i + 1) pairs) live (sym c.is_live-is_live.ensures) in
    record {
      lines = lines_more (lines_of text) live pair.1 rest c.loop-unit.told.lines c.tell.new.told.lines (with_lines [] (flat_map (lines_of text) (live_works b))) c.in_ok-tell.ensures.lines
          (subst (λ works. with_lines c.loop-unit.told.lines (flat_map (lines_of text) works) ≡ with_lines [] (flat_map (lines_of text) (live_works b))) left c.loop-unit.invariant.lines);
      closed = closed_more live pair.1 rest c.loop-unit.told.is_closed c.tell.new.told.is_closed (are_closed (live_works b)) c.in_ok-tell.ensures.closed
          (subst (λ works. (c.loop-unit.told.is_closed && are_closed works) ≡ are_closed (live_works b)) left c.loop-unit.invariant.closed);
      deepest = deepest_more live pair.1 rest c.loop-unit.told.deepest c.tell.new.told.deepest (deepest_of None (flat_map (λ work. work.items) (live_works b))) c.in_ok-tell.ensures.deepest
          (subst (λ works. deepest_of c.loop-unit.told.deepest (flat_map (λ work. work.items) works) ≡ deepest_of None (flat_map (λ work. work.items) (live_works b))) left c.loop-unit.invariant.deepest);
    }
