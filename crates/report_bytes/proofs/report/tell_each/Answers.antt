use Rattle.std.proofs.Common.{◌≡◌, [], ◌&&◌, ◌+◌, true, None, drop, ap, subst}
use Rattle.std.specs.List.{flat_map}
use Rattle.std.specs.Map.{values_of}
use Rattle.report_bytes.specs.Deepest.{deepest_of}
use Rattle.report_bytes.specs.Report.{with_lines, lines_of, are_closed}
use Rattle.report_bytes.proofs.ReportLemmas.{first_left, lines_more, closed_more, deepest_more}
use Rattle.report_bytes.proofs.report.tell_each.Goals as goal

pub loop-work-preserved : goal.loop-work-preserved
loop-work-preserved g c =
    let i = c.loop-work.work-index in
    let pairs = c.args.works.now in
    let pair = c.loop-work-item.result in
    let text = g.C.InstrText.text_of c.args.chip.now in
    let rest = values_of (drop (i + 1) pairs) in
    let all = values_of pairs in
    let left = ap values_of (first_left i pairs pair c.loop-work-test.true c.loop-work-item.is) in
    record {
      lines = lines_more (lines_of text) true pair.1 rest c.loop-work.told.lines c.tell.new.told.lines
          (with_lines [] (flat_map (lines_of text) all)) c.in_ok-tell.ensures.lines
          (subst (λ works. with_lines c.loop-work.told.lines (flat_map (lines_of text) works) ≡ with_lines []
          (flat_map (lines_of text) all)) left c.loop-work.invariant.lines);
      closed = closed_more true pair.1 rest c.loop-work.told.is_closed c.tell.new.told.is_closed (are_closed all) c.in_ok-tell.ensures.closed
          (subst (λ works. (c.loop-work.told.is_closed && are_closed works) ≡ are_closed all) left c.loop-work.invariant.closed);
      deepest = deepest_more true pair.1 rest c.loop-work.told.deepest c.tell.new.told.deepest
          (deepest_of None (flat_map (λ work. work.items) all)) c.in_ok-tell.ensures.deepest
          (subst (λ works. deepest_of c.loop-work.told.deepest (flat_map (λ work. work.items) works) ≡ deepest_of None
          (flat_map (λ work. work.items) all)) left c.loop-work.invariant.deepest);
    }
