use Rattle.std.specs.Prelude.{map}
use Rattle.item_lines.specs.Line.{item_line_of}
use Rattle.report_bytes.proofs.ReportLemmas.{told_lines}
use Rattle.report_bytes.proofs.report.tell.Goals as goal
use Rattle.report_bytes.specs.Opens.{open_line_of}

pub returns-clause-lines : goal.returns-clause-lines
returns-clause-lines g c =
    let items = rw c.as_slice.ensures at c.in_ok-add_items.ensures in
    let opens = rw c.as_slice-2.ensures at c.in_ok-add_opens.ensures in
    told_lines c.args.is_live c.args.told.now.lines
    (map (item_line_of (g.C.InstrText.text_of c.args.chip.now)) c.args.work.now.items)
    (map (λ o. open_line_of o.0 o.1) c.args.work.now.opens)
    c.add_items.new.lines c.add_opens.new.lines c.if-not-is_live.false items opens
