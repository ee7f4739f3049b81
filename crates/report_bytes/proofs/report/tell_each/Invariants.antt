use Rattle.std.proofs.Common.{◌≡◌, ◌&&◌, [], None, drop}
use Rattle.std.specs.List.{flat_map}
use Rattle.std.specs.Map.{values_of}
use Rattle.report_bytes.specs.Deepest.{deepest_of}
use Rattle.report_bytes.specs.Report.{with_lines, lines_of, are_closed}
use Rattle.report_bytes.proofs.report.tell_each.Given as goal

-- what is told and what is left to tell are all that is to be told
abbrev pub invariant-loop-work : goal.invariant-loop-work
invariant-loop-work g l = let left = values_of (drop l.work-index l.works) in
    let all = values_of l.works in
    let text = g.C.InstrText.text_of l.chip in
    record {
      lines : with_lines l.told.lines (flat_map (lines_of text) left) ≡ with_lines [] (flat_map (lines_of text) all);
      closed : (l.told.is_closed && are_closed left) ≡ are_closed all;
      deepest : deepest_of l.told.deepest (flat_map (λ work. work.items) left) ≡ deepest_of None (flat_map (λ work. work.items) all);
    }
