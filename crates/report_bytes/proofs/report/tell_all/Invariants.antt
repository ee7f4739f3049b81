use Rattle.std.proofs.Common.{◌≡◌, ◌&&◌, [], None, drop}
use Rattle.std.specs.Prelude.{map, filter}
use Rattle.std.specs.List.{flat_map}
use Rattle.book_rules.specs.Kept.{is_live, live_works}
use Rattle.book_rules.specs.Machine.{replay}
use Rattle.report_bytes.specs.Deepest.{deepest_of}
use Rattle.report_bytes.specs.Report.{with_lines, lines_of, are_closed}
use Rattle.report_bytes.proofs.report.tell_all.Given as goal

-- what is told and what is left to tell are all that is to be told
abbrev pub invariant-loop-unit : goal.invariant-loop-unit
invariant-loop-unit g l = let b = replay (g.C.Chip.analysis l.book.base) l.book.journal in
    let left = map (λ p. p.1) (filter (λ p. is_live b.done p.0) (drop l.unit-index l.unit-items)) in
    let all = live_works b in
    let text = g.C.InstrText.text_of l.chip in
    record {
      lines : with_lines l.told.lines (flat_map (lines_of text) left) ≡ with_lines [] (flat_map (lines_of text) all);
      closed : (l.told.is_closed && are_closed left) ≡ are_closed all;
      deepest : deepest_of l.told.deepest (flat_map (λ work. work.items) left) ≡ deepest_of None (flat_map (λ work. work.items) all);
    }
