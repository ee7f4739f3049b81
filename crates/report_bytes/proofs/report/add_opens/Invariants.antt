use Rattle.std.proofs.Common.{◌≡◌, drop}
use Rattle.std.specs.Prelude.{map}
use Rattle.report_bytes.specs.Opens.{open_line_of}
use Rattle.report_bytes.specs.Report.{with_lines}
use Rattle.report_bytes.proofs.report.add_opens.Given as goal

-- what is left makes the set that all make
abbrev pub invariant-loop-pc : goal.invariant-loop-pc
invariant-loop-pc l =
    with_lines l.lines (map (λ o. open_line_of o.0 o.1) (drop l.pc-index l.opens)) ≡ with_lines l.fn.lines (map (λ o. open_line_of o.0 o.1) l.opens)
