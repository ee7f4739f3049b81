use Rattle.std.proofs.Common.{◌≡◌, ◌++◌, length}
use Rattle.report_lines.specs.Text.{front_text}
use Rattle.report_lines.proofs.report.read.Given as goal

-- what was read and what is left are the text
abbrev pub invariant-loop-line : goal.invariant-loop-line
invariant-loop-line l = l.text ≡ front_text l.report.closed l.report.lines.items ++ l.rest

abbrev pub decreases-loop-line : goal.decreases-loop-line
decreases-loop-line l = length l.rest
