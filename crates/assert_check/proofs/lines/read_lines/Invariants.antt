use Rattle.std.proofs.Common.{◌≡◌, ◌≤◌, ◌+◌, length}
use Rattle.text_lines.specs.Lines.{lines_of}
use Rattle.assert_check.specs.Lines.{assertions_behind, assertions_of, with_front}
use Rattle.assert_check.proofs.lines.read_lines.Given as goal

-- the assertions so far, and those of the rest, are those of the text
abbrev pub invariant-loop-line : goal.invariant-loop-line
invariant-loop-line l = record {
  whole : with_front l.list.items (assertions_behind l.spaces l.count (lines_of l.rest)) ≡ assertions_of l.spaces l.text;
  count : l.count + length l.rest ≤ length l.text;
}

abbrev pub decreases-loop-line : goal.decreases-loop-line
decreases-loop-line l = length l.rest
