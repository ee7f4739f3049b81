-- Counts of lines that grow by one line.
use Rattle.std.specs.Prelude.{ℕ, ◌+◌, ◌^◌, ◌<◌, if◌then◌else◌, Bool, List}
use Rattle.report_bytes.specs.declared.lines.Counts.{Counts}
use Rattle.report_bytes.specs.Report.{begins_with, is_whole_stack}

abbrev pub one_more : ℕ → Bool → ℕ
one_more count is = count + (if is then 1 else 0)

-- the counts with one more line
abbrev pub counts_with : Counts → List ℕ → Counts
counts_with counts line = record {
  edges = one_more counts.edges (begins_with 69 line);
  instrs = one_more counts.instrs (begins_with 73 line);
  accesses = one_more counts.accesses (begins_with 77 line);
  opens = one_more counts.opens (begins_with 79 line);
  stacks = one_more counts.stacks (begins_with 83 line);
  whole = one_more counts.whole (is_whole_stack line);
}

-- there is room for one more line
pub record AreSmall (counts : Counts) : Type 0 where
  pub edges : counts.edges < 2 ^ 63
  pub instrs : counts.instrs < 2 ^ 63
  pub accesses : counts.accesses < 2 ^ 63
  pub opens : counts.opens < 2 ^ 63
  pub stacks : counts.stacks < 2 ^ 63
  pub whole : counts.whole < 2 ^ 63
