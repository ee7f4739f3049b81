-- A certificate of what an analysis found is accepted.
use Rattle.std.specs.Prelude.{◌≡◌, ℕ, None, Ok, List, IsPermutation}
use Rattle.call_context.specs.declared.node.Node.{Node}
use Rattle.chip_analysis.specs.Analysis.{Analysis}
use Rattle.book_rules.specs.Kept.{nodes_of}
use Rattle.book_rules.specs.Machine.{replay}
use Rattle.book_rules.specs.declared.event.Event.{Event}
use Rattle.report_bytes.specs.Report.{closed_report, report_of_journal}
use Rattle.report_bytes.specs.Stacks.{HasOneStack}
use Rattle.state_text.specs.Texts.{StateTexts}
use Rattle.cert_text.specs.Certificate.{table_of}
use Rattle.cert_check.specs.Refusal.{refusal_of, works_in}

-- The text denotes a table of these nodes, in an order of its own, and nothing refuses the table.
pub record IsAccepted {A : Type 0} (a : Analysis A) (texts : StateTexts A) (nodes : List (Node × A)) (text : List ℕ) : Type 0 where
  pub rows : List (Node × A)
  pub same : IsPermutation nodes rows
  pub reads : table_of a texts text ≡ Ok rows
  pub passes : (first : ℕ) → refusal_of a texts.outside rows first ≡ None

-- So it is with the nodes of the book that a journal leads to. The report of the table's works is that of the book, where
-- the stacks of the chip grow one way and instructions have any texts.
pub record GivesReport {A : Type 0} (a : Analysis A) (texts : StateTexts A) (journal : List Event) (text : List ℕ) : Type 0 where
  pub accepted : IsAccepted a texts (nodes_of (replay a journal)) text
  pub report : HasOneStack a → (text_of : ℕ → List ℕ → List ℕ)
      → closed_report text_of (works_in a accepted.rows) ≡ report_of_journal text_of a journal
