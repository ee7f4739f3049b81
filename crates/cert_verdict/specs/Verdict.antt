-- What is told of a certificate: the report of its table, where that is closed, or why it is refused.
use Rattle.std.specs.Prelude.{◌≡◌, ℕ, Bool, true, false, None, Some, Ok, Err, List}
use Rattle.call_context.specs.declared.node.Node.{Node}
use Rattle.call_context.specs.declared.node.Unit.{Unit as WorkUnit}
use Rattle.chip_analysis.specs.Analysis.{Analysis}
use Rattle.chip_analysis.specs.declared.chip.Work.{Work}
use Rattle.closed_book.specs.ClosedBook.{IsClosedBook}
use Rattle.report_bytes.specs.Report.{closed_report}
use Rattle.state_text.specs.Texts.{StateTexts}
use Rattle.cert_text.specs.Certificate.{first_row, table_of}
use Rattle.cert_text.specs.declared.fault.LineFault.{LineFault}
use Rattle.cert_check.specs.Refusal.{refusal_of, works_in}
use Rattle.cert_check.specs.declared.refusal.Refusal.{Refusal}
use Rattle.cert_verdict.specs.Lines.{fault_line, refusal_line}

-- A text is the certificate of a closed table, and the report of the table's works is told. Or it is that of another table,
-- of which the first refusal is told, or it is none, and its first line at fault is told.
pub data IsVerdict {A : Type 0} (text_of : ℕ → List ℕ → List ℕ) (a : Analysis A) (texts : StateTexts A) (text : List ℕ)
    (is_closed : Bool) (told : List ℕ) : Type 0 where
  closed : (rows : List (Node × A)) → table_of a texts text ≡ Ok rows → refusal_of a texts.outside rows (first_row a texts text) ≡ None
      → IsClosedBook a rows (works_in a rows) → is_closed ≡ true → told ≡ closed_report text_of (works_in a rows)
      → IsVerdict text_of a texts text is_closed told
  refused : (rows : List (Node × A)) (why : Refusal) → table_of a texts text ≡ Ok rows
      → refusal_of a texts.outside rows (first_row a texts text) ≡ Some why → is_closed ≡ false → told ≡ refusal_line texts.digits why
      → IsVerdict text_of a texts text is_closed told
  faulty : (line : ℕ) (fault : LineFault) → table_of a texts text ≡ Err (line, fault) → is_closed ≡ false
      → told ≡ fault_line line fault → IsVerdict text_of a texts text is_closed told

-- the report of some closed table is told
pub record TellsClosedBook {A : Type 0} (text_of : ℕ → List ℕ → List ℕ) (a : Analysis A) (told : List ℕ) : Type 0 where
  pub nodes : List (Node × A)
  pub works : List (WorkUnit × Work A)
  pub book : IsClosedBook a nodes works
  pub report : told ≡ closed_report text_of works
