-- What the bytes of a report show of works, and of a table.
use Rattle.std.specs.Prelude.{◌≡◌, ℕ, Option, List, ◌++◌, Contains}
use Rattle.call_context.specs.declared.node.Node.{Node}
use Rattle.call_context.specs.declared.node.Unit.{Unit as WorkUnit}
use Rattle.call_context.specs.declared.shown.Item.{Item}
use Rattle.chip_analysis.specs.declared.cause.Cause.{Cause}
use Rattle.chip_analysis.specs.Analysis.{Analysis}
use Rattle.chip_analysis.specs.Table.{IsUnitOver}
use Rattle.chip_analysis.specs.declared.chip.Work.{Work}
use Rattle.item_lines.specs.Line.{item_line_of}
use Rattle.item_lines.specs.Shown.{HasLine}
use Rattle.report_bytes.specs.Opens.{open_line_of}
use Rattle.report_bytes.specs.Report.{are_closed, head_line}

-- the report begins with this text
abbrev pub Says : List ℕ → List ℕ → Type 0
Says text report = (rest : List ℕ) × (report ≡ text ++ rest)

-- The report says whether some work leaves a site open. It has the line of each item and of each open site of the works.
pub record ShowsWorks {A : Type 0} (text_of : ℕ → List ℕ → List ℕ) (works : List (Work A)) (report : List ℕ) : Type 0 where
  pub says : Says (head_line (are_closed works)) report
  pub item : (work : Work A) (item : Item) → Contains works work → Contains work.items item
      → HasLine report (item_line_of text_of item)
  pub open_site : (work : Work A) (site : ℕ × Cause) → Contains works work → Contains work.opens site
      → HasLine report (open_line_of site.0 site.1)

-- The report has the line of each item of each work over a table's states.
abbrev pub ShowsTable : {A : Type 0} → (text_of : ℕ → List ℕ → List ℕ) → Analysis A → (Node → Option A) → (report : List ℕ) → Type 0
ShowsTable {A = A} text_of analysis table report = (unit : WorkUnit) (at : A) (exit : Option A) (item : Item)
    → IsUnitOver analysis table unit at exit → Contains (analysis.work unit at exit).items item
    → HasLine report (item_line_of text_of item)
