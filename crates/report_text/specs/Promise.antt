-- What a report says of every run of the chip.
use Rattle.std.specs.Prelude.{◌≡◌, ◌⊎◌, true, ℕ, Option, List, Contains, codes}
use Rattle.call_context.specs.declared.shown.Set.{Set}
use Rattle.call_context.specs.Showing.{HasValue}
use Rattle.chip_numbers.specs.Single.{Single}
use Rattle.chip_numbers.specs.Single.Single.{Stack}
use Rattle.chip_analysis.specs.declared.cause.Cause.{Cause}
use Rattle.chip_analysis.specs.Analysis.{Analysis}
use Rattle.chip_analysis.specs.declared.chip.Work.{Work}
use Rattle.chip_law.specs.Machine.{Machine}
use Rattle.chip_law.specs.Runs.{Meets, GoesWild}
use Rattle.item_lines.specs.Shown.{HasLine, IsShownIn}
use Rattle.closed_book.specs.Broken.{IsBroken}
use Rattle.book_rules.specs.Machine.{replay}
use Rattle.book_rules.specs.declared.event.Event.{Event}
use Rattle.report_bytes.specs.Opens.{open_line_of}
use Rattle.report_bytes.specs.Report.{last_works, report_text}
use Rattle.report_bytes.specs.Shows.{Says}
use Rattle.report_bytes.specs.StackLines.{IsCounted, IsDeepestOf, IsNoDeeper, stack_line}
use Rattle.report_bytes.specs.declared.deepest.Deepest.{Deepest}

-- The report says CLOSED. Whatever a run of the chip meets, in any number of steps, has its line in the report, where
-- instructions have these texts, and no run leaves the model.
pub record CoversEveryRun {S : Type 0} (machine : Machine S) (text_of : ℕ → List ℕ → List ℕ) (report : List ℕ) : Type 0 where
  pub says : Says (codes "CLOSED\n") report
  pub shows : (n : ℕ) (item : Single) → Meets machine n item → IsShownIn text_of report item
  pub stays : (n : ℕ) → GoesWild machine n → ⊥

-- The report is CLOSED, lines, and their `T` line, which names the deepest stack pointer of the `S` lines, and how many of these
-- tell all numbers. The stack pointer of a run in front of any step is no deeper, or the `S` line there is one of those.
pub record BoundsStack {S : Type 0} (machine : Machine S) (report : List ℕ) : Type 0 where
  pub lines : List (List ℕ)
  pub deepest : Option Deepest
  pub text : report ≡ report_text true lines deepest
  pub given : IsDeepestOf lines deepest
  pub bounds : (n pc sp : ℕ) → Meets machine n (Stack pc sp) → IsNoDeeper deepest sp
      ⊎ ((set : Set) × Contains lines (stack_line pc set) × HasValue set sp × IsCounted pc set)

-- The report has the line of an open site, which is the address of a location of the book, and by the location's state the
-- limit that its cause names is broken there.
pub record IsOpenSite {A : Type 0} (analysis : Analysis A) (journal : List Event) (report : List ℕ) (pc : ℕ) (cause : Cause) : Type 0 where
  pub line : HasLine report (open_line_of pc cause)
  pub site : IsBroken analysis (replay analysis journal).nodes pc cause

-- The report says OPEN. Some work of the book leaves a site open, and each that does is shown.
pub record ShowsOpenSites {A : Type 0} (analysis : Analysis A) (journal : List Event) (report : List ℕ) : Type 0 where
  pub says : Says (codes "OPEN\n") report
  pub some : (work : Work A) × (site : ℕ × Cause) × Contains (last_works analysis journal) work × Contains work.opens site
  pub each : (work : Work A) (pc : ℕ) (cause : Cause) → Contains (last_works analysis journal) work
      → Contains work.opens (pc, cause) → IsOpenSite analysis journal report pc cause
