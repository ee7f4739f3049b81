-- From the runs that a table covers to the works that show them, and when a book has such a table.
use Rattle.std.proofs.Common.{List}
use Rattle.std.specs.Map.{values_of}
use Rattle.std.proofs.lemmas.Map.Made.{Contains-values_of}
use Rattle.call_context.specs.declared.node.Node.{Node}
use Rattle.call_context.specs.declared.node.Unit.{Unit as WorkUnit}
use Rattle.chip_analysis.specs.declared.chip.Work.{Work}
use Rattle.chip_analysis.specs.Analysis.{Analysis}
use Rattle.chip_law.specs.Laws.{Cover}
use Rattle.chip_law.specs.Machine.{Machine}
use Rattle.closed_book.specs.BookFacts.{AreListed}
use Rattle.closed_book.specs.ClosedBook.{IsClosedBook, NoneIsOpen, table_in}
use Rattle.closing_law.specs.Covered.{AreCovering, CoversRuns}
use Rattle.book_rules.specs.Kept.{live_works}
use Rattle.book_rules.specs.Machine.{BookState, IsFinished, IsClosed}

pub is_closed : {A : Type 0} (b : BookState A) → AreListed b → IsFinished b → NoneIsOpen (live_works b) → IsClosed b
is_closed b listed finished none = record { finished = finished; no_open = λ unit d u found. none d.work (listed unit d u found) }

-- the works of a closed book cover the runs that its table covers
pub works_cover : {S A : Type 0} (machine : Machine S) (m : Analysis A) (covers : Cover S A) (nodes : List (Node × A)) (works : List (WorkUnit × Work A))
    → IsClosedBook m nodes works → CoversRuns machine m covers (table_in nodes) → AreCovering machine (values_of works)
works_cover machine m covers nodes works closed runs = record {
  shows = λ n item met. let shown = runs.shows n item met in (
    m.work shown.unit shown.at shown.exit,
    Contains-values_of works shown.unit _ (closed.each shown.unit shown.at shown.exit shown.is_unit),
    shown.shows,
  );
  stays = runs.stays;
}
