-- The report of works says whether they are closed, and has the line of each item and each open site of theirs.
use Rattle.std.proofs.Common.{◌≡◌, ◌++◌, ℕ, Bool, true, Option, Some, List, [], ◌∷◌, refl, ap, subst, ◌∙◌, append_assoc}
use Rattle.std.specs.Prelude.{Contains, map}
use Rattle.std.specs.List.{flat_map}
use Rattle.std.specs.Map.{values_of}
use Rattle.std.proofs.lemmas.List.Elements.{Contains-append_right}
use Rattle.std.proofs.lemmas.Map.Made.{Contains-values_of}
use Rattle.call_context.specs.declared.node.Node.{Node}
use Rattle.call_context.specs.declared.node.Unit.{Unit as WorkUnit}
use Rattle.chip_analysis.specs.declared.cause.Cause.{Cause}
use Rattle.chip_analysis.specs.Analysis.{Analysis}
use Rattle.chip_analysis.specs.Table.{IsUnitOver}
use Rattle.chip_analysis.specs.declared.chip.Work.{Work}
use Rattle.item_lines.specs.Line.{item_line_of}
use Rattle.item_lines.specs.Shown.{HasLine}
use Rattle.closed_book.specs.BookFacts.{AreListed}
use Rattle.closed_book.specs.ClosedBook.{IsClosedBook, table_in}
use Rattle.book_rules.specs.Machine.{BookState, Done, done_at, replay, IsUnit}
use Rattle.book_rules.specs.Table.{table_of}
use Rattle.book_rules.specs.declared.event.Event.{Event}
use Rattle.plain_lemmas.specs.Members.{in_flat_map, in_map}
use Rattle.report_bytes.specs.Deepest.{deepest_of}
use Rattle.report_bytes.specs.Opens.{open_line_of}
use Rattle.report_bytes.specs.Report.{are_closed, lines_of, with_lines, head_line, summary_of, report_text, report_of, last_works, report_of_journal, closed_report}
use Rattle.report_bytes.specs.Shows.{Says, ShowsTable, ShowsWorks}
use Rattle.report_bytes.proofs.ShownLemmas.{in_with_lines_new, report_has, report_has_item}

-- the head of a report
says_head : {A : Type 0} (text : ℕ → List ℕ → List ℕ) (closed : Bool) (works : List (Work A)) → are_closed works ≡ closed
    → Says (head_line closed) (report_of text true works)
says_head {A = A} text closed works e =
    let lines = with_lines [] (flat_map (lines_of text) works) in
    let deepest = deepest_of _ (flat_map (λ (w : Work A). w.items) works) in
    let body = flat_map (λ line. line ++ 10 ∷ []) lines in
    (body ++ summary_of deepest lines, ap (λ c. report_text c lines deepest) e ∙ append_assoc (head_line closed) body (summary_of deepest lines))

-- the report has the line of each open
report_has_open : {A : Type 0} (text : ℕ → List ℕ → List ℕ) (works : List (Work A)) (work : Work A) (site : ℕ × Cause) → Contains works work
    → Contains work.opens site → HasLine (report_of text true works) (open_line_of site.0 site.1)
report_has_open text works work site w o =
    report_has (are_closed works) (with_lines [] (flat_map (lines_of text) works)) (deepest_of _ (flat_map (λ w. w.items) works)) (open_line_of site.0 site.1)
    (in_with_lines_new (flat_map (lines_of text) works) [] (open_line_of site.0 site.1)
    (in_flat_map (lines_of text) works work (open_line_of site.0 site.1) w
    (Contains-append_right (map (item_line_of text) work.items) (map (λ o. open_line_of o.0 o.1) work.opens) (open_line_of site.0 site.1)
    (in_map (λ (o : ℕ × Cause). open_line_of o.0 o.1) work.opens site o))))

pub shows_works : {A : Type 0} (text : ℕ → List ℕ → List ℕ) (works : List (Work A)) → ShowsWorks text works (report_of text true works)
shows_works text works = record {
  says = says_head text (are_closed works) works refl;
  item = report_has_item text works;
  open_site = report_has_open text works;
}

pub closed_shows : {A : Type 0} (text : ℕ → List ℕ → List ℕ) (m : Analysis A) (nodes : List (Node × A)) (works : List (WorkUnit × Work A))
    → IsClosedBook m nodes works → ShowsTable text m (table_in nodes) (closed_report text works)
closed_shows text m nodes works closed unit at exit item over h =
    report_has_item text (values_of works) (m.work unit at exit) item
    (Contains-values_of works unit (m.work unit at exit) (closed.each unit at exit over)) h

abbrev pub AreWorked : {A : Type 0} → Analysis A → BookState A → Type 0
AreWorked {A = A} m b = (unit : WorkUnit) (at : A) (exit : Option A) → IsUnitOver m (table_of b.nodes) unit at exit
    → IsUnit b unit × (d : Done A) × (done_at b.done unit ≡ Some d) × (d.work ≡ m.work unit at exit)

-- the report of a finished book shows its table
pub book_shows : {A : Type 0} (text : ℕ → List ℕ → List ℕ) (m : Analysis A) (journal : List Event) → AreListed (replay m journal)
    → AreWorked m (replay m journal) → ShowsTable text m (table_of (replay m journal).nodes) (report_of_journal text m journal)
book_shows text m journal listed worked unit at exit item over h =
    let (is_unit, done, found, is_work) = worked unit at exit over in
    report_has_item text (last_works m journal) (m.work unit at exit) item
    (subst (Contains (last_works m journal)) is_work (listed unit done is_unit found)) h
