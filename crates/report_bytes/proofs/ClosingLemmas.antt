-- A finished book is closed exactly where none of its last works leaves a site open.
use Rattle.std.proofs.Common.{◌≡◌, true, Some, sym, ap, ◌∙◌}
use Rattle.std.specs.Prelude.{◌↔◌, Contains}
use Rattle.call_context.specs.declared.node.Unit.{Unit as WorkUnit}
use Rattle.chip_analysis.specs.declared.chip.Work.{Work}
use Rattle.book_rules.specs.Kept.{live_pairs, live_works}
use Rattle.book_rules.specs.Machine.{BookState, Done, done_at, IsClosed, IsFinished, IsUnit}
use Rattle.report_bytes.specs.Report.{are_closed}
use Rattle.report_bytes.specs.ClosedWorks.{all_closed, none_open}
use Rattle.plain_lemmas.specs.Members.{from_values}

pub told : {A : Type 0} (b : BookState A) → IsFinished b
    → ((unit : WorkUnit) (d : Done A) → IsUnit b unit → done_at b.done unit ≡ Some d → Contains (live_works b) d.work)
    → ((unit : WorkUnit) (work : Work A) → Contains (live_pairs b) (unit, work)
    → IsUnit b unit × (d : Done A) × (done_at b.done unit ≡ Some d) × (d.work ≡ work))
    → (are_closed (live_works b) ≡ true) ↔ IsClosed b
told {A = A} b finished listed units = (
  λ closed. record { finished = finished; no_open = λ unit d u found. none_open (live_works b) closed d.work (listed unit d u found) },
  λ closed. all_closed (live_works b) (λ work h.
      let pair = from_values (live_pairs b) work h in
      let d = units pair.0 work pair.1 in
      ap (λ (w : Work A). w.opens) (sym d.3) ∙ closed.no_open pair.0 d.1 d.0 d.2),
)
