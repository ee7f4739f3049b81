use Rattle.std.proofs.Common.{◌≡◌, ◌∙◌, ap, map, Some, sym, slice_get}
use Rattle.round_core.specs.Rows.{mark_part, rows_of}
use Rattle.round_core.proofs.table.Table.at.Goals as goal
use Rattle.round_core.proofs.Cases.{test_true}
use Rattle.round_core.proofs.TableLemmas.{row-of, value-at}

pub returns-in-Some-Some-clause-row : goal.returns-in-Some-Some-clause-row
returns-in-Some-Some-clause-row g c =
    let rows = rows_of c.self.inside.marks.entries c.self.inside.values.items in
    let i = c.args.place in
    let found = c.in-Some-Some in
    let mark : slice_get (map mark_part rows) i ≡ Some (found.key.now, found.mark.now) =
    ap (λ es. slice_get es i) (sym c.self.invariant.marks_are) ∙ sym found.ensures.entry in
    let y = found.ensures'.lookup in
    sym (ap (λ v. slice_get v.rows i) c.self.view_is)
    ∙ row-of rows i _ _ mark _ (value-at rows _ i _ (c.deref.ensures.value ∙ c.self.invariant.values_are) (test_true _ _ y.0) y.1)
