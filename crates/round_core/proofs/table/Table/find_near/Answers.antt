use Rattle.std.proofs.Common.{◌≡◌, ◌∙◌, ap, map, Some, None, sym, subst, slice_get}
use Rattle.std.specs.Prelude.{position, MatchOption}
use Rattle.std.specs.Option.{option_map}
use Rattle.std.specs.Map.{keys_of, lookup}
use Rattle.round_core.specs.Rows.{mark_part, rows_of}
use Rattle.round_core.proofs.table.Table.find_near.Goals as goal
use Rattle.round_core.proofs.Cases.{test_true}
use Rattle.round_core.proofs.TableLemmas.{at-none, at-some, value-at}

pub returns-in_err-index-clause-row : goal.returns-in_err-index-clause-row
returns-in_err-index-clause-row g c =
    let test = g.K.PartialEq.eq c.args.key.now in
    let none : lookup test c.args.self.now.rows ≡ None = at-none test c.args.self.now.rows (sym c.in_err-index.ensures) in
    subst (λ r. MatchOption r (lookup test c.args.self.now.rows ≡ None) (λ found. lookup test c.args.self.now.rows ≡ Some (found.1.now, found.2))) (sym c.from_residual.ensures) none

pub returns-in_err-index-clause-place : goal.returns-in_err-index-clause-place
returns-in_err-index-clause-place g c = ap (option_map (λ found. found.0)) c.from_residual.ensures ∙ c.in_err-index.ensures

pub returns-clause-place : goal.returns-clause-place
returns-clause-place g c = c.in_ok-index.ensures

pub returns-clause-row : goal.returns-clause-row
returns-clause-row g c =
    let test = g.K.PartialEq.eq c.args.key.now in
    let rows = rows_of c.self.inside.marks.entries c.self.inside.values.items in
    let i = c.in_ok-index.index in
    let at : position test (keys_of rows) ≡ Some i = ap (λ v. position test (keys_of v.rows)) c.self.view_is ∙ sym c.in_ok-index.ensures in
    let mark : slice_get (map mark_part rows) i ≡ Some (c.in_ok-mark.field-0-0.now, c.in_ok-mark.mark.now) =
    ap (λ es. slice_get es i) (sym c.self.invariant.marks_are) ∙ sym c.in_ok-mark.ensures.entry in
    let y = c.in_ok-value.ensures.lookup in
    sym (ap (λ v. lookup test v.rows) c.self.view_is)
    ∙ at-some test rows i at _ _ mark _ (value-at rows _ i _ (c.deref.ensures.value ∙ c.self.invariant.values_are) (test_true _ _ y.0) y.1)
