use Rattle.std.proofs.Common.{◌≡◌, ◌∙◌, ap, sym, Some, slice_get}
use Rattle.std.specs.Prelude.{position}
use Rattle.std.specs.Map.{keys_of}
use Rattle.round_core.proofs.table.Table.stands_at.Goals as goal
use Rattle.round_core.proofs.TableLemmas.{keys-marks, near-place}

pub returns-in-Some : goal.returns-in-Some
returns-in-Some g c = λ t.
    let eq = g.K.PartialEq.eq in
    let key = c.args.key.now in
    let es = c.self.inside.marks.entries in
    let i = c.args.place in
    let k = c.in-Some.stored.now in
    let entry : slice_get es i ≡ Some (k, c.in-Some.field-0-1.now) = ap (λ l. slice_get l i) (sym c.as_slice.ensures.entries) ∙ sym c.in-Some.ensures.entry in
    let test : c.is_same.result ≡ eq key k = c.is_same.ensures in
    let at = near-place eq g.met.K.Eq.laws es c.as_slice.ensures.unique i k _ entry key (sym test ∙ t) in
    sym (ap (λ v. position (eq key) (keys_of v.rows)) c.self.view_is) ∙ ap (position (eq key)) (sym (keys-marks _))
    ∙ ap (λ l. position (eq key) (keys_of l)) (sym c.self.invariant.marks_are) ∙ at
