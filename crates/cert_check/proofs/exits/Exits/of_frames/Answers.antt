use Rattle.std.proofs.Common.{sym, ap, ◌∙◌, subst, drop, length}
use Rattle.cert_check.specs.Exits.{AreNext, cursors_at, due_rows, frames_of, least_place}
use Rattle.cert_check.proofs.ExitsLemmas.{first_next}
use Rattle.cert_check.proofs.exits.Exits.of_frames.Goals as goal

pub invariant_of-result : goal.invariant_of-result
invariant_of-result g c =
    let rows = c.self.inside.rows.now in
    let cursors = c.in_ok-cursors.cursors.items in
    let first = first_next rows c.args.frames.now cursors (c.in_ok-cursors.ensures ∙ ap (λ r. cursors_at 0 r c.args.frames.now) (sym c.self.view_is)) in
    let least = c.least_of-place.ensures ∙ ap (least_place (length rows)) c.deref.ensures.value in
    (subst (AreNext rows cursors) (sym least) first.0, c.deref-2.ensures.value ∙ c.self.invariant.1)

pub returns : goal.returns
returns g c =
    let rows = c.self.inside.rows.now in
    let cursors = c.in_ok-cursors.cursors.items in
    let first = first_next rows c.args.frames.now cursors (c.in_ok-cursors.ensures ∙ ap (λ r. cursors_at 0 r c.args.frames.now) (sym c.self.view_is)) in
    let least = c.least_of-place.ensures ∙ ap (least_place (length rows)) c.deref.ensures.value in
    ap (λ p. due_rows (frames_of cursors) (drop p rows)) least ∙ first.1 ∙ ap (due_rows c.args.frames.now) c.self.view_is
