use Rattle.std.proofs.Common.{IfOk, subst}
use Rattle.round_core.specs.Prepared.{IsPrepared}
use Rattle.round_core.specs.Raise.{held_rows}
use Rattle.round_core.proofs.post.prepare.Goals as goal

pub returns-clause-prepared : goal.returns-clause-prepared
returns-clause-prepared g c =
    let old = c.args.parts.now in
    let new = c.prepare_work.new.parts in
    let frames = c.args.done.now.work.waits in
    let versions = c.args.done.now.ticket.versions in
    subst (λ u. IfOk c.prepare_work.result (λ raised. IsPrepared old new u versions frames (held_rows raised.rows.items))) c.unit-unit.ensures
    (subst (λ v. IfOk c.prepare_work.result (λ raised. IsPrepared old new c.unit-unit.result.now v frames (held_rows raised.rows.items))) c.versions.ensures
    c.prepare_work.ensures.prepared)
