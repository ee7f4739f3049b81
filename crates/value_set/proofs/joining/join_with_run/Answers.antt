use Rattle.std.proofs.Common.{◌∙◌, sym, ap}
use Rattle.value_set.specs.Form.{span}
use Rattle.value_set.specs.Joining.{join_spans}
use Rattle.value_set.specs.declared.form.Progression.{Progression}
use Rattle.value_set.proofs.Answering.{denied}
use Rattle.value_set.proofs.Joins.{test_from_includes, test_fails, join-first, join-second, join-neither}
use Rattle.value_set.proofs.Merges.{apart_spans}
use Rattle.value_set.proofs.joining.join_with_run.Goals as goal

pub returns-then-inside : goal.returns-then-inside
returns-then-inside c = sym (join-first c.args.modulus c.args.first.now c.args.second.now
    (test_from_includes c.args.modulus c.args.second.now c.args.first.now (c.inside.ensures.0 c.if-inside.true)))

pub returns-then-inside-2 : goal.returns-then-inside-2
returns-then-inside-2 c = sym (join-second c.args.modulus c.args.first.now c.args.second.now
    (test_fails c.args.modulus c.args.second.now c.args.first.now (denied _ _ c.inside.ensures c.if-inside.false))
    (test_from_includes c.args.modulus c.args.first.now c.args.second.now (c.inside-2.ensures.0 c.if-inside-2.true)))

pub returns : goal.returns
returns c = c.join_spans.ensures
    ∙ ap (λ (p : Progression). join_spans c.args.modulus p c.span-2.result) c.span.ensures.value ∙ ap (λ (p : Progression). join_spans c.args.modulus (span c.args.modulus c.args.first.now) p) c.span-2.ensures.value
    ∙ sym (apart_spans c.args.modulus c.args.first.now c.args.second.now c.requires.one_run)
    ∙ sym (join-neither c.args.modulus c.args.first.now c.args.second.now
    (test_fails c.args.modulus c.args.second.now c.args.first.now (denied _ _ c.inside.ensures c.if-inside.false))
    (test_fails c.args.modulus c.args.first.now c.args.second.now (denied _ _ c.inside-2.ensures c.if-inside-2.false)))
