use Rattle.std.proofs.Common.{◌∙◌, sym, map}
use Rattle.value_set.proofs.Answering.{denied}
use Rattle.value_set.proofs.Merges.{join_held, join_grown}
use Rattle.value_set.proofs.Widens.{widen-within, widened_whole}
use Rattle.value_set.proofs.widening.widen.Goals as goal

pub returns-then-same : goal.returns-then-same
returns-then-same g c = c.same.ensures.0 c.if-same.true ∙ sym (widen-within c.args.modulus c.args.held.now c.args.new.now (map g.N.Number.number c.args.marks.now)
    (join_held c.args.modulus c.args.held.now c.args.new.now c.requires.held_normal c.requires.new_normal (sym c.join-both.ensures.value ∙ c.same.ensures.0 c.if-same.true)))

pub returns : goal.returns
returns g c = c.widen_span.ensures ∙ widened_whole c.args.modulus c.args.held.now c.args.new.now (map g.N.Number.number c.args.marks.now) c.join-both.result c.span.result c.span-2.result
    c.join-both.ensures.value c.span.ensures.value c.span-2.ensures.value
    (join_grown c.args.modulus c.args.held.now c.args.new.now (λ e. denied _ _ c.same.ensures c.if-same.false (c.join-both.ensures.value ∙ e)))
