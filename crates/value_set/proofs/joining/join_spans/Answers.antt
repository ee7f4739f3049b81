use Rattle.std.proofs.Common.{◌∙◌, sym}
use Rattle.value_set.proofs.Joins.{choose-second, choose-first, choose-neither, choose_same}
use Rattle.value_set.proofs.joining.join_spans.Goals as goal

pub returns-then-is_second : goal.returns-then-is_second
returns-then-is_second c = c.stretched.ensures ∙ sym (choose-second c.args.modulus c.candidate-one.result c.candidate-other.result (sym c.is_second.ensures ∙ c.if-is_second.true))
    ∙ choose_same c.args.modulus c.args.first.now c.args.second.now c.candidate-one.result c.candidate-other.result c.candidate-one.ensures.value c.candidate-other.ensures.value

pub returns-then-one-modulus : goal.returns-then-one-modulus
returns-then-one-modulus c = c.stretched-then-one-modulus.ensures
    ∙ sym (choose-first c.args.modulus c.candidate-one.result c.candidate-other.result (sym c.is_second.ensures ∙ c.if-is_second.false) c.if-one-modulus.true)
    ∙ choose_same c.args.modulus c.args.first.now c.args.second.now c.candidate-one.result c.candidate-other.result c.candidate-one.ensures.value c.candidate-other.ensures.value

pub returns : goal.returns
returns c = c.class.ensures
    ∙ sym (choose-neither c.args.modulus c.candidate-one.result c.candidate-other.result (sym c.is_second.ensures ∙ c.if-is_second.false) c.if-one-modulus.false)
    ∙ choose_same c.args.modulus c.args.first.now c.args.second.now c.candidate-one.result c.candidate-other.result c.candidate-one.ensures.value c.candidate-other.ensures.value
