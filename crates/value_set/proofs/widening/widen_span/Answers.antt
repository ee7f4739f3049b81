use Rattle.std.proofs.Common.{arith, ap, ◌∙◌, map, Some, None, ℕ}
use Rattle.value_set.specs.Form.{make}
use Rattle.value_set.proofs.Widens.{no_marks, some_marks, unmarked, round, between, first_missed, widened_fits, AllBelow_from}
use Rattle.value_set.proofs.widening.widen_span.Goals as goal

pub returns-then-is_empty : goal.returns-then-is_empty
returns-then-is_empty g c = c.class.ensures ∙ unmarked c.args.modulus c.args.run.now c.args.held.now (map g.N.Number.number c.args.marks.now)
    (no_marks g.N.Number.number c.args.marks.now c.is_empty.result c.is_empty.ensures c.if-is_empty.true)

pub returns-then-last_of-modulus : goal.returns-then-last_of-modulus
returns-then-last_of-modulus g c = c.class-then-last_of-modulus.ensures ∙ round c.args.modulus c.last_of.result c.args.run.now c.args.held.now
    (map g.N.Number.number c.args.marks.now) c.last_of.ensures c.if-last_of-modulus.true

pub overflow_sub-last : goal.overflow_sub-last
overflow_sub-last g c =
    let fit = widened_fits c.args.modulus c.last_of.result c.in-Some.first c.in-Some-last_widened.last c.args.run.now c.args.held.now (map g.N.Number.number c.args.marks.now)
    (AllBelow_from g.N.Number.number c.args.modulus c.args.marks.now c.requires.marks_below) c.last_of.ensures c.if-last_of-modulus.false c.in-Some.ensures c.in-Some-last_widened.ensures in
    omega (arith, fit.0, fit.1, c.last_of.ensures)

pub steps_to-requires : goal.steps_to-requires
steps_to-requires g c =
    let fit = widened_fits c.args.modulus c.last_of.result c.in-Some.first c.in-Some-last_widened.last c.args.run.now c.args.held.now (map g.N.Number.number c.args.marks.now)
    (AllBelow_from g.N.Number.number c.args.modulus c.args.marks.now c.requires.marks_below) c.last_of.ensures c.if-last_of-modulus.false c.in-Some.ensures c.in-Some-last_widened.ensures in
    omega (arith, fit.2, c.requires.small)

pub make-requires-clause-base_small : goal.make-requires-clause-base_small
make-requires-clause-base_small g c =
    let fit = widened_fits c.args.modulus c.last_of.result c.in-Some.first c.in-Some-last_widened.last c.args.run.now c.args.held.now (map g.N.Number.number c.args.marks.now)
    (AllBelow_from g.N.Number.number c.args.modulus c.args.marks.now c.requires.marks_below) c.last_of.ensures c.if-last_of-modulus.false c.in-Some.ensures c.in-Some-last_widened.ensures in
    omega (arith, fit.0, c.requires.run_span.below, c.requires.small)

pub make-requires-clause-fits : goal.make-requires-clause-fits
make-requires-clause-fits g c =
    let fit = widened_fits c.args.modulus c.last_of.result c.in-Some.first c.in-Some-last_widened.last c.args.run.now c.args.held.now (map g.N.Number.number c.args.marks.now)
    (AllBelow_from g.N.Number.number c.args.modulus c.args.marks.now c.requires.marks_below) c.last_of.ensures c.if-last_of-modulus.false c.in-Some.ensures c.in-Some-last_widened.ensures in
    rw c.steps_to.ensures fit.3

pub returns-in-Some-last_widened : goal.returns-in-Some-last_widened
returns-in-Some-last_widened g c = c.make.ensures.value ∙ ap (λ (n : ℕ). make c.args.modulus c.in-Some.first c.args.run.now.stride n) c.steps_to.ensures
    ∙ between c.args.modulus c.last_of.result c.args.run.now c.args.held.now (map g.N.Number.number c.args.marks.now) (Some c.in-Some.first) (Some c.in-Some-last_widened.last)
    (some_marks g.N.Number.number c.args.marks.now c.is_empty.result c.is_empty.ensures c.if-is_empty.false) c.last_of.ensures c.if-last_of-modulus.false
    c.in-Some.ensures c.in-Some-last_widened.ensures

pub returns-in-None-last_widened : goal.returns-in-None-last_widened
returns-in-None-last_widened g c = c.class-in-None-last_widened.ensures
    ∙ between c.args.modulus c.last_of.result c.args.run.now c.args.held.now (map g.N.Number.number c.args.marks.now) (Some c.in-Some.first) None
    (some_marks g.N.Number.number c.args.marks.now c.is_empty.result c.is_empty.ensures c.if-is_empty.false) c.last_of.ensures c.if-last_of-modulus.false
    c.in-Some.ensures c.in-None-last_widened.ensures

pub returns-in-None : goal.returns-in-None
returns-in-None g c = c.class-in-None.ensures
    ∙ first_missed c.args.modulus c.last_of.result c.args.run.now c.args.held.now (map g.N.Number.number c.args.marks.now)
    (some_marks g.N.Number.number c.args.marks.now c.is_empty.result c.is_empty.ensures c.if-is_empty.false) c.last_of.ensures c.if-last_of-modulus.false c.in-None.ensures
