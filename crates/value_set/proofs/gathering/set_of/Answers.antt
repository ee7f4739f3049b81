use Rattle.std.proofs.Common.{ap, ◌∙◌, sym}
use Rattle.value_set.specs.declared.form.Progression.{Progression}
use Rattle.value_set.specs.declared.form.Form.TheVariants.{Values}
use Rattle.value_set.specs.Form.{make}
use Rattle.value_set.proofs.Spans.{set_of-few, set_of-many, span_fits}
use Rattle.value_set.proofs.gathering.set_of.Goals as goal

pub returns-then-values-le-LONGEST : goal.returns-then-values-le-LONGEST
returns-then-values-le-LONGEST c = ap Values c.from_slice.ensures ∙ sym (set_of-few c.args.modulus c.args.values.now c.if-values-le-LONGEST.true)

pub make-requires-clause-fits : goal.make-requires-clause-fits
make-requires-clause-fits c = span_fits c.args.modulus _ _ _ c.hull-run.ensures.form

pub returns : goal.returns
returns c = c.make.ensures.value ∙ ap (λ (p : Progression). make c.args.modulus p.base p.stride p.count) c.hull-run.ensures.value
    ∙ sym (set_of-many c.args.modulus c.args.values.now c.if-values-le-LONGEST.false)
