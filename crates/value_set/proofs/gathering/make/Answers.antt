use Rattle.std.proofs.Common.{ap, ◌∙◌, sym, subst}
use Rattle.value_set.specs.declared.form.Form.{Form}
use Rattle.value_set.specs.Form.{IsNormal}
use Rattle.value_set.specs.declared.form.Form.TheVariants.{Values}
use Rattle.value_set.proofs.Making.{make-few, make_normal}
use Rattle.value_set.proofs.Gathers.{made_whole, made_open}
use Rattle.value_set.proofs.gathering.make.Goals as goal
use Rattle.value_set.proofs.gathering.make.Goals.{then-count-stride, else-count-stride}

pub returns-then-count-clause-value : goal.returns-then-count-clause-value
returns-then-count-clause-value c = ap Values c.few_steps.ensures ∙ sym (make-few c.args.modulus c.args.base c.args.stride c.args.count c.if-count.true)

pub returns-clause-value : goal.returns-clause-value
returns-clause-value c = elim c.if-count-stride.branch [
  | then-count-stride w ↦ made_whole c.args.modulus c.args.base c.args.stride c.args.count c.if-count-stride.base c.if-count.false w.if-count-stride.true w.base-is
  | else-count-stride w ↦ made_open c.args.modulus c.args.base c.args.stride c.args.count c.if-count-stride.base c.if-count.false w.if-count-stride.false w.base-is
]

pub returns-then-count-clause-form : goal.returns-then-count-clause-form
returns-then-count-clause-form c = subst (λ (set : Form). IsNormal c.args.modulus set)
    (sym (ap Values c.few_steps.ensures ∙ sym (make-few c.args.modulus c.args.base c.args.stride c.args.count c.if-count.true)))
    (make_normal c.args.modulus c.args.base c.args.stride c.args.count c.requires.fits)

pub returns-clause-form : goal.returns-clause-form
returns-clause-form c = subst (λ (set : Form). IsNormal c.args.modulus set) (sym (elim c.if-count-stride.branch [
  | then-count-stride w ↦ made_whole c.args.modulus c.args.base c.args.stride c.args.count c.if-count-stride.base c.if-count.false w.if-count-stride.true w.base-is
  | else-count-stride w ↦ made_open c.args.modulus c.args.base c.args.stride c.args.count c.if-count-stride.base c.if-count.false w.if-count-stride.false w.base-is
]))
    (make_normal c.args.modulus c.args.base c.args.stride c.args.count c.requires.fits)
