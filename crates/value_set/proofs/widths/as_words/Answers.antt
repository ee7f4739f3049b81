use Rattle.std.proofs.Common.{◌∙◌, sym, subst}
use Rattle.value_set.specs.declared.form.Form.{Form}
use Rattle.value_set.specs.Form.{Has, IsNormal}
use Rattle.value_set.proofs.BytesAsWords.{words_listed, words_normal, words_hold, list_wider, run_long}
use Rattle.value_set.proofs.widths.as_words.Goals as goal

pub returns-in-Values-clause-value : goal.returns-in-Values-clause-value
returns-in-Values-clause-value c = sym c.in-Values.is ∙ words_listed c.args.bytes.now c.in-Values.few c.in-Values.is c.requires

pub returns-in-Values-clause-normal : goal.returns-in-Values-clause-normal
returns-in-Values-clause-normal c = list_wider c.in-Values.few (subst (λ (s : Form). IsNormal 256 s) c.in-Values.is c.requires)

pub returns-in-Run-clause-normal : goal.returns-in-Run-clause-normal
returns-in-Run-clause-normal c = subst (λ (s : Form). IsNormal 65536 s) (sym c.run_as_words.ensures) (words_normal c.args.bytes.now c.requires)

pub returns-in-Run-clause-holds : goal.returns-in-Run-clause-holds
returns-in-Run-clause-holds c = λ v there. subst (λ (s : Form). Has 65536 s v) (sym c.run_as_words.ensures) (words_hold c.args.bytes.now v c.requires there)

pub returns-in-Run-clause-listed : goal.returns-in-Run-clause-listed
returns-in-Run-clause-listed c = λ few. run_long c.args.bytes.now c.in-Run.field-0 c.in-Run.is c.requires few
