use Rattle.std.proofs.Common.{◌∙◌}
use Rattle.value_set.specs.Form.{members}
use Rattle.assert_check.proofs.Windows.{cut_tells}
use Rattle.assert_check.proofs.reaching.meets_words.Goals as goal

pub returns-clause-value : goal.returns-clause-value
returns-clause-value c =
    c.is_some.ensures ∙ cut_tells 65536 c.args.from c.args.len (members 65536 c.args.words.now) c.cut.result c.cut.ensures.none

pub returns-clause-below : goal.returns-clause-below
returns-clause-below c = λ v h. c.members_are_below.ensures 65536 v c.args.words.now c.form-form.ensures.normal h
