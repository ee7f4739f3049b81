use Rattle.std.proofs.Common.{◌∙◌, sym}
use Rattle.value_set.specs.Form.{members}
use Rattle.plain_lemmas.specs.AnyOf.{any_alike}
use Rattle.assert_check.proofs.Windows.{cut_tells}
use Rattle.assert_check.proofs.reaching.meets_bytes.Goals as goal

pub returns-clause-value : goal.returns-clause-value
returns-clause-value c =
    let bytes = c.args.bytes.now in
    let window = c.byte_window-low.result in
    c.is_some.ensures ∙ cut_tells 256 window.0 window.1 (members 256 bytes) c.cut.result c.cut.ensures.none
    ∙ any_alike _ _ (members 256 bytes) (λ v h. sym (c.byte_window-low.ensures v (c.members_are_below.ensures 256 v bytes c.form-form.ensures.normal h)))

pub returns-clause-below : goal.returns-clause-below
returns-clause-below c = λ v h. c.members_are_below.ensures 256 v c.args.bytes.now c.form-form.ensures.normal h
