use Rattle.std.proofs.Common.{◌≡◌, ◌∙◌, true, None, ap, sym, subst}
use Rattle.value_set.specs.declared.form.Form.{Form}
use Rattle.value_set.specs.Form.{Has}
use Rattle.entry_value.specs.Cells.{any_of, is_nothing, unknown}
use Rattle.entry_value.proofs.parts.unknown.Goals as goal

pub returns-clause-nothing : goal.returns-clause-nothing
returns-clause-nothing c =
    let size = c.args.size in
    subst (λ (set : Form). is_nothing size (record { set = set; entry = None }) ≡ true) (sym c.any_of.ensures) (c.value_laws.ensures.words.itself (unknown size))

pub returns-clause-byte : goal.returns-clause-byte
returns-clause-byte c one v has =
    c.bytes_stay_bytes.ensures.whole v (subst (λ (set : Form). Has 65536 set v) (c.any_of.ensures ∙ ap any_of one) has)
