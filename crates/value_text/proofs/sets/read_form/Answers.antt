use Rattle.std.proofs.Common.{sym, ◌∙◌, ap}
use Rattle.std.specs.Str.{bytes_eq}
use Rattle.value_text.proofs.ReadLemmas.{part_normal}
use Rattle.value_text.proofs.sets.read_form.Goals as goal

pub returns-clause-normal : goal.returns-clause-normal
returns-clause-normal c = part_normal c.args.digits c.args.text.now c.read_part.result c.requires
    (ap (bytes_eq c.args.text.now) (sym c.as_slice.ensures) ∙ sym c.eq.ensures ∙ c.if-eq.false) c.read_part.ensures
