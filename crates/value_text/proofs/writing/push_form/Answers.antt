use Rattle.std.proofs.Common.{◌≡◌, ◌^◌, ◌++◌, OnOk, sym, ap, ◌∙◌, subst}
use Rattle.std.proofs.lemmas.Bool.{ne_eqb}
use Rattle.item_lines.specs.Line.{form_text}
use Rattle.value_text.specs.Sets.{other_run_text}
use Rattle.value_text.proofs.writing.push_form.Goals as goal

pub returns-else-run-modulus : goal.returns-else-run-modulus
returns-else-run-modulus c =
    let digits = c.args.digits in
    let other = ne_eqb c.in-Run.run'.count (16 ^ digits) (λ e. c.if-run-modulus.false (e ∙ sym c.modulus.ensures)) in
    subst (λ text. OnOk c.push_run.result (c.push_run.new.out.items ≡ c.args.out.now.items ++ text))
    (sym (other_run_text digits c.in-Run.run' other) ∙ ap (form_text digits (16 ^ digits)) (sym c.in-Run.is)) c.push_run.ensures
