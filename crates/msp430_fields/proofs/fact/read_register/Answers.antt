use Rattle.std.proofs.Common.{◌∙◌, arith, ap, map, sym}
use Rattle.text_fields.specs.Fields.{number_in}
use Rattle.msp430_fields.specs.Places.{register_is_exact}
use Rattle.msp430_fields.proofs.fact.read_register.Goals as goal

pub overflow_cast-result : goal.overflow_cast-result
overflow_cast-result c =
    let is = register_is_exact.only c.args.text.now c.in_ok-register.register
    (sym (c.in_ok-register.ensures ∙ ap (λ rows. number_in (map (λ row. (row.0, row.1.now)) rows) c.args.text.now) c.as_slice.ensures)) in
    omega (arith, is.0.1)
