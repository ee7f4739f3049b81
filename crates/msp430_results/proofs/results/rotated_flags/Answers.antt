use Rattle.std.proofs.Common.{Some, ap, ap₂, ◌∙◌}
use Rattle.value_set.specs.declared.form.Form.{Form}
use Rattle.value_bits.specs.Sets.{chosen}
use Rattle.msp430_chip.specs.Arithmetic.{modulus}
use Rattle.msp430_results.specs.declared.flag_bits.FlagBits.{FlagBits}
use Rattle.msp430_results.specs.FlagSets.{flags_or, free_overflow}
use Rattle.msp430_results.specs.Results as results
use Rattle.msp430_results.proofs.results.rotated_flags.Goals as goal

pub returns : goal.returns
returns g c =
    let width = g.S.Sets.width in
    ap Some (c.free_overflow.ensures ∙ ap free_overflow (c.flags_or.ensures
    ∙ ap₂ (λ (none : Form) (shown : FlagBits). flags_or (modulus width) (results.rotated_flags width) (g.S.Sets.form c.args.set.now) none (chosen c.args.carry) shown)
    c.chosen-none.ensures c.shown_flags-shown.ensures))
