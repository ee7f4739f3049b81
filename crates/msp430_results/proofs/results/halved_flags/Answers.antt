use Rattle.std.proofs.Common.{Some, ap, ap₂, ◌∙◌}
use Rattle.value_set.specs.declared.form.Form.{Form}
use Rattle.value_set.specs.Summing.{single}
use Rattle.msp430_chip.specs.Arithmetic.{modulus}
use Rattle.msp430_results.specs.declared.flag_bits.FlagBits.{FlagBits}
use Rattle.msp430_results.specs.FlagSets.{flags_or}
use Rattle.msp430_results.specs.Results as results
use Rattle.msp430_results.proofs.results.halved_flags.Goals as goal

pub returns : goal.returns
returns g c =
    let width = g.S.Sets.width in
    ap Some (c.flags_or.ensures ∙ ap₂ (λ (none : Form) (shown : FlagBits). flags_or (modulus width) (results.halved_flags width) (g.S.Sets.form c.args.set.now) none (single 0) shown)
    c.chosen-none.ensures c.shown_flags-shown.ensures)
