use Rattle.std.proofs.Common.{ap₂, ◌∙◌}
use Rattle.value_set.specs.declared.form.Form.{Form}
use Rattle.value_bits.specs.declared.tri.Tri.TheVariants.{Zero}
use Rattle.msp430_decode.specs.declared.instr.Width.TheVariants.{Word}
use Rattle.msp430_results.specs.declared.flags.FlagRule.TheVariants.{Extended}
use Rattle.msp430_results.specs.Results.{logic_made}
use Rattle.msp430_results.specs.Rules.{flags_by}
use Rattle.msp430_results.proofs.results.extended.Goals as goal

pub returns : goal.returns
returns c =
    c.logic_flags.ensures
    ∙ ap₂ (λ (result none : Form). logic_made Word result (flags_by Extended Word) c.args.set.now none Zero) c.sign_extend-result.ensures.value c.one-none.ensures.value
