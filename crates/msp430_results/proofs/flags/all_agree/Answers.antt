use Rattle.std.proofs.Common.{ap, ◌∙◌}
use Rattle.value_bits.specs.Sets.{chosen}
use Rattle.msp430_decode.specs.declared.instr.Width.{Width}
use Rattle.msp430_chip.specs.Arithmetic.{modulus}
use Rattle.msp430_results.specs.declared.flag_bits.FlagBits.{FlagBits}
use Rattle.msp430_results.specs.FlagSets.{all_agree}
use Rattle.msp430_results.specs.Rules.{flags_by}
use Rattle.msp430_results.proofs.FlagLemmas.{told}
use Rattle.msp430_results.proofs.flags.all_agree.Goals as goal

pub returns : goal.returns
returns g c =
    let m = modulus g.S.Sets.width in
    let first = g.S.Sets.form c.args.first.now in
    let second = g.S.Sets.form c.args.second.now in
    let own : Width → FlagBits = λ width. all_agree m (flags_by c.args.rule width) first second (chosen c.args.carry) in
    let rule = flags_by c.args.rule c.own_width-width.result in
    told m rule first second (chosen c.args.carry) c.all_agreed-known.result c.all_agreed-known.ensures
    ∙ ap own c.own_width-width.ensures
