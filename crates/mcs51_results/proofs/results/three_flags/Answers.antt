use Rattle.std.proofs.Common.{◌∙◌}
use Rattle.value_bits.specs.Sets.{chosen}
use Rattle.mcs51_results.proofs.StatusLemmas.{told}
use Rattle.mcs51_results.proofs.results.three_flags.Goals as goal

pub returns : goal.returns
returns c =
    c.flagged.ensures
    ∙ told c.args.rules c.args.a.now c.args.b.now (chosen c.args.carry) c.args.psw.now c.all_agreed-known.result c.all_agreed-known.ensures.value
