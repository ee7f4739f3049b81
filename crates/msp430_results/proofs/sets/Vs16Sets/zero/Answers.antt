use Rattle.std.proofs.Common.{ap₂, ◌∙◌}
use Rattle.value_set.specs.Form.{members}
use Rattle.msp430_results.specs.FlagSets.{zero_by}
use Rattle.msp430_results.proofs.sets.Vs16Sets.zero.Goals as goal

pub returns : goal.returns
returns c =
    let set = c.args.self.now in
    let asked = c.set_laws.ensures.asked (members 65536 set) 0 c.has.result c.has.ensures in
    c.zero_by.ensures ∙ ap₂ zero_by asked c.count.ensures.value
