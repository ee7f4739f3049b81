use Rattle.value_set.specs.Form.{members}
use Rattle.mcs51_state.proofs.ram.is_in.Goals as goal

pub returns : goal.returns
returns c = c.set_laws.ensures.asked (members 256 c.args.at.now) c.args.address c.has.result c.has.ensures
