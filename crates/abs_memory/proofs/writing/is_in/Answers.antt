use Rattle.value_set.specs.Form.{members}
use Rattle.plain_lemmas.specs.AnyOf.{any_is}
use Rattle.abs_memory.proofs.writing.is_in.Goals as goal

pub returns : goal.returns
returns c = any_is (members 65536 c.args.at.now) c.args.address c.has.result c.has.ensures
