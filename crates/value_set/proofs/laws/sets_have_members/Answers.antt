use Rattle.value_set.proofs.Sums.{some_members}
use Rattle.value_set.proofs.laws.sets_have_members.Goals as goal

pub returns : goal.returns
returns c = some_members
