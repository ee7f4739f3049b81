use Rattle.value_set.proofs.Answering.{member_below}
use Rattle.value_set.proofs.laws.members_are_below.Goals as goal

pub returns : goal.returns
returns c = λ m v set n h. member_below m v set n h
