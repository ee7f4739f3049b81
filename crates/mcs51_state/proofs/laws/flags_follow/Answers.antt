use Rattle.mcs51_state.proofs.WrittenParts.{carry_follows, flags_follow, status_follows}
use Rattle.mcs51_state.proofs.laws.flags_follow.Goals as goal

pub returns : goal.returns
returns c = record {
  status = status_follows;
  carry = carry_follows;
  flags = flags_follow;
}
