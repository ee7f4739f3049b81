use Rattle.mcs51_state.proofs.WrittenParts.{accumulator_follows, byte_follows, counter_follows, pointer_follows}
use Rattle.mcs51_state.proofs.laws.writes_follow.Goals as goal

pub returns : goal.returns
returns c =
    let laws = c.known_laws.ensures in
    assumption (byte_follows laws, accumulator_follows laws, pointer_follows laws, counter_follows)
