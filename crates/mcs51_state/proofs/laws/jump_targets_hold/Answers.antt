use Rattle.mcs51_state.proofs.JumpTargets.{jump_has, jump_normal}
use Rattle.mcs51_state.proofs.laws.jump_targets_hold.Goals as goal

pub returns : goal.returns
returns c =
    let laws = c.known_laws.ensures in
    record { has = jump_has laws; normal = jump_normal laws }
