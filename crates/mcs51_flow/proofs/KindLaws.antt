-- What holds of each kind of instructions, and of the states and sets that they come to.
use Rattle.irq_frames.specs.KnownLaws.{KnownLaws}
use Rattle.mcs51_state.specs.OperandLaws.{OperandLaws}
use Rattle.mcs51_state.specs.StoreLaws.{StoreLaws}
use Rattle.mcs51_alu.specs.Laws.{AccumulatorsDo, AccumulatorsHold}
use Rattle.mcs51_control.specs.Laws.{ReturnLaws, TransfersDo}
use Rattle.mcs51_moves.specs.Laws.{MovesDo, MovesKeepForm}
use Rattle.mcs51_memories.specs.Laws.{MemoriesDo, MemoriesKeepForm}
use Rattle.mcs51_jumps.specs.BitLaws.{BitsDo, BitsKeepForm}
use Rattle.mcs51_jumps.specs.JumpLaws.{JumpsDo, JumpsKeepForm}

pub record KindLaws : Type 0 where
  pub known : KnownLaws
  pub operands : OperandLaws
  pub stores : StoreLaws
  pub accumulators : AccumulatorsDo
  pub accumulator_forms : AccumulatorsHold
  pub transfers : TransfersDo
  pub returns : ReturnLaws
  pub moves : MovesDo
  pub move_forms : MovesKeepForm
  pub memories : MemoriesDo
  pub memory_forms : MemoriesKeepForm
  pub bits : BitsDo
  pub bit_forms : BitsKeepForm
  pub jumps : JumpsDo
  pub jump_forms : JumpsKeepForm
