-- The laws that a proof of what an instruction makes of a state takes.
use Rattle.irq_frames.specs.KnownLaws.{KnownLaws}
use Rattle.mcs51_chip.specs.Laws.{FormatsLead}
use Rattle.mcs51_state.specs.OperandLaws.{OperandLaws}
use Rattle.mcs51_results.specs.Laws.{ResultLaws}
use Rattle.mcs51_state.specs.StoreLaws.{StoreLaws}

pub record InstructionLaws : Type 0 where
  pub known : KnownLaws
  pub chip : FormatsLead
  pub operands : OperandLaws
  pub stores : StoreLaws
  pub results : ResultLaws
