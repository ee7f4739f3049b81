-- The laws that a proof of what an instruction makes of a state takes.
use Rattle.irq_frames.specs.KnownLaws.{KnownLaws}
use Rattle.msp430_chip.specs.Laws.{PlaceLaws}
use Rattle.msp430_results.specs.Laws.{OperationLaws}

pub record InstructionLaws : Type 0 where
  pub known : KnownLaws
  pub places : PlaceLaws
  pub results : OperationLaws
