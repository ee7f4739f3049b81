-- The laws that those of the chip rest on: records of the crates below, and no clause of theirs again.
use Rattle.irq_frames.specs.KnownLaws.{KnownLaws}
use Rattle.unit_ways.specs.Laws.{WayLaws}
use Rattle.mcs51_decode.specs.Laws.{DecodingLaws}
use Rattle.mcs51_chip.specs.Laws.{StepLaws}
use Rattle.mcs51_state.specs.Known.{Known}
use Rattle.mcs51_state.specs.Laws.{StateLaws}
use Rattle.mcs51_entry.specs.Laws.{InterruptLaws}
use Rattle.mcs51_control.specs.Laws.{ReturnLaws}
use Rattle.mcs51_resume.specs.Laws.{ResumptionLaws}
use Rattle.mcs51_kept.specs.Laws.{FrontLaws}
use Rattle.mcs51_flow.specs.Laws.{RunLaws}

pub record Laws : Type 0 where
  pub known : KnownLaws
  pub ways : WayLaws Known
  pub decoding : DecodingLaws
  pub steps : StepLaws
  pub states : StateLaws
  pub entries : InterruptLaws
  pub returns : ReturnLaws
  pub resumptions : ResumptionLaws
  pub fronts : FrontLaws
  pub instructions : RunLaws
