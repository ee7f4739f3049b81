-- The laws that those of the chip rest on: records of the crates below, and no clause of theirs again.
use Rattle.unit_ways.specs.Laws.{WayLaws}
use Rattle.irq_frames.specs.KnownLaws.{KnownLaws}
use Rattle.msp430_decode.specs.Laws.{DecodingLaws}
use Rattle.msp430_chip.specs.Laws.{StepLaws}
use Rattle.msp430_state.specs.Known.{Known}
use Rattle.msp430_state.specs.Laws.{StateLaws}
use Rattle.msp430_alu.specs.Laws.{DoublesHold, PushesHold, SinglesHold}
use Rattle.msp430_status.specs.Laws.{SingleStatusesHold, StatusesHold}
use Rattle.msp430_entry.specs.Laws.{InterruptLaws}
use Rattle.msp430_return.specs.Laws.{ReturnLaws}
use Rattle.msp430_resume.specs.Laws.{ResumptionLaws}
use Rattle.msp430_branch.specs.Laws.{CutsHold, FactsHold}
use Rattle.msp430_kept.specs.Laws.{FrontLaws}

pub record Laws : Type 0 where
  pub known : KnownLaws
  pub ways : WayLaws Known
  pub doubles : DoublesHold
  pub singles : SinglesHold
  pub pushes : PushesHold
  pub statuses : StatusesHold
  pub single_statuses : SingleStatusesHold
  pub entries : InterruptLaws
  pub returns : ReturnLaws
  pub resumptions : ResumptionLaws
  pub cuts : CutsHold
  pub facts : FactsHold
  pub fronts : FrontLaws
  pub steps : StepLaws
  pub decoding : DecodingLaws
  pub states : StateLaws
