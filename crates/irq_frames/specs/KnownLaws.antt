-- The laws that a proof over what is known of a state takes, for both chips.
use Rattle.value_set.specs.Laws.{SetLaws}
use Rattle.value_bits.specs.Laws.{BitLaws}
use Rattle.entry_value.specs.Laws.{CellLaws, ValueLaws}
use Rattle.irq_frames.specs.Laws.{FrameLaws, RangeLaws}

pub record KnownLaws : Type 0 where
  pub sets : SetLaws
  pub bits : BitLaws
  pub values : ValueLaws
  pub cells : CellLaws
  pub ranges : RangeLaws
  pub frames : FrameLaws
