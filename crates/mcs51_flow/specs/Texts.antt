-- The states of a program as texts.
use Rattle.state_text.specs.Texts.{StateTexts}
use Rattle.mcs51_state.specs.Known.{Known}
use Rattle.mcs51_fields.specs.Outside.{outside_of}
use Rattle.mcs51_fields.specs.States.{known_text, state_in}

-- a stack pointer has two digits
abbrev pub mcs51_texts : StateTexts Known
mcs51_texts = record { digits = 2; text_of = known_text; state_of = state_in; outside = outside_of }
