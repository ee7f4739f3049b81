-- The states of a program as texts.
use Rattle.state_text.specs.Texts.{StateTexts}
use Rattle.msp430_chip.specs.declared.device.Device.{Device}
use Rattle.msp430_state.specs.Known.{Known}
use Rattle.msp430_fields.specs.Outside.{outside_of}
use Rattle.msp430_fields.specs.States.{known_text, state_in}

-- a stack pointer has four digits, and cells lie in the device's RAM
abbrev pub msp430_texts : Device → StateTexts Known
msp430_texts device = record { digits = 4; text_of = known_text; state_of = state_in device.ram.lo device.ram.hi; outside = outside_of }
