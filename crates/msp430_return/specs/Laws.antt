-- What holds of RETI. Proofs above take these laws from one record.
use Rattle.call_context.specs.Nodes.{HasEntry}
use Rattle.call_context.specs.declared.node.Frame.{Frame}
use Rattle.msp430_alu.specs.Doing.{ComesTo, Here, IsWellMade, StandsHere, counter_of}
use Rattle.msp430_alu.specs.Memory.{IsDevice}
use Rattle.msp430_chip.specs.Leading.{MayReturn}
use Rattle.msp430_chip.specs.Outcome.{Outcome}
use Rattle.msp430_chip.specs.declared.device.Device.{Device}
use Rattle.msp430_chip.specs.declared.state.ChipState.{ChipState}
use Rattle.msp430_decode.specs.declared.instr.Instr.TheVariants.{ReturnFromInterrupt}
use Rattle.msp430_decode.specs.declared.instr.Width.TheVariants.{Word as Words}
use Rattle.msp430_return.specs.Return.{goes_back, left_of_return, return_worked}
use Rattle.msp430_state.specs.Forms.{IsKnown}
use Rattle.msp430_state.specs.Holding.{GoesOn, StandsIn}
use Rattle.msp430_state.specs.Known.{Known, is_interrupt}
use Rattle.std.specs.Prelude.{Bool, true, ℕ, ◌≡◌}

-- What RETI comes to, by `return_worked`, which is well made: its next addresses are even. Where it goes back, it is in the frame
-- of an interrupt that came at a known stack pointer, and goes on where that came.
pub record ReturnLaws : Type 0 where
  pub comes : (here : Here) (outcome : Outcome ChipState)
      → StandsHere here → (may : MayReturn here.device here.state outcome)
      → ComesTo here (return_worked here.device here.known (counter_of here)) ReturnFromInterrupt Words
      (left_of_return here.state may.status may.target) outcome
  pub made : (device : Device) (framed : Bool) (a : Known) (pc behind : ℕ) → IsDevice device
      → IsKnown device.ram.lo device.ram.hi framed a → IsWellMade device framed behind (return_worked device a pc)
  pub back : (here : Here) (t : ChipState) (frame : Frame) (outcome : Outcome ChipState)
      → StandsHere here → StandsIn frame here.first → goes_back here.device frame here.known ≡ true
      → (may : MayReturn here.device here.state outcome)
      → t.registers ≡ (left_of_return here.state may.status may.target).registers → GoesOn frame t here.first
  pub base : (device : Device) (frame : Frame) (a : Known) → goes_back device frame a ≡ true
      → (is_interrupt frame ≡ true) × HasEntry frame
