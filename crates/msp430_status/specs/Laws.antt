-- What holds of what instructions make of SR. Proofs above take these laws from records.
use Rattle.msp430_alu.specs.Doing.{ComesTo, Here, IsWellMade, StandsHere, counter_of}
use Rattle.msp430_alu.specs.Memory.{IsDevice}
use Rattle.msp430_chip.specs.Leading.{MayDouble, MaySingle}
use Rattle.msp430_chip.specs.Outcome.{Outcome}
use Rattle.msp430_chip.specs.declared.device.Device.{Device}
use Rattle.msp430_chip.specs.declared.state.ChipState.{ChipState}
use Rattle.msp430_decode.specs.Operands.{IsSource}
use Rattle.msp430_decode.specs.declared.instr.Destination.TheVariants as destination
use Rattle.msp430_decode.specs.declared.instr.Instr.TheVariants.{Double, Single as OneOperand}
use Rattle.msp430_decode.specs.declared.instr.Operation.{Operation}
use Rattle.msp430_decode.specs.declared.instr.Register.TheVariants.{Sr}
use Rattle.msp430_decode.specs.declared.instr.SingleOperation.{SingleOperation}
use Rattle.msp430_decode.specs.declared.instr.Source.{Source}
use Rattle.msp430_decode.specs.declared.instr.Source.TheVariants as source
use Rattle.msp430_decode.specs.declared.instr.Width.{Width}
use Rattle.msp430_results.specs.Results.{HasWidth}
use Rattle.msp430_state.specs.Forms.{IsKnown}
use Rattle.msp430_state.specs.Known.{Known}
use Rattle.msp430_status.specs.Status.{single_status_worked, status_worked}
use Rattle.std.specs.Prelude.{Bool, ℕ, ◌%◌, ◌+◌}

-- Of instructions with two operands that write SR: what they come to, by `status_worked`, which is well made. No store of theirs
-- hits the program.
pub record StatusesHold : Type 0 where
  pub comes : (here : Here) (len : ℕ) (done : Operation) (width : Width) (origin : Source) (outcome : Outcome ChipState)
      → StandsHere here → IsSource origin
      → (may : MayDouble here.device here.state len done width origin (destination.Register Sr) outcome)
      → let made = status_worked here.device here.framed here.known (counter_of here) len done width origin in
      ComesTo here made (Double done width origin (destination.Register Sr)) width may.left outcome
  pub made : (device : Device) (framed : Bool) (a : Known) (pc len : ℕ) (done : Operation) (width : Width)
      (origin : Source)
      → IsDevice device → IsKnown device.ram.lo device.ram.hi framed a → IsSource origin
      → let made = status_worked device framed a pc len done width origin in
      IsWellMade device framed ((pc + len) % 65536) made

-- The same of instructions with the one operand SR.
pub record SingleStatusesHold : Type 0 where
  pub comes : (here : Here) (len : ℕ) (done : SingleOperation) (width : Width) (outcome : Outcome ChipState)
      → StandsHere here → HasWidth done width
      → (may : MaySingle here.device here.state len done width (source.Register Sr) outcome)
      → let made = single_status_worked here.device here.framed here.known (counter_of here) len done width in
      ComesTo here made (OneOperand done width (source.Register Sr)) width may.left outcome
  pub made : (device : Device) (framed : Bool) (a : Known) (pc len : ℕ) (done : SingleOperation) (width : Width)
      → IsKnown device.ram.lo device.ram.hi framed a
      → let made = single_status_worked device framed a pc len done width in
      IsWellMade device framed ((pc + len) % 65536) made
