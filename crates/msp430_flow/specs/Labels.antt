-- What instructions do to the call string.
use Rattle.chip_flow.specs.declared.calls.CallEffect.{CallEffect}
use Rattle.chip_flow.specs.declared.calls.CallEffect.TheVariants.{Pushes, Pops, Keeps}
use Rattle.msp430_decode.specs.declared.instr.Destination.{Destination}
use Rattle.msp430_decode.specs.declared.instr.Destination.TheVariants as destination
use Rattle.msp430_decode.specs.declared.instr.Instr.{Instr}
use Rattle.msp430_decode.specs.declared.instr.Instr.TheVariants.{Double, Jump, Single as OneOperand, ReturnFromInterrupt}
use Rattle.msp430_decode.specs.declared.instr.Operation.{Operation}
use Rattle.msp430_decode.specs.declared.instr.Operation.TheVariants.{Mov}
use Rattle.msp430_decode.specs.declared.instr.Register.TheVariants.{Pc, Sp}
use Rattle.msp430_decode.specs.declared.instr.SingleOperation.TheVariants.{Call}
use Rattle.msp430_decode.specs.declared.instr.Source.{Source}
use Rattle.msp430_decode.specs.declared.instr.Source.TheVariants as source
use Rattle.msp430_decode.specs.declared.instr.Width.{Width}
use Rattle.msp430_decode.specs.declared.instr.Width.TheVariants.{Word}

-- RET is MOV @SP+,PC
abbrev pub double_effect : Operation → Width → Source → Destination → CallEffect
double_effect Mov Word (source.IndirectIncrement Sp) (destination.Register Pc) = Pops
double_effect operation width origin target = Keeps

abbrev pub effect_of : Instr → CallEffect
effect_of (Double operation width origin target) = double_effect operation width origin target
effect_of (OneOperand Call width operand) = Pushes
effect_of (OneOperand operation width operand) = Keeps
effect_of (Jump condition offset) = Keeps
effect_of ReturnFromInterrupt = Keeps
