-- What a step makes of registers keeps their form.
use Rattle.std.proofs.Common.{◌≡◌, ℕ, ◌%◌, ◌<◌, ◌==◌, Bool, true, false, cond, List, slice_index, slice_set, arith}
use Rattle.msp430_decode.specs.declared.instr.Register.{Register}
use Rattle.msp430_decode.specs.declared.instr.Width.{Width}
use Rattle.msp430_decode.specs.declared.instr.Source.{Source}
use Rattle.msp430_decode.specs.declared.instr.Source.TheVariants as source
use Rattle.msp430_decode.specs.Codes.{number}
use Rattle.msp430_chip.specs.Kinds.{Kind}
use Rattle.msp430_chip.specs.Kinds.Kind.{Counter, Stack, Status, Empty, General}
use Rattle.msp430_chip.specs.Registers.{AreRegisters, set_pc, set_sp, set_status, set_other}
use Rattle.msp430_chip.specs.State.{even}
use Rattle.msp430_chip.specs.Operands.{with_register, grown}
use Rattle.msp430_chip.specs.Step.{lowered, with_lowered}
use Rattle.msp430_chip.proofs.KindsOfRegisters.{kind_of}

pub even_below : (value : ℕ) → value < 65536 → even value < 65536
even_below value h = omega arith

pub even_is : (value : ℕ) → even value % 2 ≡ 0
even_is value = omega arith

with_register_by : (registers : List ℕ) (register : Register) (value : ℕ) → Kind register → AreRegisters registers → value < 65536
    → AreRegisters (with_register registers register value)
with_register_by registers register value (Counter is) are below = rw is (set_pc registers (even value) are (even_below value below) (even_is value))
with_register_by registers register value (Stack is) are below = rw is (set_sp registers (even value) are (even_below value below) (even_is value))
with_register_by registers register value (Status is) are below = rw is (set_status registers (value % 512) are (omega arith))
with_register_by registers register value (Empty is) are below = rw is are
with_register_by registers register value (General is) are below = rw (is.set registers value) (set_other registers (number register) value are (omega (arith, is.above)) below)

pub with_register_keeps : (registers : List ℕ) (register : Register) (value : ℕ) → AreRegisters registers
    → value < 65536 → AreRegisters (with_register registers register value)
with_register_keeps registers register value = with_register_by registers register value (kind_of register)

pub grown_keeps : (registers : List ℕ) (width : Width) (operand : Source) → AreRegisters registers
    → AreRegisters (grown registers width operand)
grown_keeps registers width (source.IndirectIncrement register) are = with_register_keeps registers register _ are (omega arith)
grown_keeps registers width other are = are

lowered_is : (sp : ℕ) → sp % 2 ≡ 0 → lowered sp % 2 ≡ 0
lowered_is sp h = omega arith

pub set_lowered : (registers : List ℕ) → AreRegisters registers → AreRegisters (slice_set registers 1 (lowered (slice_index registers 1)))
set_lowered registers are = set_sp registers (lowered (slice_index registers 1)) are (omega arith) (lowered_is (slice_index registers 1) are.even_sp)

chosen_keeps : (b : Bool) (registers other : List ℕ) → AreRegisters registers → AreRegisters other → AreRegisters (cond b registers other)
chosen_keeps true registers other are be = are
chosen_keeps false registers other are be = be

pub with_lowered_keeps : (option : ℕ) (registers : List ℕ) → AreRegisters registers → AreRegisters (with_lowered option registers)
with_lowered_keeps option registers are =
    chosen_keeps (option == 1) (slice_set registers 1 (lowered (slice_index registers 1))) registers (set_lowered registers are) are
