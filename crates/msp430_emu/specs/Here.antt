-- An instruction, and where it stands.
use Rattle.std.specs.Prelude.{◌≡◌, ◌≤◌, ◌%◌, length}
use Rattle.msp430_chip.specs.Registers.{AreRegisters}
use Rattle.msp430_chip.specs.State.{ram_size}
use Rattle.msp430_emu.specs.declared.here.Here.{Here}

-- a state of the machine, and the length of an instruction
pub record Stands (here : Here) : Type 0 where
  pub size : length here.s.now.ram ≡ ram_size here.layout.now
  pub registers : AreRegisters here.s.now.registers
  pub least : 2 ≤ here.len
  pub even : here.len % 2 ≡ 0
