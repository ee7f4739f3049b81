-- The operands of an instruction over what is known of a state (SLAU049, chapter 3, "Addressing Modes").
use Rattle.std.specs.Prelude.{◌≡◌, ℕ, ◌+◌, ◌-◌, ◌%◌, ◌<◌, None}
use Rattle.entry_value.specs.declared.word.Word.{Word}
use Rattle.value_set.specs.declared.form.Form.{Form}
use Rattle.value_set.specs.Summing.{single, add}
use Rattle.msp430_decode.specs.declared.instr.Destination.{Destination}
use Rattle.msp430_decode.specs.declared.instr.Destination.TheVariants as destination
use Rattle.msp430_decode.specs.declared.instr.Register.{Register}
use Rattle.msp430_decode.specs.declared.instr.Source.{Source}
use Rattle.msp430_decode.specs.declared.instr.Source.TheVariants as source
use Rattle.msp430_decode.specs.declared.instr.Width.{Width}
use Rattle.msp430_chip.specs.declared.device.Device.{Device}
use Rattle.msp430_chip.specs.declared.place.Place.{Place}
use Rattle.msp430_chip.specs.declared.place.Place.TheVariants as place
use Rattle.msp430_chip.specs.Operands.{growth}
use Rattle.msp430_decode.specs.Operands.{constant_value}
use Rattle.msp430_state.specs.Known.{Known}
use Rattle.msp430_alu.specs.declared.reach.Reach.{Reach}
use Rattle.msp430_alu.specs.declared.reach.Reach.TheVariants.{InRegister, InMemory, Fixed}
use Rattle.msp430_results.specs.FlagSets.{IsResult}
use Rattle.msp430_alu.specs.Memory.{located, read_known}
use Rattle.msp430_alu.specs.Registers.{put_register, register_word}

-- WHERE THEY STAND

-- memory at a register plus a number
abbrev pub beside : Known → (counted : Form) → Register → ℕ → Form
beside a counted register offset = add 65536 (register_word a counted register).set (single offset)

abbrev pub source_reach : ℕ → Known → (counted : Form) → Source → Reach
source_reach pc a counted (source.Register register) = InRegister register
source_reach pc a counted (source.Indexed register offset) = InMemory (beside a counted register offset)
source_reach pc a counted (source.Indirect register) = InMemory (register_word a counted register).set
source_reach pc a counted (source.IndirectIncrement register) = InMemory (register_word a counted register).set
source_reach pc a counted (source.Immediate value) = Fixed value
source_reach pc a counted (source.Symbolic offset) = InMemory (single ((pc + 2 + offset) % 65536))
source_reach pc a counted (source.Absolute address) = InMemory (single address)
source_reach pc a counted (source.Constant constant) = Fixed (constant_value constant)

abbrev pub destination_reach : (pc len : ℕ) → Known → (counted : Form) → Destination → Reach
destination_reach pc len a counted (destination.Register register) = InRegister register
destination_reach pc len a counted (destination.Indexed register offset) = InMemory (beside a counted register offset)
destination_reach pc len a counted (destination.Symbolic offset) = InMemory (single ((pc + len - 2 + offset) % 65536))
destination_reach pc len a counted (destination.Absolute address) = InMemory (single address)

-- a place is one of those that are reached
abbrev pub IsReached : Reach → Place → Type 0
IsReached (InRegister register) (place.InRegister other) = register ≡ other
IsReached (InMemory set) (place.InMemory address) = IsResult 65536 set address
IsReached (Fixed value) (place.Fixed other) = (value ≡ other) × (value < 65536)
IsReached reach stands = ⊥

-- GROWTH

-- behind @Rn+ the register has grown, and its relation goes
abbrev pub grown_known : Known → (counted : Form) → Width → Source → Known
grown_known a counted width (source.IndirectIncrement register) =
    put_register a register (record { set = add 65536 (register_word a counted register).set (single (growth width register)); entry = None })
grown_known a counted width other = a

-- WHAT THEY MAY HOLD

-- as a word, with the bits 9 to 15 of SR any
abbrev pub operand_word : Device → Known → (counted : Form) → Width → Reach → Word
operand_word device a counted width (InRegister register) = register_word a counted register
operand_word device a counted width (InMemory set) = read_known device a width (located device width set)
operand_word device a counted width (Fixed value) = record { set = single value; entry = None }
