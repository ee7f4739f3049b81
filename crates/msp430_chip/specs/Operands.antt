-- The operands of an instruction (SLAU049, chapter 3, "Addressing Modes"). Addresses wrap at 16 bits.
use Rattle.std.specs.Prelude.{ℕ, ◌+◌, ◌-◌, ◌*◌, ◌%◌, if◌then◌else◌, Bool, true, false, List, [], ◌∷◌, slice_index, slice_set}
use Rattle.chip_numbers.specs.declared.space.Space.TheVariants.{Mem}
use Rattle.chip_numbers.specs.Single.{Single}
use Rattle.chip_numbers.specs.Single.Single.{Access}
use Rattle.msp430_decode.specs.declared.instr.Register.{Register}
use Rattle.msp430_decode.specs.declared.instr.Register.TheVariants.{Pc, Sp, Sr, R3}
use Rattle.msp430_decode.specs.declared.instr.Width.{Width}
use Rattle.msp430_decode.specs.declared.instr.Width.TheVariants.{Word, Byte}
use Rattle.msp430_decode.specs.declared.instr.Source.{Source}
use Rattle.msp430_decode.specs.declared.instr.Source.TheVariants as source
use Rattle.msp430_decode.specs.declared.instr.Destination.{Destination}
use Rattle.msp430_decode.specs.declared.instr.Destination.TheVariants as destination
use Rattle.msp430_decode.specs.Codes.{number}
use Rattle.msp430_decode.specs.Operands.{constant_value}
use Rattle.msp430_chip.specs.declared.device.Device.{Device}
use Rattle.msp430_chip.specs.declared.place.Place.{Place}
use Rattle.msp430_chip.specs.declared.place.Place.TheVariants.{InRegister, InMemory, Fixed}
use Rattle.msp430_chip.specs.Arithmetic.{modulus}
use Rattle.choosing.specs.Asking.{Asking, answer}
use Rattle.msp430_chip.specs.Memory.{read, aligned, size_of}
use Rattle.msp430_chip.specs.State.{even}

-- REGISTERS

abbrev pub value_in : List ℕ → Register → ℕ
value_in registers register = slice_index registers (number register)

-- PC and SP lose bit 0, SR holds its bits 8 to 0, and R3 nothing
abbrev pub with_register : List ℕ → Register → ℕ → List ℕ
with_register registers Pc value = slice_set registers 0 (even value)
with_register registers Sp value = slice_set registers 1 (even value)
with_register registers Sr value = slice_set registers 2 (value % 512)
with_register registers R3 value = registers
with_register registers other value = slice_set registers (number other) value

-- SP grows by 2 for bytes as well
abbrev pub growth : Width → Register → ℕ
growth Word register = 2
growth Byte Sp = 2
growth Byte other = 1

-- the registers behind the operand: @Rn+ has grown Rn
abbrev pub grown : List ℕ → Width → Source → List ℕ
grown registers width (source.IndirectIncrement register) =
    with_register registers register ((value_in registers register + growth width register) % 65536)
grown registers width other = registers

-- PLACES

-- a source; a symbolic one counts from its own extension word
abbrev pub source_place : ℕ → List ℕ → Source → Place
source_place pc registers (source.Register register) = InRegister register
source_place pc registers (source.Indexed register offset) = InMemory ((value_in registers register + offset) % 65536)
source_place pc registers (source.Indirect register) = InMemory (value_in registers register)
source_place pc registers (source.IndirectIncrement register) = InMemory (value_in registers register)
source_place pc registers (source.Immediate value) = Fixed value
source_place pc registers (source.Symbolic offset) = InMemory ((pc + 2 + offset) % 65536)
source_place pc registers (source.Absolute address) = InMemory address
source_place pc registers (source.Constant constant) = Fixed (constant_value constant)

-- a destination, whose extension word is the last of the instruction's so many bytes
abbrev pub destination_place : ℕ → ℕ → List ℕ → Destination → Place
destination_place pc len registers (destination.Register register) = InRegister register
destination_place pc len registers (destination.Indexed register offset) = InMemory ((value_in registers register + offset) % 65536)
destination_place pc len registers (destination.Symbolic offset) = InMemory ((pc + len - 2 + offset) % 65536)
destination_place pc len registers (destination.Absolute address) = InMemory address

-- VALUES

-- what stands at a place, but for the bits of SR that nothing holds; a byte of a register is its low one
abbrev pub value_at : Device → List ℕ → List ℕ → Width → Place → Asking ℕ
value_at device ram registers width (InRegister register) = answer (value_in registers register % modulus width)
value_at device ram registers width (InMemory address) = read device ram width address
value_at device ram registers width (Fixed value) = answer (value % modulus width)

abbrev pub is_status : Place → Bool
is_status (InRegister Sr) = true
is_status other = false

-- the bits 9 to 15 of SR read as any: they are asked once, where a word operand is SR
abbrev pub has_free_bits : Width → Place → Bool
has_free_bits Word place = is_status place
has_free_bits Byte place = false

abbrev pub with_free_bits : Width → Place → ℕ → ℕ → ℕ
with_free_bits width place bits value = if has_free_bits width place then value + 512 * bits else value

-- the access of an operand in memory
abbrev pub access_to : Device → ℕ → Bool → Width → Place → List Single
access_to device pc write width (InMemory address) = Access pc Mem write (size_of width) (aligned device width address) ∷ []
access_to device pc write width other = []
