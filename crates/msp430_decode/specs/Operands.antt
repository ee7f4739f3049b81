-- The operands and their addressing modes (SLAU049, chapter 3, "Addressing Modes" and "Constant Generator Registers").
use Rattle.std.specs.Prelude.{ℕ, ◌<◌, List, [], ◌∷◌}
use Rattle.msp430_decode.specs.declared.instr.Register.{Register}
use Rattle.msp430_decode.specs.declared.instr.Register.TheVariants.{Pc, Sr, R3}
use Rattle.msp430_decode.specs.declared.instr.Constant.{Constant}
use Rattle.msp430_decode.specs.declared.instr.Constant.TheVariants.{Zero, One, Two, Four, Eight, MinusOne}
use Rattle.msp430_decode.specs.declared.instr.Source.{Source}
use Rattle.msp430_decode.specs.declared.instr.Source.TheVariants as source
use Rattle.msp430_decode.specs.declared.instr.Destination.{Destination}
use Rattle.msp430_decode.specs.declared.instr.Destination.TheVariants as destination

-- R3 generates a constant where it is a source in mode 0
abbrev pub IsSourceRegister : Register → Type 0
IsSourceRegister R3 = ⊥
IsSourceRegister register = Unit {0}

-- memory is reached through SP and R4 to R15; with PC, SR and R3 the modes 1 to 3 mean something else
abbrev pub IsPointer : Register → Type 0
IsPointer Pc = ⊥
IsPointer Sr = ⊥
IsPointer R3 = ⊥
IsPointer register = Unit {0}

-- the sources that there are
abbrev pub IsSource : Source → Type 0
IsSource (source.Register register) = IsSourceRegister register
IsSource (source.Indexed register offset) = IsPointer register × (offset < 65536)
IsSource (source.Indirect register) = IsPointer register
IsSource (source.IndirectIncrement register) = IsPointer register
IsSource (source.Immediate value) = value < 65536
IsSource (source.Symbolic offset) = offset < 65536
IsSource (source.Absolute address) = address < 65536
IsSource (source.Constant constant) = Unit {0}

-- the number that is generated
abbrev pub constant_value : Constant → ℕ
constant_value Zero = 0
constant_value One = 1
constant_value Two = 2
constant_value Four = 4
constant_value Eight = 8
constant_value MinusOne = 65535

-- the register of a generated constant
abbrev pub constant_register : Constant → Register
constant_register Zero = R3
constant_register One = R3
constant_register Two = R3
constant_register Four = Sr
constant_register Eight = Sr
constant_register MinusOne = R3

-- As of a generated constant
abbrev pub constant_mode : Constant → ℕ
constant_mode Zero = 0
constant_mode One = 1
constant_mode Two = 2
constant_mode Four = 2
constant_mode Eight = 3
constant_mode MinusOne = 3

-- the register field of a source
abbrev pub source_register : Source → Register
source_register (source.Register register) = register
source_register (source.Indexed register offset) = register
source_register (source.Indirect register) = register
source_register (source.IndirectIncrement register) = register
source_register (source.Immediate value) = Pc
source_register (source.Symbolic offset) = Pc
source_register (source.Absolute address) = Sr
source_register (source.Constant constant) = constant_register constant

-- the field As: register, indexed, indirect, and indirect with increment
abbrev pub source_mode : Source → ℕ
source_mode (source.Register register) = 0
source_mode (source.Indexed register offset) = 1
source_mode (source.Indirect register) = 2
source_mode (source.IndirectIncrement register) = 3
source_mode (source.Immediate value) = 3
source_mode (source.Symbolic offset) = 1
source_mode (source.Absolute address) = 1
source_mode (source.Constant constant) = constant_mode constant

-- the extension words of a source: one or none
abbrev pub source_words : Source → List ℕ
source_words (source.Indexed register offset) = offset ∷ []
source_words (source.Immediate value) = value ∷ []
source_words (source.Symbolic offset) = offset ∷ []
source_words (source.Absolute address) = address ∷ []
source_words other = []

-- the destinations that there are
abbrev pub IsDestination : Destination → Type 0
IsDestination (destination.Register register) = Unit {0}
IsDestination (destination.Indexed register offset) = IsPointer register × (offset < 65536)
IsDestination (destination.Symbolic offset) = offset < 65536
IsDestination (destination.Absolute address) = address < 65536

-- the register field of a destination
abbrev pub destination_register : Destination → Register
destination_register (destination.Register register) = register
destination_register (destination.Indexed register offset) = register
destination_register (destination.Symbolic offset) = Pc
destination_register (destination.Absolute address) = Sr

-- the field Ad: register, or indexed
abbrev pub destination_mode : Destination → ℕ
destination_mode (destination.Register register) = 0
destination_mode other = 1

-- the extension words of a destination: one or none
abbrev pub destination_words : Destination → List ℕ
destination_words (destination.Register register) = []
destination_words (destination.Indexed register offset) = offset ∷ []
destination_words (destination.Symbolic offset) = offset ∷ []
destination_words (destination.Absolute address) = address ∷ []
