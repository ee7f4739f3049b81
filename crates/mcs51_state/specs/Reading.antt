-- What may be read of RAM and of the registers, by what is known of a state (Intel, MCS-51 Programmer's Guide and
-- Instruction Set, "Memory Organization" and "Special Function Registers").
use Rattle.std.specs.Prelude.{ℕ, ◌&&◌, not, if◌then◌else◌, Bool, Option, None, Some, List, [], ◌∷◌, slice_index_or}
use Rattle.entry_value.specs.declared.byte.Byte.{Byte}
use Rattle.entry_value.specs.declared.word.Entry.{Entry}
use Rattle.entry_value.specs.Cells.{read}
use Rattle.irq_frames.specs.Ranges.{has_address}
use Rattle.value_bits.specs.declared.tri.Tri.{Tri}
use Rattle.value_bits.specs.declared.tri.Tri.TheVariants.{Either}
use Rattle.value_bits.specs.Bits.{known_bit, from_bits}
use Rattle.value_bits.specs.Sets.{low_set}
use Rattle.value_set.specs.declared.form.Form.{Form}
use Rattle.value_set.specs.Form.{members}
use Rattle.mcs51_chip.specs.declared.place.Sfr.{Sfr}
use Rattle.mcs51_chip.specs.declared.place.Sfr.TheVariants.{Sp, Dpl, Dph, Ie, Ip, Psw, Acc, B, Other}
use Rattle.mcs51_chip.specs.Registers.{sfr_at}
use Rattle.mcs51_state.specs.declared.addresses.Addresses.{Addresses}
use Rattle.mcs51_state.specs.declared.addresses.Addresses.TheVariants.{InRam, InSfr}
use Rattle.mcs51_state.specs.declared.status.Status.{Status}
use Rattle.mcs51_state.specs.Known.{Known, any_byte, byte_of}
use Rattle.mcs51_state.specs.Joined.{any_of}

-- RAM

-- the numbers of the byte at an address
abbrev pub ram_set : Known → ℕ → Form
ram_set known at = low_set (read known.cells.cells at 1).set

-- what a byte of RAM is, whose address is one of a set
unfoldable pub ram_values : Known → Form → Form
ram_values known set = any_of (ram_set known) (members 256 set)

-- the relation of a byte that is what the place held when the interrupt came
abbrev pub kept_from : ℕ → Entry
kept_from place = record { place = place; and = 255; or = 0 }

-- in an interrupt's frame a byte that isn't touched is what it was
abbrev pub kept_by : (framed : Bool) → (touched : List (ℕ × ℕ)) → ℕ → Option Entry
kept_by framed touched at = if framed && not (has_address touched at) then Some (kept_from at) else None

abbrev pub found_or : Option Entry → Option Entry → Option Entry
found_or None otherwise = otherwise
found_or (Some entry) otherwise = Some entry

-- the relation of the cell, or else that of a byte that isn't touched
abbrev pub ram_relation : (framed : Bool) → Known → ℕ → Option Entry
ram_relation framed known at = found_or (read known.cells.cells at 1).entry (kept_by framed known.touched at)

-- a relation is read from one address alone
abbrev pub list_relation : (framed : Bool) → Known → List ℕ → Option Entry
list_relation framed known [] = None
list_relation framed known (at ∷ []) = ram_relation framed known at
list_relation framed known (at ∷ next ∷ rest) = None

abbrev pub ram_byte : (framed : Bool) → Known → Form → Byte
ram_byte framed known set = record { set = ram_values known set; entry = list_relation framed known (members 256 set) }

-- REGISTERS

-- the bits of PSW, of which bit 1 isn't held, and bit 0 is the parity of A
abbrev pub status_bits : List Tri → List Tri
status_bits bits = Either ∷ Either ∷ bits

abbrev pub status_byte : Status → Byte
status_byte status = record { set = from_bits 8 (status_bits status.bits); entry = status.entry }

abbrev pub register_byte : Known → Sfr → Byte
register_byte known Sp = byte_of known.sp
register_byte known Dpl = known.dpl
register_byte known Dph = known.dph
register_byte known Ie = known.ie
register_byte known Ip = known.ip
register_byte known Psw = status_byte known.psw
register_byte known Acc = known.a
register_byte known B = known.b
register_byte known Other = byte_of any_byte

-- BYTES AND BITS

-- what a byte at one of some addresses may be read as
unfoldable pub read_byte : (framed : Bool) → Known → Addresses → Byte
read_byte framed known (InRam set) = ram_byte framed known set
read_byte framed known (InSfr register) = register_byte known (sfr_at register)

-- the bits of PSW are known one by one, and those of other registers by the register's numbers
abbrev pub status_bit : List Tri → (place : ℕ) → Tri
status_bit bits place = slice_index_or (status_bits bits) place Either

abbrev pub register_bit : Known → Sfr → (place : ℕ) → Tri
register_bit known Psw place = status_bit known.psw.bits place
register_bit known sfr place = known_bit 8 place (register_byte known sfr).set

-- the bit at a place of a byte at one of some addresses
unfoldable pub read_bit : Known → Addresses → (place : ℕ) → Tri
read_bit known (InRam set) place = known_bit 8 place (ram_values known set)
read_bit known (InSfr register) place = register_bit known (sfr_at register) place

-- CY
abbrev pub carry : Known → Tri
carry known = slice_index_or known.psw.bits 5 Either
