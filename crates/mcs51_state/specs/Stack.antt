-- The stack in what is known of a state: it lies in RAM, and SP stands at its top byte (Intel, MCS-51 Programmer's Guide and
-- Instruction Set, "Stack Pointer", and PUSH and POP of "Instruction Definitions").
use Rattle.std.specs.Prelude.{ℕ, ◌/◌, ◌%◌, Bool}
use Rattle.entry_value.specs.declared.byte.Byte.{Byte}
use Rattle.value_set.specs.declared.form.Form.{Form}
use Rattle.value_set.specs.Summing.{add, single, sub}
use Rattle.mcs51_state.specs.declared.addresses.Addresses.{Addresses}
use Rattle.mcs51_state.specs.declared.addresses.Addresses.TheVariants.{InRam}
use Rattle.mcs51_state.specs.Known.{Known, byte_of}
use Rattle.mcs51_state.specs.Writing.{ram_written}

abbrev pub raised : Form → Form
raised sp = add 256 sp (single 1)

abbrev pub lowered : Form → Form
lowered sp = sub 256 sp (single 1)

-- where the top byte stands
abbrev pub stack_top : Known → Addresses
stack_top known = InRam known.sp

-- SP grows, and the byte is written where it then stands
unfoldable pub byte_pushed : (framed : Bool) → Byte → Known → Known
byte_pushed framed byte known = ram_written framed (raised known.sp) byte (record known { sp = raised known.sp })

-- the low byte of an address goes first
abbrev pub pair_pushed : (framed : Bool) → (low high : Byte) → Known → Known
pair_pushed framed low high known = byte_pushed framed high (byte_pushed framed low known)

abbrev pub address_pushed : (framed : Bool) → ℕ → Known → Known
address_pushed framed address known = pair_pushed framed (byte_of (single (address % 256))) (byte_of (single (address / 256))) known

abbrev pub byte_popped : Known → Known
byte_popped known = record known { sp = lowered known.sp }
