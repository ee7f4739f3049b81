-- What instructions on CY and on bits make of what is known of a state (Intel, MCS-51 Programmer's Guide and Instruction Set:
-- CLR, SETB and CPL of C and of a bit, ANL and ORL of C with a bit or its complement, and MOV of C and a bit).
use Rattle.std.specs.Prelude.{ℕ, ◌*◌, ◌/◌, ◌%◌, ◌==◌, if◌then◌else◌, Bool}
use Rattle.entry_value.specs.declared.byte.Byte.{Byte}
use Rattle.value_bits.specs.declared.tri.Tri.{Tri}
use Rattle.mcs51_decode.specs.declared.instr.BitOperation.{BitOperation}
use Rattle.mcs51_decode.specs.declared.instr.CarryByBit.{CarryByBit}
use Rattle.mcs51_decode.specs.declared.instr.CarryOperation.{CarryOperation}
use Rattle.mcs51_state.specs.declared.status.Status.{Status}
use Rattle.mcs51_state.specs.Known.{Known}
use Rattle.mcs51_state.specs.Operands.{bit_addresses}
use Rattle.mcs51_state.specs.Reading.{carry, read_bit, read_byte}
use Rattle.mcs51_results.specs.StatusBytes.{byte_with_bit, carry_bit_made, carry_made, status_with_bit}
use Rattle.mcs51_state.specs.Writing.{byte_written, status_written}

-- CY alone
unfoldable pub carry_changed : CarryOperation → Known → Known
carry_changed operation a = status_written (carry_made operation a.psw) a

-- CY by a bit
abbrev pub bit_read : Known → (bit : ℕ) → Tri
bit_read a bit = read_bit a (bit_addresses bit) (bit % 8)

unfoldable pub carry_joined : CarryByBit → (bit : ℕ) → Known → Known
carry_joined operation bit a = status_written (carry_bit_made operation (bit_read a bit) a.psw) a

-- A BIT. That of PSW, whose bits have the addresses from D0h to D7h, is changed among PSW's known bits. Any other one is changed
-- in the byte that has it, and that is written.
abbrev pub is_of_status : (bit : ℕ) → Bool
is_of_status bit = bit / 8 * 8 == 0xD0

abbrev pub status_changed : BitOperation → (bit : ℕ) → Known → Status
status_changed operation bit a = status_with_bit operation bit a.psw

abbrev pub byte_changed : (framed : Bool) → BitOperation → (bit : ℕ) → Known → Byte
byte_changed framed operation bit a = byte_with_bit operation bit (carry a) (read_byte framed a (bit_addresses bit))

unfoldable pub bit_changed : (framed : Bool) → BitOperation → (bit : ℕ) → Known → Known
bit_changed framed operation bit a =
    if is_of_status bit then status_written (status_changed operation bit a) a
    else byte_written framed (bit_addresses bit) (byte_changed framed operation bit a) a
