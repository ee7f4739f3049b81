-- What is known of the bits 7 to 2 of PSW (Intel, MCS-51 Microcontroller Family User's Manual, "Program Status
-- Word"). Bit 1 isn't held, and bit 0 is the parity of the accumulator.
use Rattle.std.specs.Prelude.{Bool, ◌&&◌, None, replicate}
use Rattle.entry_value.specs.Words.{common_entry, is_entry_within}
use Rattle.known_parts.specs.Bits.{common_bit, is_bit_within}
use Rattle.value_bits.specs.declared.tri.Tri.{Tri}
use Rattle.value_bits.specs.Pointwise.{each_with, each_passes}
use Rattle.mcs51_state.specs.declared.status.Status.{Status}

abbrev pub status_joined : Status → Status → Status
status_joined held new = record {
  bits = each_with common_bit held.bits new.bits;
  entry = common_entry held.entry new.entry;
}

abbrev pub status_within : Status → Status → Bool
status_within new held = each_passes is_bit_within new.bits held.bits && is_entry_within new.entry held.entry

-- all bits are one value of Tri
abbrev pub status_of : Tri → Status
status_of bit = record { bits = replicate 6 bit; entry = None }
