-- What is known of bits, and of the bits 8 to 0 of SR (SLAU049, chapter 3, "Status Register").
use Rattle.std.specs.Prelude.{Bool, ◌&&◌, None, replicate}
use Rattle.entry_value.specs.Words.{common_entry, is_entry_within}
use Rattle.value_bits.specs.declared.tri.Tri.{Tri}
use Rattle.value_bits.specs.Pointwise.{each_with, each_passes}
pub use Rattle.known_parts.specs.Bits.{common_bit, is_bit_within}
use Rattle.msp430_state.specs.declared.status.Status.{Status}

abbrev pub status_joined : Status → Status → Status
status_joined held new = record {
  bits = each_with common_bit held.bits new.bits;
  entry = common_entry held.entry new.entry;
}

abbrev pub status_within : Status → Status → Bool
status_within new held = each_passes is_bit_within new.bits held.bits && is_entry_within new.entry held.entry

-- all bits are one value of Tri
abbrev pub status_of : Tri → Status
status_of bit = record { bits = replicate 9 bit; entry = None }
