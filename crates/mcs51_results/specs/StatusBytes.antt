-- PSW as a byte, bit by bit: of its bits 7 to 2 as much is known as was known of them, and its bits 1 and 0 are read as any: bit 1
-- isn't held, and P isn't taken from what is known of the accumulator (Intel, MCS-51 Programmer's Guide and Instruction Set,
-- "Program Status Word"). And bits of bytes.
use Rattle.std.specs.Prelude.{ℕ, ◌+◌, ◌-◌, ◌%◌, ◌^◌, Option, None, List, [], ◌∷◌, slice_index_or, slice_set}
use Rattle.std.specs.Int.{bit_at}
use Rattle.std.specs.Option.{option_map}
use Rattle.entry_value.specs.declared.byte.Byte.{Byte}
use Rattle.entry_value.specs.declared.word.Entry.{Entry}
use Rattle.entry_value.specs.Words.{entry_and, entry_or}
use Rattle.value_set.specs.declared.form.Form.{Form}
use Rattle.value_set.specs.Summing.{single}
use Rattle.value_bits.specs.declared.tri.Tri.{Tri}
use Rattle.value_bits.specs.declared.tri.Tri.TheVariants.{Zero, One, Either}
use Rattle.value_bits.specs.Bits.{from_bits, known_bits, tri_and, tri_logic, tri_not, tri_or}
use Rattle.value_bits.specs.Sets.{chosen, combine_or}
use Rattle.mcs51_decode.specs.declared.instr.Logic.{Logic}
use Rattle.mcs51_decode.specs.declared.instr.BitOperation.{BitOperation}
use Rattle.mcs51_decode.specs.declared.instr.BitOperation.TheVariants as bit
use Rattle.mcs51_decode.specs.declared.instr.CarryByBit.{CarryByBit}
use Rattle.mcs51_decode.specs.declared.instr.CarryByBit.TheVariants as by_bit
use Rattle.mcs51_decode.specs.declared.instr.CarryOperation.{CarryOperation}
use Rattle.mcs51_decode.specs.declared.instr.CarryOperation.TheVariants as carry
use Rattle.mcs51_state.specs.declared.status.Status.{Status}
use Rattle.mcs51_state.specs.Places.{psw_place}
use Rattle.mcs51_state.specs.Writing.{own_entry}
use Rattle.mcs51_chip.specs.Arithmetic.{bit_after}
use Rattle.mcs51_chip.specs.Registers.{with_bit}
use Rattle.mcs51_results.specs.declared.made.Operand.{Operand}
use Rattle.mcs51_results.specs.Results.{bit_in, bitwise, carried, carry_in, masked_entry, set_of}

-- PSW AS A BYTE

abbrev pub six : (ℕ → Tri) → List Tri
six at = at 0 ∷ at 1 ∷ at 2 ∷ at 3 ∷ at 4 ∷ at 5 ∷ []

abbrev pub all_bits : Status → List Tri
all_bits psw = Either ∷ Either ∷ six (bit_in psw)

-- of a byte that is written to PSW a relation to PSW alone is kept
abbrev pub written_entry : Option Entry → Option Entry
written_entry entry = own_entry psw_place 3 entry

-- the bits 7 to 2 of a byte
abbrev pub upper : List Tri → List Tri
upper bits = six (λ place. slice_index_or bits (2 + place) Either)

abbrev pub bit_of_set : Form → (place : ℕ) → Tri
bit_of_set set place = slice_index_or (known_bits 8 set) place Either

-- ORL, ANL and XRL of PSW
abbrev pub masked_status : Logic → Status → Operand → Status
masked_status operation psw operand = record {
  bits = six (λ place. tri_logic (bitwise operation) (bit_in psw place) (bit_of_set (set_of operand) (2 + place)));
  entry = written_entry (masked_entry operation operand psw.entry);
}

-- CY

abbrev pub carry_changed : CarryOperation → Tri → Tri
carry_changed carry.Cpl c = tri_not c
carry_changed carry.Clr c = Zero
carry_changed carry.Setb c = One

abbrev pub carry_joined : CarryByBit → (c b : Tri) → Tri
carry_joined by_bit.Orl c b = tri_or c b
carry_joined by_bit.Anl c b = tri_and c b
carry_joined by_bit.OrlComplement c b = tri_or c (tri_not b)
carry_joined by_bit.AnlComplement c b = tri_and c (tri_not b)
carry_joined by_bit.Mov c b = b

abbrev pub carry_made : CarryOperation → Status → Status
carry_made operation psw = carried (carry_changed operation (carry_in psw)) psw

abbrev pub carry_bit_made : CarryByBit → (b : Tri) → Status → Status
carry_bit_made operation b psw = carried (carry_joined operation (carry_in psw) b) psw

-- BITS, by their addresses, of which the low three bits are the place in the byte

abbrev pub bit_made : BitOperation → (c b : Tri) → Tri
bit_made bit.MovCarry c b = c
bit_made bit.Cpl c b = tri_not b
bit_made bit.Clr c b = Zero
bit_made bit.Setb c b = One

-- CLR is an AND and SETB an OR with a constant; MOV and CPL drop a relation
abbrev pub bit_entry : BitOperation → (place : ℕ) → Option Entry → Option Entry
bit_entry bit.MovCarry place entry = None
bit_entry bit.Cpl place entry = None
bit_entry bit.Clr place entry = option_map (entry_and (255 - 2 ^ place)) entry
bit_entry bit.Setb place entry = option_map (entry_or (2 ^ place)) entry

abbrev pub bit_answer : BitOperation → (at : ℕ) → ℕ → ℕ → ℕ → ℕ
bit_answer operation at x y z = with_bit x (at % 8) (bit_after operation (z % 2) (bit_at x (at % 8)))

abbrev pub bit_carries : BitOperation → Tri → Form
bit_carries bit.MovCarry c = chosen c
bit_carries bit.Cpl c = single 0
bit_carries bit.Clr c = single 0
bit_carries bit.Setb c = single 0

abbrev pub bits_made : BitOperation → (place : ℕ) → Tri → Form → List Tri
bits_made operation place c set = slice_set (known_bits 8 set) place (bit_made operation c (bit_of_set set place))

abbrev pub byte_with_bit : BitOperation → (at : ℕ) → Tri → Byte → Byte
byte_with_bit operation at c byte = record {
  set = combine_or 256 (bit_answer operation at) byte.set (single 0) (bit_carries operation c) (from_bits 8 (bits_made operation (at % 8) c byte.set));
  entry = bit_entry operation (at % 8) byte.entry;
}

-- of PSW
abbrev pub bit_of_status : Status → (place : ℕ) → Tri
bit_of_status psw place = slice_index_or (all_bits psw) place Either

abbrev pub status_with_bit : BitOperation → (at : ℕ) → Status → Status
status_with_bit operation at psw = record {
  bits = upper (slice_set (all_bits psw) (at % 8) (bit_made operation (carry_in psw) (bit_of_status psw (at % 8))));
  entry = written_entry (bit_entry operation (at % 8) psw.entry);
}
