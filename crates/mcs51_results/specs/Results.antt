-- What the instructions make of sets of values and of the known bits of PSW (value sets after G. Balakrishnan and T. Reps,
-- "WYSINWYX: What You See Is Not What You eXecute", 2010; the operations of Intel, MCS-51 Programmer's Guide and Instruction
-- Set, "Instruction Definitions"). Of at most 256 combinations of members all results are gathered, with an unknown carry
-- counted as two, and a flag is known where all of them agree.
use Rattle.std.specs.Prelude.{ℕ, if◌then◌else◌, Option, None, [], ◌∷◌, slice_index_or}
use Rattle.std.specs.Option.{option_map}
use Rattle.entry_value.specs.declared.byte.Byte.{Byte}
use Rattle.entry_value.specs.declared.word.Entry.{Entry}
use Rattle.entry_value.specs.Words.{entry_and, entry_or}
use Rattle.value_set.specs.declared.form.Form.{Form}
use Rattle.value_set.specs.declared.form.Form.TheVariants.{Values, Run}
use Rattle.value_set.specs.Joining.{is_within}
use Rattle.value_set.specs.Summing.{single, add, sub, twice}
use Rattle.value_bits.specs.declared.tri.Logic.{Logic as Bitwise}
use Rattle.value_bits.specs.declared.tri.Logic.TheVariants.{And, Or, Xor}
use Rattle.value_bits.specs.declared.tri.Lowest.TheVariants.{High, Given}
use Rattle.value_bits.specs.declared.tri.Top.TheVariants.{Low, Put}
use Rattle.value_bits.specs.declared.tri.Tri.{Tri}
use Rattle.value_bits.specs.declared.tri.Tri.TheVariants.{Zero, Either}
use Rattle.value_bits.specs.Flags.{agreed}
use Rattle.value_bits.specs.Lefts.{left_set}
use Rattle.value_bits.specs.Sets.{chosen, combine_or, logic_set, shift_set, exchange_set, low_set, high_set, pair_set, decimal_adjust_set}
use Rattle.mcs51_decode.specs.declared.instr.Operation.{Operation}
use Rattle.mcs51_decode.specs.declared.instr.Operation.TheVariants.{Add, Addc, Orl, Anl, Xrl, Subb}
use Rattle.mcs51_decode.specs.declared.instr.Logic.{Logic}
use Rattle.mcs51_decode.specs.declared.instr.Logic.TheVariants as logic
use Rattle.mcs51_decode.specs.declared.instr.AccumulatorOperation.{AccumulatorOperation}
use Rattle.mcs51_decode.specs.declared.instr.AccumulatorOperation.TheVariants.{Rr, Rrc, Rl, Rlc, Swap, Da, Clr, Cpl}
use Rattle.mcs51_state.specs.declared.status.Status.{Status}
use Rattle.mcs51_state.specs.Known.{any_byte, byte_of}
use Rattle.mcs51_results.specs.declared.combining.NumberRule.TheVariants.{CarrySum, CarryDifference, ProductLow, ProductHigh, Quotient, Remainder}
use Rattle.mcs51_results.specs.declared.flags.FlagRule.{FlagRule}
use Rattle.mcs51_results.specs.declared.flags.FlagRule.TheVariants as flag
use Rattle.mcs51_results.specs.declared.flags.ThreeFlags.{ThreeFlags}
use Rattle.mcs51_results.specs.declared.made.Made.{Made}
use Rattle.mcs51_results.specs.declared.made.MadePair.{MadePair}
use Rattle.mcs51_results.specs.declared.made.Operand.{Operand}
use Rattle.mcs51_results.specs.declared.made.Operand.TheVariants.{Constant, Among}
use Rattle.mcs51_results.specs.Rules.{answer_by, flag_by}

-- PSW

-- the bits of PSW have the places 2 to 7 there, the lowest one first: OV, RS0, RS1, F0, AC and CY
abbrev pub bit_in : Status → (place : ℕ) → Tri
bit_in psw place = slice_index_or psw.bits place Either

abbrev pub carry_in : Status → Tri
carry_in psw = bit_in psw 5

abbrev pub half_carry_in : Status → Tri
half_carry_in psw = bit_in psw 4

-- CY, AC and OV are set, and nothing is left of what the suspended state said
abbrev pub flagged : (carry half overflow : Tri) → Status → Status
flagged carry half overflow psw = record {
  bits = overflow ∷ bit_in psw 1 ∷ bit_in psw 2 ∷ bit_in psw 3 ∷ half ∷ carry ∷ [];
  entry = None;
}

-- CY is set, likewise
abbrev pub carried : (carry : Tri) → Status → Status
carried carry psw = record {
  bits = bit_in psw 0 ∷ bit_in psw 1 ∷ bit_in psw 2 ∷ bit_in psw 3 ∷ bit_in psw 4 ∷ carry ∷ [];
  entry = None;
}

abbrev pub known_flag : FlagRule → (a b c : Form) → Tri
known_flag rule a b c = agreed 256 (flag_by rule) a b c

-- OPERANDS

abbrev pub set_of : Operand → Form
set_of (Constant m) = single m
set_of (Among set) = set

-- SUMS AND DIFFERENCES

-- above 256 combinations the values of the carry are added to sums and taken from differences without it
abbrev pub add_carry : (a b : Form) → Tri → Form
add_carry a b carry = combine_or 256 (answer_by CarrySum) a b (chosen carry) (add 256 (add 256 a b) (chosen carry))

abbrev pub sub_carry : (a b : Form) → Tri → Form
sub_carry a b carry = combine_or 256 (answer_by CarryDifference) a b (chosen carry) (sub 256 (sub 256 a b) (chosen carry))

-- CY, AC and OV by three rules
abbrev pub three_flags : ThreeFlags → (a b c : Form) → Status → Status
three_flags rules a b c psw = flagged (known_flag rules.carry a b c) (known_flag rules.half a b c) (known_flag rules.overflow a b c) psw

abbrev pub sum_rules : ThreeFlags
sum_rules = record { carry = flag.Carry; half = flag.HalfCarry; overflow = flag.SumOverflow }

abbrev pub sum_flags : (a b c : Form) → Status → Status
sum_flags a b c psw = three_flags sum_rules a b c psw

abbrev pub difference_rules : ThreeFlags
difference_rules = record { carry = flag.Borrow; half = flag.HalfBorrow; overflow = flag.DifferenceOverflow }

abbrev pub difference_flags : (a b c : Form) → Status → Status
difference_flags a b c psw = three_flags difference_rules a b c psw

-- ADD of the accumulator to itself, of which nothing is known in flags where it is a run
abbrev pub twice_rules : ThreeFlags
twice_rules = record { carry = flag.TwiceCarry; half = flag.TwiceHalfCarry; overflow = flag.TwiceOverflow }

abbrev pub twice_flags : Form → Status → Status
twice_flags (Values xs) psw = three_flags twice_rules (Values xs) (single 0) (single 0) psw
twice_flags (Run p) psw = flagged Either Either Either psw

abbrev pub twice_made : Byte → Status → Made
twice_made a psw = record { a = byte_of (twice 256 a.set); psw = twice_flags a.set psw }

-- INC and DEC
abbrev pub increased : Byte → Byte
increased byte = byte_of (add 256 byte.set (single 1))

abbrev pub decreased : Byte → Byte
decreased byte = byte_of (sub 256 byte.set (single 1))

-- INC DPTR: the low and the high byte
abbrev pub next_pointers : (dpl dph : Byte) → Form
next_pointers dpl dph = add 65536 (pair_set dpl.set dph.set) (single 1)

abbrev pub pointer_increased : (dpl dph : Byte) → Byte × Byte
pointer_increased dpl dph = (byte_of (low_set (next_pointers dpl dph)), byte_of (high_set (next_pointers dpl dph)))

-- LOGIC

abbrev pub bitwise : Logic → Bitwise
bitwise logic.Orl = Or
bitwise logic.Anl = And
bitwise logic.Xrl = Xor

-- AND and OR with a constant mask a relation to the suspended state, and all else drops it
abbrev pub masked_entry : Logic → Operand → Option Entry → Option Entry
masked_entry logic.Orl (Constant m) entry = option_map (entry_or m) entry
masked_entry logic.Anl (Constant m) entry = option_map (entry_and m) entry
masked_entry logic.Xrl (Constant m) entry = None
masked_entry operation (Among set) entry = None

abbrev pub masked_made : Logic → Byte → Operand → Byte
masked_made operation byte operand = record {
  set = logic_set 8 (bitwise operation) byte.set (set_of operand);
  entry = masked_entry operation operand byte.entry;
}

-- THE ACCUMULATOR AND A BYTE

abbrev pub accumulated_made : Operation → Byte → Operand → Status → Made
accumulated_made Add a operand psw = record {
  a = byte_of (add 256 a.set (set_of operand));
  psw = sum_flags a.set (set_of operand) (single 0) psw;
}
accumulated_made Addc a operand psw = record {
  a = byte_of (add_carry a.set (set_of operand) (carry_in psw));
  psw = sum_flags a.set (set_of operand) (chosen (carry_in psw)) psw;
}
accumulated_made Subb a operand psw = record {
  a = byte_of (sub_carry a.set (set_of operand) (carry_in psw));
  psw = difference_flags a.set (set_of operand) (chosen (carry_in psw)) psw;
}
accumulated_made Orl a operand psw = record { a = masked_made logic.Orl a operand; psw = psw }
accumulated_made Anl a operand psw = record { a = masked_made logic.Anl a operand; psw = psw }
accumulated_made Xrl a operand psw = record { a = masked_made logic.Xrl a operand; psw = psw }

-- THE ACCUMULATOR ALONE

abbrev pub changed_set : AccumulatorOperation → (a : Form) → (carry half : Tri) → Form
changed_set Rr a carry half = shift_set 7 a Low
changed_set Rrc a carry half = shift_set 7 a (Put carry)
changed_set Rl a carry half = left_set 7 a High
changed_set Rlc a carry half = left_set 7 a (Given carry)
changed_set Swap a carry half = exchange_set 4 a
changed_set Da a carry half = decimal_adjust_set a carry half
changed_set Clr a carry half = single 0
changed_set Cpl a carry half = sub 256 (single 255) a

abbrev pub changed_flags : AccumulatorOperation → (a : Form) → Status → Status
changed_flags Rrc a psw = carried (known_flag flag.LowestBit a (single 0) (single 0)) psw
changed_flags Rlc a psw = carried (known_flag flag.HighestBit a (single 0) (single 0)) psw
changed_flags Da a psw = carried (known_flag flag.Adjusted a (chosen (carry_in psw)) (chosen (half_carry_in psw))) psw
changed_flags operation a psw = psw

abbrev pub changed_made : AccumulatorOperation → Byte → Status → Made
changed_made operation a psw = record {
  a = byte_of (changed_set operation a.set (carry_in psw) (half_carry_in psw));
  psw = changed_flags operation a.set psw;
}

-- MUL AND DIV

abbrev pub multiplied_made : (a b : Byte) → Status → MadePair
multiplied_made a b psw = record {
  a = byte_of (combine_or 256 (answer_by ProductLow) a.set b.set (single 0) any_byte);
  b = byte_of (combine_or 256 (answer_by ProductHigh) a.set b.set (single 0) any_byte);
  psw = flagged Zero (half_carry_in psw) (known_flag flag.Exceeding a.set b.set (single 0)) psw;
}

-- where B may be 0 the results are any bytes
abbrev pub divided_set : (quotients : Form) → (b : Form) → Form
divided_set quotients b = if is_within 256 (single 0) b then any_byte else quotients

abbrev pub divided_made : (a b : Byte) → Status → MadePair
divided_made a b psw = record {
  a = byte_of (divided_set (combine_or 256 (answer_by Quotient) a.set b.set (single 0) any_byte) b.set);
  b = byte_of (divided_set (combine_or 256 (answer_by Remainder) a.set b.set (single 0) any_byte) b.set);
  psw = flagged Zero (half_carry_in psw) (known_flag flag.ByZero a.set b.set (single 0)) psw;
}
