-- What is known on both ways of a conditional jump of the MCS-51, and the accesses that it shows (Intel, MCS-51 Programmer's Guide
-- and Instruction Set: JC, JNC, JZ, JNZ, SJMP, JB, JNB, JBC, CJNE and DJNZ).
use Rattle.std.specs.Prelude.{◌≡◌, ℕ, ◌%◌, not, Bool, true, false, Option, None, Some, option_map, List, [], ◌∷◌}
use Rattle.call_context.specs.declared.shown.Item.{Item}
use Rattle.value_set.specs.declared.form.Form.{Form}
use Rattle.value_set.specs.Form.{members}
use Rattle.mcs51_decode.specs.declared.instr.BitOperation.TheVariants.{Clr}
use Rattle.mcs51_decode.specs.declared.instr.BitTest.{BitTest}
use Rattle.mcs51_decode.specs.declared.instr.BitTest.TheVariants.{SetAndClear, Set, Clear}
use Rattle.mcs51_decode.specs.declared.instr.Comparison.{Comparison}
use Rattle.mcs51_decode.specs.declared.instr.Comparison.TheVariants.{AccumulatorImmediate, AccumulatorDirect, WorkingImmediate}
use Rattle.mcs51_decode.specs.declared.instr.Condition.{Condition}
use Rattle.mcs51_decode.specs.declared.instr.Counter.{Counter}
use Rattle.mcs51_decode.specs.declared.instr.Counter.TheVariants as counter
use Rattle.mcs51_decode.specs.declared.instr.Memory.{Memory}
use Rattle.mcs51_decode.specs.declared.instr.Memory.TheVariants.{Direct, Working as InWorking}
use Rattle.mcs51_decode.specs.declared.instr.Working.{Working}
use Rattle.mcs51_decode.specs.declared.instr.Working.TheVariants.{Indirect, Register}
use Rattle.mcs51_decode.specs.Encoding.{register_number}
use Rattle.mcs51_chip.specs.Memory.{bit_address}
use Rattle.mcs51_state.specs.declared.addresses.Addresses.{Addresses}
use Rattle.mcs51_state.specs.declared.fact.Compared.TheVariants.{Accumulator, Ram}
use Rattle.mcs51_state.specs.Forms.{IsKnown}
use Rattle.mcs51_state.specs.Known.{Known, byte_of}
use Rattle.mcs51_state.specs.Operands.{addresses_of, bit_addresses, direct_addresses, pointed_addresses, register_addresses}
use Rattle.mcs51_state.specs.Reading.{ram_values, read_byte}
use Rattle.mcs51_state.specs.Writing.{byte_written}
use Rattle.mcs51_jumps.specs.Bits.{bit_changed}
use Rattle.mcs51_branch.specs.declared.operand.Operand.{Operand}
use Rattle.mcs51_branch.specs.declared.operand.Operand.TheVariants.{One, Several}
use Rattle.mcs51_branch.specs.Jumps.{compared_with, comparison_cut, condition_cut, lowered_cut}
use Rattle.mcs51_branch.specs.Testing.{bit_tested}
use Rattle.mcs51_state.specs.Accesses.{read_at, read_items, update_at, update_items}

-- what is known behind the jump where it isn't taken, and where it is; none where that can't be
pub record Ways : Type 0 where
  pub on : Option Known
  pub jumped : Option Known

-- each way that can be is in form
pub record AreWays (framed : Bool) (ways : Ways) : Type 0 where
  pub on : (way : Known) → ways.on ≡ Some way → IsKnown framed way
  pub jumped : (way : Known) → ways.jumped ≡ Some way → IsKnown framed way

-- JC, JNC, JZ, JNZ AND SJMP

unfoldable pub ways_on_condition : Condition → Known → Ways
ways_on_condition condition a = record { on = condition_cut condition false a; jumped = condition_cut condition true a }

-- JB, JNB AND JBC

abbrev pub where_bit : (bit : ℕ) → (flag : Bool) → Known → Option Known
where_bit bit flag a = bit_tested (bit_address bit) (bit % 8) flag a

-- the jump is taken where the bit is so
abbrev pub tested_ways : (bit : ℕ) → (flag : Bool) → Known → Ways
tested_ways bit flag a = record { on = where_bit bit (not flag) a; jumped = where_bit bit flag a }

abbrev pub where_cleared : (framed : Bool) → (bit : ℕ) → Known → Option Known
where_cleared framed bit a = option_map (bit_changed framed Clr bit) (where_bit bit true a)

-- JBC clears the bit where it jumps, and writes nothing where it doesn't
unfoldable pub ways_on_bit : (framed : Bool) → BitTest → (bit : ℕ) → Known → Ways
ways_on_bit framed Set bit a = tested_ways bit true a
ways_on_bit framed Clear bit a = tested_ways bit false a
ways_on_bit framed SetAndClear bit a = record { on = where_bit bit false a; jumped = where_cleared framed bit a }

abbrev pub read_of : (pc bit : ℕ) → List Item
read_of pc bit = read_at pc (bit_addresses bit)

abbrev pub clearing_items : (pc bit : ℕ) → (jumped : Option Known) → List Item
clearing_items pc bit None = read_of pc bit
clearing_items pc bit (Some way) = update_at pc (bit_addresses bit)

abbrev pub bit_items : (pc : ℕ) → BitTest → (bit : ℕ) → (jumped : Option Known) → List Item
bit_items pc Set bit jumped = read_of pc bit
bit_items pc Clear bit jumped = read_of pc bit
bit_items pc SetAndClear bit jumped = clearing_items pc bit jumped

-- CJNE

-- where @Ri or Rn may stand in RAM
abbrev pub working_set : Known → Working → Form
working_set a (Indirect i) = pointed_addresses a i
working_set a (Register n) = register_addresses a (register_number n)

abbrev pub operand_among : Known → (at : Form) → List ℕ → Operand
operand_among a at [] = Several (ram_values a at)
operand_among a at (place ∷ []) = One (Ram place)
operand_among a at (place ∷ next ∷ rest) = Several (ram_values a at)

abbrev pub operand_at : Known → (at : Form) → Operand
operand_at a at = operand_among a at (members 256 at)

abbrev pub constant_ways : Operand → (value : ℕ) → Known → Ways
constant_ways operand value a = record { on = comparison_cut operand value false a; jumped = comparison_cut operand value true a }

abbrev pub both_ways : Known → Ways
both_ways way = record { on = Some way; jumped = Some way }

unfoldable pub ways_by_comparison : (framed : Bool) → Comparison → Known → Ways
ways_by_comparison framed (AccumulatorImmediate value) a = constant_ways (One Accumulator) value a
ways_by_comparison framed (AccumulatorDirect direct) a = both_ways (compared_with (read_byte framed a (direct_addresses direct)).set a)
ways_by_comparison framed (WorkingImmediate w value) a = constant_ways (operand_at a (working_set a w)) value a

abbrev pub comparison_items : (pc : ℕ) → Comparison → Known → List Item
comparison_items pc (AccumulatorImmediate value) a = []
comparison_items pc (AccumulatorDirect direct) a = read_items pc a (Direct direct)
comparison_items pc (WorkingImmediate w value) a = read_items pc a (InWorking w)

-- DJNZ

abbrev pub counted : Counter → Memory
counted (counter.Direct direct) = Direct direct
counted (counter.Register n) = InWorking (Register n)

abbrev pub set_written : (framed : Bool) → Addresses → Known → Form → Known
set_written framed at a set = byte_written framed at (byte_of set) a

-- the byte is lowered, cut to the numbers that lead this way, and written where it may stand
abbrev pub lowered_at : (framed : Bool) → Addresses → (taken : Bool) → Known → Option Known
lowered_at framed at taken a = option_map (set_written framed at a) (lowered_cut taken (read_byte framed a at).set)

unfoldable pub ways_by_counter : (framed : Bool) → Counter → Known → Ways
ways_by_counter framed counter a = record {
  on = lowered_at framed (addresses_of a (counted counter)) false a;
  jumped = lowered_at framed (addresses_of a (counted counter)) true a;
}

abbrev pub counter_items : (pc : ℕ) → Counter → Known → List Item
counter_items pc counter a = update_items pc a (counted counter)
