-- What instructions that write a byte of memory make of what is known of a state (Intel, MCS-51 Programmer's Guide and
-- Instruction Set: INC and DEC of a byte, ORL, ANL and XRL of a direct byte, MOV to a byte, XCH and XCHD). Where the operand may
-- stand is said by the state in front of the instruction.
use Rattle.std.specs.Prelude.{ℕ, ◌==◌, if◌then◌else◌, Bool, List, ◌++◌}
use Rattle.call_context.specs.declared.shown.Item.{Item}
use Rattle.entry_value.specs.declared.byte.Byte.{Byte}
use Rattle.value_bits.specs.declared.tri.Logic.TheVariants.{And, Or}
use Rattle.value_bits.specs.Sets.{logic_set}
use Rattle.value_set.specs.declared.form.Form.{Form}
use Rattle.value_set.specs.Summing.{single}
use Rattle.mcs51_decode.specs.declared.instr.Logic.{Logic}
use Rattle.mcs51_decode.specs.declared.instr.Mask.{Mask}
use Rattle.mcs51_decode.specs.declared.instr.Mask.TheVariants as mask
use Rattle.mcs51_decode.specs.declared.instr.Memory.{Memory}
use Rattle.mcs51_decode.specs.declared.instr.Memory.TheVariants.{Working as InWorking}
use Rattle.mcs51_decode.specs.declared.instr.Pointer.{Pointer}
use Rattle.mcs51_decode.specs.declared.instr.Working.{Working}
use Rattle.mcs51_decode.specs.declared.instr.Working.TheVariants.{Indirect}
use Rattle.mcs51_state.specs.Known.{Known, byte_of}
use Rattle.mcs51_state.specs.Operands.{addresses_of, direct_addresses, working_addresses}
use Rattle.mcs51_state.specs.Reading.{read_byte}
use Rattle.mcs51_state.specs.Showing.{address_accesses, pointer_accesses}
use Rattle.mcs51_results.specs.declared.made.Operand.{Operand}
use Rattle.mcs51_results.specs.declared.made.Operand.TheVariants.{Constant, Among}
use Rattle.mcs51_results.specs.Results.{decreased, increased, masked_made}
use Rattle.mcs51_results.specs.StatusBytes.{masked_status}
use Rattle.mcs51_state.specs.Writing.{accumulator_written, byte_written, status_written}
use Rattle.mcs51_state.specs.Accesses.{read_at, write_at}

-- the byte of an operand, and a byte that is written there
abbrev pub byte_at : (framed : Bool) → Memory → Known → Byte
byte_at framed m a = read_byte framed a (addresses_of a m)

abbrev pub written_at : (framed : Bool) → Memory → Byte → Known → Known
written_at framed m byte a = byte_written framed (addresses_of a m) byte a

-- INC AND DEC

unfoldable pub incremented : (framed : Bool) → Memory → Known → Known
incremented framed m a = written_at framed m (increased (byte_at framed m a)) a

unfoldable pub decremented : (framed : Bool) → Memory → Known → Known
decremented framed m a = written_at framed m (decreased (byte_at framed m a)) a

-- ORL, ANL AND XRL OF A DIRECT BYTE

abbrev pub mask_operand : Known → Mask → Operand
mask_operand a mask.Accumulator = Among a.a.set
mask_operand a (mask.Immediate value) = Constant value

abbrev pub direct_made : (framed : Bool) → Logic → (direct : ℕ) → Mask → Known → Byte
direct_made framed operation direct by a = masked_made operation (read_byte framed a (direct_addresses direct)) (mask_operand a by)

-- PSW is masked bit by bit
unfoldable pub direct_masked : (framed : Bool) → Logic → (direct : ℕ) → Mask → Known → Known
direct_masked framed operation direct by a =
    if direct == 0xD0 then status_written (masked_status operation a.psw (mask_operand a by)) a
    else byte_written framed (direct_addresses direct) (direct_made framed operation direct by a) a

-- MOV

unfoldable pub immediate_moved : (framed : Bool) → Memory → (value : ℕ) → Known → Known
immediate_moved framed m value a = written_at framed m (byte_of (single value)) a

unfoldable pub moved_to_direct : (framed : Bool) → (to : ℕ) → (from : Memory) → Known → Known
moved_to_direct framed to from a = byte_written framed (direct_addresses to) (byte_at framed from a) a

unfoldable pub moved_from_direct : (framed : Bool) → (to : Working) → (from : ℕ) → Known → Known
moved_from_direct framed to from a = byte_written framed (working_addresses a to) (read_byte framed a (direct_addresses from)) a

unfoldable pub stored : (framed : Bool) → Memory → Known → Known
stored framed m a = written_at framed m a.a a

-- XCH AND XCHD: the byte is written first, and then the accumulator

unfoldable pub exchanged : (framed : Bool) → Memory → Known → Known
exchanged framed m a = accumulator_written (byte_at framed m a) (written_at framed m a.a a)

-- the high digit of one byte and the low digit of another
abbrev pub digits_joined : (high low : Form) → Form
digits_joined high low = logic_set 8 Or (logic_set 8 And high (single 240)) (logic_set 8 And low (single 15))

abbrev pub pointed : Pointer → Memory
pointed i = InWorking (Indirect i)

unfoldable pub digit_exchanged : (framed : Bool) → Pointer → Known → Known
digit_exchanged framed i a =
    accumulator_written (byte_of (digits_joined a.a.set (byte_at framed (pointed i) a).set))
    (written_at framed (pointed i) (byte_of (digits_joined (byte_at framed (pointed i) a).set a.a.set)) a)

-- ACCESSES, of MOV of a direct byte

abbrev pub to_direct_items : (pc : ℕ) → Known → (to : ℕ) → (from : Memory) → List Item
to_direct_items pc a to from = address_accesses pc a from ++ read_at pc (addresses_of a from) ++ write_at pc (direct_addresses to)

abbrev pub from_direct_items : (pc : ℕ) → Known → (to : Working) → (from : ℕ) → List Item
from_direct_items pc a to from = pointer_accesses pc a to ++ read_at pc (direct_addresses from) ++ write_at pc (working_addresses a to)
