-- What PUSH and POP make of what is known of a state (Intel, MCS-51 Programmer's Guide and Instruction Set, "Instruction
-- Definitions"). The manual leaves open what they do with SP itself: PUSH stores it as it was or as it is raised, and POP
-- leaves the byte or one less.
use Rattle.std.specs.Prelude.{ℕ, ◌==◌, ◌++◌, if◌then◌else◌, Bool, List}
use Rattle.call_context.specs.declared.shown.Item.{Item}
use Rattle.entry_value.specs.declared.byte.Byte.{Byte}
use Rattle.value_set.specs.declared.form.Form.{Form}
use Rattle.value_set.specs.Joining.{join}
use Rattle.mcs51_state.specs.declared.addresses.Addresses.{Addresses}
use Rattle.mcs51_state.specs.declared.addresses.Addresses.TheVariants.{InRam}
use Rattle.mcs51_state.specs.Known.{Known, byte_of}
use Rattle.mcs51_state.specs.Operands.{direct_addresses}
use Rattle.mcs51_state.specs.Reading.{read_byte}
use Rattle.mcs51_state.specs.Stack.{byte_popped, byte_pushed, lowered, raised, stack_top}
use Rattle.mcs51_state.specs.Writing.{byte_written}
use Rattle.mcs51_state.specs.Accesses.{read_at, write_at}

abbrev pub is_stack_pointer : (direct : ℕ) → Bool
is_stack_pointer direct = direct == 0x81

-- PUSH

abbrev pub pushed_byte : (framed : Bool) → (direct : ℕ) → Known → Byte
pushed_byte framed direct a =
    if is_stack_pointer direct then byte_of (join 256 a.sp (raised a.sp)) else read_byte framed a (direct_addresses direct)

unfoldable pub pushed_known : (framed : Bool) → (direct : ℕ) → Known → Known
pushed_known framed direct a = byte_pushed framed (pushed_byte framed direct a) a

-- where the byte is written
abbrev pub next_top : Known → Addresses
next_top a = InRam (raised a.sp)

abbrev pub push_items : (pc direct : ℕ) → Known → List Item
push_items pc direct a = read_at pc (direct_addresses direct) ++ write_at pc (next_top a)

-- POP

abbrev pub top_byte : (framed : Bool) → Known → Byte
top_byte framed a = read_byte framed a (stack_top a)

abbrev pub or_lowered : Form → Form
or_lowered set = join 256 set (lowered set)

abbrev pub popped_byte : (framed : Bool) → (direct : ℕ) → Known → Byte
popped_byte framed direct a =
    if is_stack_pointer direct then byte_of (or_lowered (top_byte framed a).set) else top_byte framed a

unfoldable pub popped_known : (framed : Bool) → (direct : ℕ) → Known → Known
popped_known framed direct a = byte_written framed (direct_addresses direct) (popped_byte framed direct a) (byte_popped a)

abbrev pub pop_items : (pc direct : ℕ) → Known → List Item
pop_items pc direct a = read_at pc (stack_top a) ++ write_at pc (direct_addresses direct)
