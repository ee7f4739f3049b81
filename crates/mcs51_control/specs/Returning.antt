-- Where control goes by the stack and by DPTR, and what is known there (Intel, MCS-51 Programmer's Guide and Instruction Set:
-- RET, RETI, JMP, ACALL and LCALL).
use Rattle.std.specs.Prelude.{ℕ, ◌+◌, ◌%◌, ◌==◌, ◌&&◌, ◌||◌, Bool, true, false, Option, None, Some, List, [], ◌∷◌}
use Rattle.call_context.specs.declared.node.Frame.{Frame}
use Rattle.call_context.specs.declared.node.Frame.TheVariants.{Base, Irq}
use Rattle.call_context.specs.declared.shown.Item.{Item}
use Rattle.entry_value.specs.declared.byte.Byte.{Byte}
use Rattle.entry_value.specs.declared.word.Entry.{Entry}
use Rattle.value_bits.specs.Sets.{pair_set}
use Rattle.value_set.specs.declared.form.Form.{Form}
use Rattle.value_set.specs.Joining.{is_within}
use Rattle.value_set.specs.Summing.{add, single}
use Rattle.mcs51_state.specs.declared.addresses.Addresses.{Addresses}
use Rattle.mcs51_state.specs.declared.addresses.Addresses.TheVariants.{InRam}
use Rattle.mcs51_state.specs.declared.levels.Levels.{Levels}
use Rattle.mcs51_state.specs.Known.{Known}
use Rattle.mcs51_state.specs.Reading.{read_byte}
use Rattle.mcs51_state.specs.Showing.{access_of}
use Rattle.mcs51_state.specs.Stack.{byte_popped, raised, stack_top}

-- RETURNS

-- the high byte of the return address is on top, and the low one below it
abbrev pub high_byte : (framed : Bool) → Known → Byte
high_byte framed a = read_byte framed a (stack_top a)

abbrev pub below_top : Known → Addresses
below_top a = stack_top (byte_popped a)

abbrev pub low_byte : (framed : Bool) → Known → Byte
low_byte framed a = read_byte framed a (below_top a)

unfoldable pub return_targets : (framed : Bool) → Known → Form
return_targets framed a = pair_set (low_byte framed a).set (high_byte framed a).set

abbrev pub returned_known : Known → Known
returned_known a = byte_popped (byte_popped a)

-- RETI ends the highest level in service, if any
abbrev pub level_left : Levels → Levels
level_left levels = record { none = levels.none || levels.low || levels.high; low = levels.both; high = false; both = false }

abbrev pub interrupt_returned : Known → Known
interrupt_returned a = record (returned_known a) { levels = level_left a.levels }

-- BACK TO THE SUSPENDED STATE

-- the relation of a byte of PC to itself, without a mask
abbrev pub is_counter : (place : ℕ) → Option Entry → Bool
is_counter place None = false
is_counter place (Some entry) = (entry.place == place) && (entry.and == 255) && (entry.or == 0)

-- SP is two above where the interrupt came
abbrev pub is_behind_entry : (sp : Form) → (came : ℕ) → Bool
is_behind_entry sp came = is_within 256 sp (single ((came + 2) % 256))

-- RETI goes back where SP is what it was behind the entry, and both slots hold what PC was then
unfoldable pub goes_back : (framed : Bool) → Frame → Known → Bool
goes_back framed Base a = false
goes_back framed (Irq vector None level) a = false
goes_back framed (Irq vector (Some sp) level) a =
    is_behind_entry a.sp sp && is_counter 513 (high_byte framed a).entry && is_counter 512 (low_byte framed a).entry

-- ACCESSES

abbrev pub call_accesses : (pc : ℕ) → Known → List Item
call_accesses pc a = access_of pc true (InRam (raised a.sp)) ∷ access_of pc true (InRam (raised (raised a.sp))) ∷ []

abbrev pub return_accesses : (pc : ℕ) → Known → List Item
return_accesses pc a = access_of pc false (stack_top a) ∷ access_of pc false (below_top a) ∷ []
