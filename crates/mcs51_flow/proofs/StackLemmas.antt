-- A work of the MCS-51 shows bytes as stack pointers.
use Rattle.std.proofs.Common.{ℕ, ◌++◌, Bool, true, false, Option, None, Some, List, [], ◌∷◌}
use Rattle.std.specs.Prelude.{Contains}
use Rattle.value_set.specs.declared.form.Form.{Form}
use Rattle.call_context.specs.declared.node.Unit.{Unit as WorkUnit}
use Rattle.call_context.specs.declared.shown.Item.{Item}
use Rattle.call_context.specs.declared.shown.Item.TheVariants as items
use Rattle.call_context.specs.declared.shown.Set.{Set}
use Rattle.call_context.specs.declared.shown.Set.TheVariants.{B, W}
use Rattle.chip_flow.specs.Stacks.{AreStacksOf, IsStackOf, ShowsStacks, both_stacks, stacks_shown}
use Rattle.mcs51_decode.specs.declared.instr.BitTest.{BitTest}
use Rattle.mcs51_decode.specs.declared.instr.BitTest.TheVariants as test
use Rattle.mcs51_decode.specs.declared.instr.Comparison.TheVariants.{AccumulatorImmediate, AccumulatorDirect, WorkingImmediate}
use Rattle.mcs51_decode.specs.declared.instr.External.TheVariants as external
use Rattle.mcs51_decode.specs.declared.instr.Instr.{Instr}
use Rattle.mcs51_decode.specs.declared.instr.Instr.TheVariants.{Nop, AbsoluteJump, AbsoluteCall, LongJump, LongCall, Return, ReturnFromInterrupt, JumpIndirect, JumpOn, JumpOnBit, CompareJump, DecrementJump, ChangeAccumulator, Increment, Decrement, IncrementDataPointer, Accumulate, DirectLogic, Multiply, Divide, ChangeCarry, CarryBit, ChangeBit, MoveImmediate, MoveToDirect, MoveFromDirect, LoadDataPointer, Load, Store, MoveCode, ReadExternal, WriteExternal, Push, Pop, Exchange, ExchangeDigit}
use Rattle.mcs51_decode.specs.declared.instr.Memory.{Memory}
use Rattle.mcs51_decode.specs.declared.instr.Memory.TheVariants.{Direct, Working as InWorking}
use Rattle.mcs51_decode.specs.declared.instr.Place.TheVariants.{Accumulator, Memory as InMemory}
use Rattle.mcs51_decode.specs.declared.instr.Source.TheVariants as source
use Rattle.mcs51_decode.specs.declared.instr.Working.{Working}
use Rattle.mcs51_decode.specs.declared.instr.Working.TheVariants.{Indirect, Register}
use Rattle.mcs51_decode.specs.Targets.{following}
use Rattle.mcs51_state.specs.declared.addresses.Addresses.{Addresses}
use Rattle.mcs51_state.specs.declared.addresses.Addresses.TheVariants.{InRam, InSfr}
use Rattle.mcs51_state.specs.Known.{Known, is_interrupt, known_joined}
use Rattle.mcs51_state.specs.Accesses.{read_at, read_items, update_items, write_at, write_items}
use Rattle.mcs51_state.specs.Showing.{access_of, address_accesses, pointer_accesses}
use Rattle.mcs51_jumps.specs.Jumps.{bit_items, clearing_items}
use Rattle.mcs51_control.specs.Returning.{below_top}
use Rattle.mcs51_flow.specs.Running.{Ran, items_of, ran_from, ran_of}
use Rattle.mcs51_flow.specs.declared.setting.Setting.{Setting}
use Rattle.mcs51_flow.specs.Chip.{in_front, mcs51_analysis, mcs51_flow}

abbrev IsByteSet : Set → Type 0
IsByteSet (B values) = Unit {0}
IsByteSet (W values) = ⊥

-- if an item shows a stack pointer, it shows a byte
abbrev IsBytely : Item → Type 0
IsBytely = IsStackOf IsByteSet

abbrev AreBytely : List Item → Type 0
AreBytely = AreStacksOf IsByteSet

joined : (xs ys : List Item) → AreBytely xs → AreBytely ys → AreBytely (xs ++ ys)
joined = both_stacks IsByteSet

-- THE ACCESSES OF AN INSTRUCTION

one_access : (pc : ℕ) (write : Bool) (at : Addresses) → IsBytely (access_of pc write at)
one_access pc write (InRam set) = tt
one_access pc write (InSfr register) = tt

pointer_bytes : (pc : ℕ) (a : Known) (w : Working) → AreBytely (pointer_accesses pc a w)
pointer_bytes pc a (Indirect i) = (tt, tt)
pointer_bytes pc a (Register n) = tt

address_bytes : (pc : ℕ) (a : Known) (m : Memory) → AreBytely (address_accesses pc a m)
address_bytes pc a (Direct direct) = tt
address_bytes pc a (InWorking w) = pointer_bytes pc a w

read_bytes : (pc : ℕ) (a : Known) (m : Memory) → AreBytely (read_items pc a m)
read_bytes pc a m = joined (address_accesses pc a m) _ (address_bytes pc a m) (one_access pc false _, tt)

write_bytes : (pc : ℕ) (a : Known) (m : Memory) → AreBytely (write_items pc a m)
write_bytes pc a m = joined (address_accesses pc a m) _ (address_bytes pc a m) (one_access pc true _, tt)

update_bytes : (pc : ℕ) (a : Known) (m : Memory) → AreBytely (update_items pc a m)
update_bytes pc a m = joined (address_accesses pc a m) _ (address_bytes pc a m) (one_access pc false _, (one_access pc true _, tt))

-- behind other accesses one byte is read, and another one written
moved_bytes : (pc : ℕ) (before : List Item) (from to : Addresses) → AreBytely before
    → AreBytely (before ++ read_at pc from ++ write_at pc to)
moved_bytes pc before from to bytes =
    joined (before ++ read_at pc from) (write_at pc to) (joined before (read_at pc from) bytes (one_access pc false from, tt))
    (one_access pc true to, tt)

clearing_bytes : (pc bit : ℕ) (jumped : Option Known) → AreBytely (clearing_items pc bit jumped)
clearing_bytes pc bit None = (one_access pc false _, tt)
clearing_bytes pc bit (Some way) = (one_access pc false _, (one_access pc true _, tt))

bit_bytes : (pc : ℕ) (test : BitTest) (bit : ℕ) (jumped : Option Known) → AreBytely (bit_items pc test bit jumped)
bit_bytes pc test.Set bit jumped = (one_access pc false _, tt)
bit_bytes pc test.Clear bit jumped = (one_access pc false _, tt)
bit_bytes pc test.SetAndClear bit jumped = clearing_bytes pc bit jumped

ran_bytes : (image : List (Option ℕ)) (framed : Bool) (pc next : ℕ) (a : Known) (instr : Instr)
    → AreBytely (ran_from image framed pc next a instr).items
unfolding ran_from items_of
ran_bytes image framed pc next a Nop = tt
ran_bytes image framed pc next a (AbsoluteJump target) = tt
ran_bytes image framed pc next a (AbsoluteCall target) = (tt, (tt, tt))
ran_bytes image framed pc next a (LongJump target) = tt
ran_bytes image framed pc next a (LongCall target) = (tt, (tt, tt))
ran_bytes image framed pc next a Return = (tt, (one_access pc false (below_top a), tt))
ran_bytes image framed pc next a ReturnFromInterrupt = (tt, (one_access pc false (below_top a), tt))
ran_bytes image framed pc next a JumpIndirect = tt
ran_bytes image framed pc next a (JumpOn condition rel) = tt
ran_bytes image framed pc next a (JumpOnBit test bit rel) = bit_bytes pc test bit _
ran_bytes image framed pc next a (CompareJump (AccumulatorImmediate value) rel) = tt
ran_bytes image framed pc next a (CompareJump (AccumulatorDirect direct) rel) = read_bytes pc a (Direct direct)
ran_bytes image framed pc next a (CompareJump (WorkingImmediate w value) rel) = read_bytes pc a (InWorking w)
ran_bytes image framed pc next a (DecrementJump counter rel) = update_bytes pc a _
ran_bytes image framed pc next a (ChangeAccumulator operation) = tt
ran_bytes image framed pc next a (Increment Accumulator) = tt
ran_bytes image framed pc next a (Increment (InMemory m)) = update_bytes pc a m
ran_bytes image framed pc next a (Decrement Accumulator) = tt
ran_bytes image framed pc next a (Decrement (InMemory m)) = update_bytes pc a m
ran_bytes image framed pc next a IncrementDataPointer = tt
ran_bytes image framed pc next a (Accumulate operation (source.Immediate value)) = tt
ran_bytes image framed pc next a (Accumulate operation (source.Memory m)) = read_bytes pc a m
ran_bytes image framed pc next a (DirectLogic operation direct mask) = (one_access pc false _, (one_access pc true _, tt))
ran_bytes image framed pc next a Multiply = tt
ran_bytes image framed pc next a Divide = tt
ran_bytes image framed pc next a (ChangeCarry operation) = tt
ran_bytes image framed pc next a (CarryBit operation bit) = (one_access pc false _, tt)
ran_bytes image framed pc next a (ChangeBit operation bit) = (one_access pc false _, (one_access pc true _, tt))
ran_bytes image framed pc next a (MoveImmediate Accumulator value) = tt
ran_bytes image framed pc next a (MoveImmediate (InMemory m) value) = write_bytes pc a m
ran_bytes image framed pc next a (MoveToDirect to from) = moved_bytes pc (address_accesses pc a from) _ _ (address_bytes pc a from)
ran_bytes image framed pc next a (MoveFromDirect to from) = moved_bytes pc (pointer_accesses pc a to) _ _ (pointer_bytes pc a to)
ran_bytes image framed pc next a (LoadDataPointer value) = tt
ran_bytes image framed pc next a (Load m) = read_bytes pc a m
ran_bytes image framed pc next a (Store m) = write_bytes pc a m
ran_bytes image framed pc next a (MoveCode base) = (tt, tt)
ran_bytes image framed pc next a (ReadExternal external.DataPointer) = (tt, tt)
ran_bytes image framed pc next a (ReadExternal (external.Indirect i)) = (tt, (tt, tt))
ran_bytes image framed pc next a (WriteExternal external.DataPointer) = (tt, tt)
ran_bytes image framed pc next a (WriteExternal (external.Indirect i)) = (tt, (tt, tt))
ran_bytes image framed pc next a (Push direct) = (one_access pc false _, (tt, tt))
ran_bytes image framed pc next a (Pop direct) = (tt, (one_access pc true _, tt))
ran_bytes image framed pc next a (Exchange m) = update_bytes pc a m
ran_bytes image framed pc next a (ExchangeDigit i) = update_bytes pc a (InWorking (Indirect i))

-- WORKS

shows_bytes : (setting : Setting) → ShowsStacks IsByteSet (mcs51_flow setting)
shows_bytes setting = record {
  stack = λ a. tt;
  entry = λ pc coming. (tt, (tt, (tt, tt)));
  accesses = λ frame a pc instr. ran_bytes setting.image (is_interrupt frame) pc (following pc instr) (in_front setting a pc instr) instr;
}

pub no_word_stack : (setting : Setting) (unit : WorkUnit) (a : Known) (exit : Option Known) (pc : ℕ) (values : Form)
    → Contains ((mcs51_analysis setting).work unit a exit).items (items.Stack pc (W values)) → ⊥
unfolding mcs51_analysis
no_word_stack setting unit a exit pc values there = stacks_shown IsByteSet known_joined (mcs51_flow setting) (shows_bytes setting) unit a exit pc (W values) there
