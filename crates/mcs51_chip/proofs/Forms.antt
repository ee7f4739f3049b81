-- A step keeps the form of states.
use Rattle.std.proofs.Common.{◌≡◌, ℕ, ◌+◌, ◌-◌, ◌*◌, ◌/◌, ◌%◌, ◌<◌, ◌==◌, Bool, true, false, cond, ltb, nat_lt, List, [], length, slice_index, slice_set, Option, None, Some, Result, Ok, Err, refl, ◌∙◌, arith}
use Rattle.std.specs.Prelude.{All}
use Rattle.std.specs.List.{range_with_len}
use Rattle.std.specs.Int.{bit_at}
use Rattle.std.proofs.lemmas.Grind.{common_steps}
use Rattle.std.proofs.lemmas.Bool.{cond_both}
use Rattle.std.proofs.lemmas.Bool.Decides.{nat_tests}
use Rattle.std.proofs.lemmas.List.Elements.{All-set, All-get_or, All-replicate, All-filter}
use Rattle.std.proofs.lemmas.List.{get_or_past, length-set}
use Rattle.std.proofs.lemmas.List.FromFn.{get_or-range_with_len, length-range_with_len}
use borrow.Author.Tests.{ltb-true, ltb-false}
use Rattle.std.proofs.lemmas.Nat.Bits.{bit_at-lt}
use Rattle.image.specs.Image.{IsByte, byte_at}
use Rattle.chip_numbers.specs.Single.{Single}
use Rattle.mcs51_decode.specs.declared.instr.Memory.{Memory}
use Rattle.mcs51_decode.specs.declared.instr.Memory.TheVariants.{Direct, Working as InWorking}
use Rattle.mcs51_decode.specs.declared.instr.Working.{Working}
use Rattle.mcs51_decode.specs.declared.instr.Working.TheVariants.{Indirect as At, Register as InRegister}
use Rattle.mcs51_decode.specs.declared.instr.Source.TheVariants as source
use Rattle.mcs51_decode.specs.declared.instr.Place.TheVariants.{Accumulator, Memory as InMemory}
use Rattle.mcs51_decode.specs.declared.instr.Mask.TheVariants as mask
use Rattle.mcs51_decode.specs.declared.instr.BitTest.{BitTest}
use Rattle.mcs51_decode.specs.declared.instr.BitTest.TheVariants.{SetAndClear, Set, Clear}
use Rattle.mcs51_decode.specs.declared.instr.Comparison.TheVariants.{AccumulatorImmediate, AccumulatorDirect, WorkingImmediate}
use Rattle.mcs51_decode.specs.declared.instr.Counter.TheVariants as counter
use Rattle.mcs51_decode.specs.declared.instr.CodeBase.TheVariants.{ProgramCounter, DataPointer as AtDataPointer}
use Rattle.mcs51_decode.specs.declared.instr.External.{External}
use Rattle.mcs51_decode.specs.declared.instr.External.TheVariants.{DataPointer, Indirect}
use Rattle.mcs51_decode.specs.declared.instr.Pointer.{Pointer}
use Rattle.mcs51_decode.specs.declared.instr.Instr.{Instr}
use Rattle.mcs51_decode.specs.declared.instr.Instr.TheVariants.{Nop, AbsoluteJump, AbsoluteCall, LongJump, LongCall, Return, ReturnFromInterrupt, JumpIndirect, JumpOn, JumpOnBit, CompareJump, DecrementJump, ChangeAccumulator, Increment, Decrement, IncrementDataPointer, Accumulate, DirectLogic, Multiply, Divide, ChangeCarry, CarryBit, ChangeBit, MoveImmediate, MoveToDirect, MoveFromDirect, LoadDataPointer, Load, Store, MoveCode, ReadExternal, WriteExternal, Push, Pop, Exchange, ExchangeDigit}
use Rattle.mcs51_decode.specs.declared.refusal.NoInstr.{NoInstr}
use Rattle.mcs51_decode.specs.Decoding.{decoded}
use Rattle.mcs51_decode.specs.Encoding.{bytes_of}
use Rattle.mcs51_decode.specs.Targets.{following}
use Rattle.mcs51_chip.specs.declared.place.Access.{Access}
use Rattle.mcs51_chip.specs.declared.place.Address.{Address}
use Rattle.mcs51_chip.specs.declared.place.Address.TheVariants.{InRam, InSfr}
use Rattle.mcs51_chip.specs.declared.place.Sfr.{Sfr}
use Rattle.mcs51_chip.specs.declared.place.Sfr.TheVariants.{Sp, Dpl, Dph, Ie, Ip, Psw, Acc, B, Other}
use Rattle.mcs51_chip.specs.declared.state.ChipState.{ChipState}
use Rattle.mcs51_decode.specs.Table.{Row}
use Rattle.mcs51_chip.proofs.Operands.{AreFitting, operands_fit}
use Rattle.mcs51_chip.specs.Arithmetic.{masked, divided, bit_after}
use Rattle.mcs51_chip.specs.Interrupts.{coming, may_come, is_high, serving, vector_of, level_ended}
use Rattle.mcs51_chip.specs.Memory.{direct_address, bit_address, pointer_address, pointed_by, working_address, address_of, read, write, read_code, pushed, top_of, popped, with_pushed_address, popped_address}
use Rattle.mcs51_chip.specs.Registers.{parity, with_bit, carry_of, sfr_at, read_sfr, write_sfr, with_data_pointer}
use Rattle.mcs51_chip.specs.State.{IsChipState, IsReset, first_state}
use Rattle.mcs51_chip.specs.StateFacts.{accumulated_kept, carry_kept, changed_kept, divided_kept, multiplied_kept, set_a, set_pc, set_psw, zero_kept}
use Rattle.mcs51_chip.specs.Step.{Effect, Outcome, implied, reading, writing, updating, changing, moving, going_to, branched, cleared, jumping_on_bit, compared, counting, called, returned, push_value, pushing, popping, reading_code, external_address, reading_external, writing_external, dividing, exchanged_with, digit_exchanged_with, effect_of, executed, entered, run, taken, step_of}
use Rattle.choosing.specs.Asking.{answer, and_then}
use Rattle.choosing.specs.Outcome.Outcome.{Next, Wild}
use Rattle.choosing.specs.Gives.{Gives, answer_gives, ask_gives, ask_if_gives, if_gives, then_gives}
use Rattle.mcs51_chip.specs.NumberFacts.{masked_below, flag_below, parity_below, carry_after_below, carry_with_below, bit_after_below, with_bit_below, target_below, absolute_below, carry_below}
use Rattle.mcs51_decode.specs.NumberFacts.{pointer_below, register_below}

-- ---- registers

set_pointer : (s : ChipState) (x : ℕ) → IsChipState s → x < 65536 → IsChipState (with_data_pointer x s)
set_pointer s x is h =
    let low : x % 256 < 256 = omega arith in
    let high : x / 256 < 256 = omega (arith, h) in
    assumption (is, low, high)

level_kept : (s : ChipState) → IsChipState s → IsChipState (level_ended s)
level_kept s is = cond_both s.serves_high _ _ IsChipState (λ e. assumption is) (λ e. assumption is)

serving_kept : (high : Bool) (s : ChipState) → IsChipState s → IsChipState (serving high s)
serving_kept true s is = assumption is
serving_kept false s is = assumption is

-- ---- bytes

ram_byte : (s : ChipState) (at : ℕ) → IsChipState s → at < 256 → slice_index s.ram at < 256
ram_byte s at is h = All-get_or (λ b. b < 256) s.ram at _ (omega (arith, is.ram, h)) is.bytes

status_below : (psw bit parity : ℕ) → psw < 256 → psw % 4 ≡ 0 → bit < 2 → parity < 2 → psw + 2 * bit + parity < 256
status_below psw bit parity h held b p = omega (arith, h, held, b, p)

sfr_gives : (s : ChipState) (sfr : Sfr) → IsChipState s → Gives (λ (x : ℕ). x < 256) (read_sfr s sfr)
sfr_gives s Sp is = answer_gives (λ (x : ℕ). x < 256) _ is.sp
sfr_gives s Dpl is = answer_gives (λ (x : ℕ). x < 256) _ is.dpl
sfr_gives s Dph is = answer_gives (λ (x : ℕ). x < 256) _ is.dph
sfr_gives s Ie is = then_gives (λ (bit : ℕ). bit < 2) (λ (x : ℕ). x < 256) _ _ (ask_gives 2 (omega arith)) (λ bit h.
    answer_gives (λ (x : ℕ). x < 256) _ (omega (arith, is.ie, is.ie_held, h)))
sfr_gives s Ip is = then_gives (λ (bits : ℕ). bits < 4) (λ (x : ℕ). x < 256) _ _ (ask_gives 4 (omega arith)) (λ bits h.
    answer_gives (λ (x : ℕ). x < 256) _ (omega (arith, is.ip, h)))
sfr_gives s Psw is = then_gives (λ (bit : ℕ). bit < 2) (λ (x : ℕ). x < 256) _ _ (ask_gives 2 (omega arith)) (λ bit h.
    let p = parity_below s.a in answer_gives (λ (x : ℕ). x < 256) _ (status_below s.psw bit (parity s.a) is.psw is.psw_held h p))
sfr_gives s Acc is = answer_gives (λ (x : ℕ). x < 256) _ is.a
sfr_gives s B is = answer_gives (λ (x : ℕ). x < 256) _ is.b
sfr_gives s Other is = ask_gives 256 (omega arith)

-- a place in RAM is one of 256
abbrev pub IsAddress : Address → Type 0
IsAddress (InRam at) = at < 256
IsAddress (InSfr at) = Unit {0}

read_gives : (s : ChipState) (address : Address) → IsChipState s → IsAddress address → Gives (λ (x : ℕ). x < 256) (read s address)
unfolding read
read_gives s (InRam at) is h = answer_gives (λ (x : ℕ). x < 256) _ (ram_byte s at is h)
read_gives s (InSfr at) is h = sfr_gives s (sfr_at at) is

sfr_kept : (s : ChipState) (sfr : Sfr) (x : ℕ) → IsChipState s → x < 256 → IsChipState (write_sfr sfr x s)
sfr_kept s Sp x is h = assumption (is, h)
sfr_kept s Dpl x is h = assumption (is, h)
sfr_kept s Dph x is h = assumption (is, h)
sfr_kept s Ie x is h =
    let below : x % 64 + x / 128 * 128 < 256 = omega (arith, h) in
    let held : (x % 64 + x / 128 * 128) / 64 % 2 ≡ 0 = omega (arith, h) in
    assumption (is, below, held)
sfr_kept s Ip x is h =
    let below : x % 64 < 64 = omega arith in
    assumption (is, below)
sfr_kept s Psw x is h = set_psw s (x / 4 * 4) is (omega (arith, h)) (omega arith)
sfr_kept s Acc x is h = assumption (is, h)
sfr_kept s B x is h = assumption (is, h)
sfr_kept s Other x is h = is

ram_kept : (s : ChipState) (at x : ℕ) → IsChipState s → x < 256 → IsChipState (record s { ram = slice_set s.ram at x })
ram_kept s at x is h =
    let size : length (slice_set s.ram at x) ≡ 256 = length-set s.ram at x ∙ is.ram in
    let bytes = All-set (λ b. b < 256) s.ram at x h is.bytes in
    assumption (is, size, bytes)

write_kept : (s : ChipState) (address : Address) (x : ℕ) → IsChipState s → x < 256 → IsChipState (write address x s)
unfolding write
write_kept s (InRam at) x is h = ram_kept s at x is h
write_kept s (InSfr at) x is h = sfr_kept s (sfr_at at) x is h

code_gives : (byte : Option ℕ) → IsByte byte → Gives (λ (x : ℕ). x < 256) (read_code byte)
unfolding read_code
code_gives (Some byte) is = answer_gives (λ (x : ℕ). x < 256) byte is
code_gives None is = ask_gives 256 (omega arith)

-- ---- addresses

direct_is : (direct : ℕ) → IsAddress (direct_address direct)
direct_is direct = cond_both (nat_lt direct 128) _ _ IsAddress (λ e. grind (arith, nat_tests, e)) (λ e. tt)

bit_is : (bit : ℕ) → IsAddress (bit_address bit)
bit_is bit = cond_both (nat_lt bit 128) _ _ IsAddress (λ e. grind (arith, nat_tests, e)) (λ e. tt)

pointed_below : (s : ChipState) (i : Pointer) → IsChipState s → pointed_by s i < 256
pointed_below s i is = ram_byte s (pointer_address s i) is (omega (arith, pointer_below i))

working_is : (s : ChipState) (w : Working) → IsChipState s → IsAddress (working_address s w)
working_is s (At i) is = pointed_below s i is
working_is s (InRegister n) is = omega (arith, register_below n)

address_is : (s : ChipState) (m : Memory) → IsChipState s → IsAddress (address_of s m)
address_is s (Direct direct) is = direct_is direct
address_is s (InWorking w) is = working_is s w is

-- ---- the stack

pushed_kept : (s : ChipState) (byte : ℕ) → IsChipState s → byte < 256 → IsChipState (pushed byte s)
pushed_kept s byte is h =
    let written = ram_kept s ((s.sp + 1) % 256) byte is h in
    let top : (s.sp + 1) % 256 < 256 = omega arith in
    assumption (written, top)

popped_kept : (s : ChipState) → IsChipState s → IsChipState (popped s)
popped_kept s is =
    let top : (s.sp + 255) % 256 < 256 = omega arith in
    assumption (is, top)

called_kept : (s : ChipState) (target : ℕ) → IsChipState s → target < 65536 → IsChipState (called target s)
called_kept s target is h = let pc = is.pc in
    set_pc (with_pushed_address s.pc s) target (pushed_kept (pushed (s.pc % 256) s) (s.pc / 256) (pushed_kept s (s.pc % 256) is (omega arith)) (omega (arith, pc))) h

top_below : (s : ChipState) → IsChipState s → top_of s < 256
top_below s is = ram_byte s s.sp is is.sp

returned_kept : (s : ChipState) → IsChipState s → IsChipState (returned s)
returned_kept s is = set_pc (popped (popped s)) (popped_address s) (popped_kept (popped s) (popped_kept s is))
    (omega (arith, top_below s is, top_below (popped s) (popped_kept s is)))

-- ---- formats of instructions

abbrev pub Keeps : Effect → Type 0
Keeps effect = IsChipState effect.1

implied_keeps : (t : ChipState) → IsChipState t → Gives Keeps (implied t)
implied_keeps t is = answer_gives Keeps _ is

byte_leads : (s : ChipState) (address : Address) (leads : ℕ → Effect) → IsChipState s → IsAddress address
    → ((x : ℕ) → x < 256 → Keeps (leads x)) → Gives Keeps (and_then (read s address) (λ x. answer (leads x)))
byte_leads s address leads is there h =
    then_gives (λ (x : ℕ). x < 256) Keeps _ _ (read_gives s address is there) (λ x below. answer_gives Keeps _ (h x below))

reading_keeps : (s : ChipState) (before : List Access) (address : Address) (leads : ℕ → ChipState) → IsChipState s → IsAddress address
    → ((x : ℕ) → x < 256 → IsChipState (leads x)) → Gives Keeps (reading s before address leads)
unfolding reading
reading_keeps s before address leads is there h = byte_leads s address _ is there h

updating_keeps : (s : ChipState) (before : List Access) (address : Address) (leads : ℕ → ChipState) → IsChipState s → IsAddress address
    → ((x : ℕ) → x < 256 → IsChipState (leads x)) → Gives Keeps (updating s before address leads)
unfolding updating
updating_keeps s before address leads is there h = byte_leads s address _ is there h

changing_keeps : (s : ChipState) (before : List Access) (address : Address) (change : ℕ → ℕ) → IsChipState s → IsAddress address
    → ((x : ℕ) → x < 256 → change x < 256) → Gives Keeps (changing s before address change)
changing_keeps s before address change is there h = updating_keeps s before address _ is there (λ x below. write_kept s address (change x) is (h x below))

moving_keeps : (s : ChipState) (before : List Access) (from to : Address) → IsChipState s → IsAddress from
    → Gives Keeps (moving s before from to)
unfolding moving
moving_keeps s before from to is there = byte_leads s from _ is there (λ x below. write_kept s to x is below)

writing_keeps : (s : ChipState) (before : List Access) (address : Address) (x : ℕ) → IsChipState s → x < 256
    → Gives Keeps (writing s before address x)
writing_keeps s before address x is h = answer_gives Keeps _ (write_kept s address x is h)

branched_kept : (s : ChipState) (taken : Bool) (rel : ℕ) → IsChipState s → IsChipState (branched taken rel s)
branched_kept s taken rel is = set_pc s _ is (cond_both taken _ _ (λ pc. pc < 65536) (λ e. target_below s.pc rel) (λ e. is.pc))

compared_kept : (s : ChipState) (x y rel : ℕ) → IsChipState s → IsChipState (compared x y rel s)
compared_kept s x y rel is = branched_kept _ _ rel (carry_kept s _ is (flag_below _))

cleared_keeps : (s : ChipState) (address : Address) (bit rel x : ℕ) → IsChipState s → x < 256 → Keeps (cleared s address (bit % 8) rel x)
cleared_keeps s address bit rel x is h = cond_both (bit_at x (bit % 8) == 1) _ _ Keeps
    (λ e. branched_kept _ true rel (write_kept s address _ is (with_bit_below x bit 0 h (omega arith)))) (λ e. branched_kept s false rel is)

on_bit_keeps : (s : ChipState) (test : BitTest) (address : Address) (bit rel : ℕ) → IsChipState s → IsAddress address
    → Gives Keeps (jumping_on_bit s test address (bit % 8) rel)
unfolding jumping_on_bit
on_bit_keeps s SetAndClear address bit rel is there = byte_leads s address _ is there (λ x h. cleared_keeps s address bit rel x is h)
on_bit_keeps s Set address bit rel is there = reading_keeps s _ address _ is there (λ x h. branched_kept s _ rel is)
on_bit_keeps s Clear address bit rel is there = reading_keeps s _ address _ is there (λ x h. branched_kept s _ rel is)

counting_keeps : (s : ChipState) (address : Address) (rel : ℕ) → IsChipState s → IsAddress address → Gives Keeps (counting s address rel)
counting_keeps s address rel is there = updating_keeps s _ address _ is there (λ x h. branched_kept _ _ rel (write_kept s address _ is (omega arith)))

value_gives : (s : ChipState) (direct : ℕ) → IsChipState s → Gives (λ (x : ℕ). x < 256) (push_value s direct)
unfolding push_value
value_gives s direct is = if_gives (λ (x : ℕ). x < 256) (direct == 0x81) _ _
    (λ _. then_gives (λ (option : ℕ). option < 2) (λ (x : ℕ). x < 256) _ _ (ask_gives 2 (omega arith)) (λ option o. answer_gives (λ (x : ℕ). x < 256) _ (omega arith)))
    (λ _. read_gives s (direct_address direct) is (direct_is direct))

pushing_keeps : (s : ChipState) (direct : ℕ) → IsChipState s → Gives Keeps (pushing s direct)
unfolding pushing
pushing_keeps s direct is = then_gives (λ (x : ℕ). x < 256) Keeps _ _ (value_gives s direct is) (λ x h. answer_gives Keeps _ (pushed_kept s x is h))

popping_keeps : (s : ChipState) (direct : ℕ) → IsChipState s → Gives Keeps (popping s direct)
unfolding popping
popping_keeps s direct is = then_gives (λ (option : ℕ). option < 2) Keeps _ _ (ask_if_gives (direct == 0x81) 2 (omega arith)) (λ option o.
    answer_gives Keeps _ (write_kept (popped s) (direct_address direct) _ (popped_kept s is) (omega arith)))

byte_by : (image : List (Option ℕ)) (at : ℕ) → All IsByte image → (within : Bool) → ltb at (length image) ≡ within
    → IsByte (byte_at image at)
byte_by image at bytes true test = All-get_or IsByte image at None (ltb-true at (length image) test) bytes
byte_by image at bytes false test = let past : byte_at image at ≡ None = get_or_past image at None (ltb-false at (length image) test) in rw past tt

code_keeps : (image : List (Option ℕ)) (s : ChipState) (at : ℕ) → All IsByte image → IsChipState s → Gives Keeps (reading_code image s at)
unfolding reading_code
code_keeps image s at bytes is = then_gives (λ (x : ℕ). x < 256) Keeps _ _ (code_gives (byte_at image at) (byte_by image at bytes (ltb at (length image)) refl))
    (λ x h. answer_gives Keeps _ (set_a s x is h))

-- any address
at_gives : (s : ChipState) (external : External) → Gives (λ (at : ℕ). Unit {0}) (external_address s external)
unfolding external_address
at_gives s DataPointer = answer_gives (λ (at : ℕ). Unit {0}) _ tt
at_gives s (Indirect i) = then_gives (λ (high : ℕ). high < 256) (λ (at : ℕ). Unit {0}) _ _ (ask_gives 256 (omega arith)) (λ high h. answer_gives (λ (at : ℕ). Unit {0}) _ tt)

external_reads_keep : (s : ChipState) (external : External) → IsChipState s → Gives Keeps (reading_external s external)
unfolding reading_external
external_reads_keep s external is = then_gives (λ (at : ℕ). Unit {0}) Keeps _ _ (at_gives s external) (λ at _.
    then_gives (λ (x : ℕ). x < 256) Keeps _ _ (ask_gives 256 (omega arith)) (λ x h. answer_gives Keeps _ (set_a s x is h)))

external_writes_keep : (s : ChipState) (external : External) → IsChipState s → Gives Keeps (writing_external s external)
unfolding writing_external
external_writes_keep s external is = then_gives (λ (at : ℕ). Unit {0}) Keeps _ _ (at_gives s external) (λ at _. answer_gives Keeps _ is)

dividing_keeps : (s : ChipState) → IsChipState s → Gives Keeps (dividing s)
unfolding dividing
dividing_keeps s is = if_gives Keeps (s.b == 0) _ _
    (λ _. then_gives (λ (a : ℕ). a < 256) Keeps _ _ (ask_gives 256 (omega arith)) (λ a h.
    then_gives (λ (b : ℕ). b < 256) Keeps _ _ (ask_gives 256 (omega arith)) (λ b g. answer_gives Keeps _ (zero_kept s a b is h g))))
    (λ some. answer_gives Keeps ([], divided s) (divided_kept s is some))

exchanged_kept : (s : ChipState) (address : Address) (x : ℕ) → IsChipState s → x < 256 → IsChipState (exchanged_with s address x)
exchanged_kept s address x is h = set_a (write address s.a s) x (write_kept s address s.a is is.a) h

digits_kept : (s : ChipState) (address : Address) (x : ℕ) → IsChipState s → x < 256 → IsChipState (digit_exchanged_with s address x)
digits_kept s address x is h = let a = is.a in
    set_a (write address _ s) _ (write_kept s address (x / 16 * 16 + s.a % 16) is (omega (arith, h))) (omega (arith, a))

-- ---- instructions

effect_keeps : (image : List (Option ℕ)) (s : ChipState) (instr : Instr) → All IsByte image → AreFitting instr
    → IsChipState s → Gives Keeps (effect_of image s instr)
unfolding effect_of
effect_keeps image s Nop bytes fits is = implied_keeps s is
effect_keeps image s (AbsoluteJump target) bytes fits is = implied_keeps _ (set_pc s _ is (absolute_below s.pc target is.pc))
effect_keeps image s (LongJump target) bytes fits is = implied_keeps _ (set_pc s target is fits)
effect_keeps image s JumpIndirect bytes fits is = implied_keeps _ (set_pc s _ is (omega arith))
effect_keeps image s (JumpOn condition rel) bytes fits is = implied_keeps _ (branched_kept s _ rel is)
effect_keeps image s (JumpOnBit test bit rel) bytes fits is = on_bit_keeps s test (bit_address bit) bit rel is (bit_is bit)
effect_keeps image s (CompareJump (AccumulatorImmediate value) rel) bytes fits is = implied_keeps _ (compared_kept s s.a value rel is)
effect_keeps image s (CompareJump (AccumulatorDirect direct) rel) bytes fits is = reading_keeps s _ _ _ is (direct_is direct) (λ x h. compared_kept s s.a x rel is)
effect_keeps image s (CompareJump (WorkingImmediate w value) rel) bytes fits is = reading_keeps s _ _ _ is (working_is s w is) (λ x h. compared_kept s x value rel is)
effect_keeps image s (DecrementJump (counter.Direct direct) rel) bytes fits is = counting_keeps s _ rel is (direct_is direct)
effect_keeps image s (DecrementJump (counter.Register n) rel) bytes fits is = counting_keeps s _ rel is (working_is s (InRegister n) is)
effect_keeps image s (AbsoluteCall target) bytes fits is = answer_gives Keeps _ (called_kept s _ is (absolute_below s.pc target is.pc))
effect_keeps image s (LongCall target) bytes fits is = answer_gives Keeps _ (called_kept s target is fits)
effect_keeps image s Return bytes fits is = answer_gives Keeps _ (returned_kept s is)
effect_keeps image s ReturnFromInterrupt bytes fits is = answer_gives Keeps _ (level_kept (returned s) (returned_kept s is))
effect_keeps image s (ChangeAccumulator operation) bytes fits is = implied_keeps _ (changed_kept s operation is)
effect_keeps image s (Increment Accumulator) bytes fits is = implied_keeps _ (set_a s _ is (omega arith))
effect_keeps image s (Increment (InMemory m)) bytes fits is = changing_keeps s _ _ (λ x. (x + 1) % 256) is (address_is s m is) (λ x h. omega arith)
effect_keeps image s (Decrement Accumulator) bytes fits is = implied_keeps _ (set_a s _ is (omega arith))
effect_keeps image s (Decrement (InMemory m)) bytes fits is = changing_keeps s _ _ (λ x. (x + 255) % 256) is (address_is s m is) (λ x h. omega arith)
effect_keeps image s IncrementDataPointer bytes fits is = implied_keeps _ (set_pointer s _ is (omega arith))
effect_keeps image s (Accumulate operation (source.Immediate value)) bytes fits is = implied_keeps _ (accumulated_kept s operation value is fits)
effect_keeps image s (Accumulate operation (source.Memory m)) bytes fits is = reading_keeps s _ _ _ is (address_is s m is) (λ x h. accumulated_kept s operation x is h)
effect_keeps image s (DirectLogic operation direct mask.Accumulator) bytes fits is =
    changing_keeps s _ _ (λ x. masked operation x s.a) is (direct_is direct) (λ x h. masked_below operation x s.a h is.a)
effect_keeps image s (DirectLogic operation direct (mask.Immediate value)) bytes fits is =
    changing_keeps s _ _ (λ x. masked operation x value) is (direct_is direct) (λ x h. masked_below operation x value h fits)
effect_keeps image s Multiply bytes fits is = implied_keeps _ (multiplied_kept s is)
effect_keeps image s Divide bytes fits is = dividing_keeps s is
effect_keeps image s (ChangeCarry operation) bytes fits is = implied_keeps _ (carry_kept s _ is (carry_after_below operation _))
effect_keeps image s (CarryBit operation bit) bytes fits is =
    reading_keeps s _ _ _ is (bit_is bit) (λ x h. carry_kept s _ is (carry_with_below operation _ _ (carry_below s) (bit_at-lt x (bit % 8))))
effect_keeps image s (ChangeBit operation bit) bytes fits is =
    changing_keeps s _ _ (λ x. with_bit x (bit % 8) (bit_after operation (carry_of s) (bit_at x (bit % 8)))) is (bit_is bit)
    (λ x h. with_bit_below x bit _ h (bit_after_below operation _ _ (carry_below s)))
effect_keeps image s (MoveImmediate Accumulator value) bytes fits is = implied_keeps _ (set_a s value is fits)
effect_keeps image s (MoveImmediate (InMemory m) value) bytes fits is = writing_keeps s _ _ value is fits
effect_keeps image s (MoveToDirect to from) bytes fits is = moving_keeps s _ _ _ is (address_is s from is)
effect_keeps image s (MoveFromDirect to from) bytes fits is = moving_keeps s _ _ _ is (direct_is from)
effect_keeps image s (LoadDataPointer value) bytes fits is = implied_keeps _ (set_pointer s value is fits)
effect_keeps image s (Load m) bytes fits is = reading_keeps s _ _ _ is (address_is s m is) (λ x h. set_a s x is h)
effect_keeps image s (Store m) bytes fits is = writing_keeps s _ _ s.a is is.a
effect_keeps image s (MoveCode ProgramCounter) bytes fits is = code_keeps image s _ bytes is
effect_keeps image s (MoveCode AtDataPointer) bytes fits is = code_keeps image s _ bytes is
effect_keeps image s (ReadExternal external) bytes fits is = external_reads_keep s external is
effect_keeps image s (WriteExternal external) bytes fits is = external_writes_keep s external is
effect_keeps image s (Push direct) bytes fits is = pushing_keeps s direct is
effect_keeps image s (Pop direct) bytes fits is = popping_keeps s direct is
effect_keeps image s (Exchange m) bytes fits is = updating_keeps s _ _ _ is (address_is s m is) (λ x h. exchanged_kept s _ x is h)
effect_keeps image s (ExchangeDigit i) bytes fits is = updating_keeps s _ _ _ is (working_is s (At i) is) (λ x h. digits_kept s _ x is h)

-- ---- steps

abbrev pub KeepsForm : Outcome → Type 0
KeepsForm (Next items t) = IsChipState t
KeepsForm (Wild none) = Unit {0}

-- the instructions of an image are of the table
abbrev pub AreOfTable : List (Option ℕ) → ℕ → Type 0
AreOfTable image pc = (instr : Instr) (len : ℕ) → decoded image pc ≡ Ok (instr, len) → Row (bytes_of instr) instr

executed_keeps : (image : List (Option ℕ)) (s : ChipState) (instr : Instr) → All IsByte image → Row (bytes_of instr) instr → IsChipState s
    → Gives KeepsForm (executed image s instr)
unfolding executed
executed_keeps image s instr bytes row is = let next : IsChipState (going_to (following s.pc instr) s) = set_pc s (following s.pc instr) is (omega arith) in
    then_gives Keeps KeepsForm _ _ (effect_keeps image (going_to (following s.pc instr) s) instr bytes (operands_fit instr row) next) (λ effect h. answer_gives KeepsForm _ h)

run_keeps : (image : List (Option ℕ)) (s : ChipState) (found : Result (Instr × ℕ) NoInstr)
    → ((instr : Instr) (len : ℕ) → found ≡ Ok (instr, len) → Row (bytes_of instr) instr)
    → All IsByte image → IsChipState s → Gives KeepsForm (run image s found)
run_keeps image s (Ok (instr, len)) rows bytes is = executed_keeps image s instr bytes (rows instr len refl) is
run_keeps image s (Err none) rows bytes is = answer_gives KeepsForm _ tt

ranged : All (λ source. source < 6) (range_with_len 0 6)
ranged = λ at other inside.
    let below : at < 6 = rw (length-range_with_len 0 6) at inside in
    rw (get_or-range_with_len 0 6 at other below) (omega (arith, below))

all_six : (s : ChipState) → All (λ source. source < 6) (coming s)
unfolding coming
all_six s = All-filter (may_come s) (λ source. source < 6) (range_with_len 0 6) ranged

entered_keeps : (s : ChipState) (source : ℕ) → IsChipState s → source < 6 → KeepsForm (entered s source)
unfolding entered
entered_keeps s source is h = serving_kept (is_high s source) (called (vector_of source) s) (called_kept s (vector_of source) is (omega (arith, h)))

choose_keeps : (image : List (Option ℕ)) (s : ChipState) (option : ℕ) (none : Bool) → (option == 0) ≡ none
    → AreOfTable image s.pc → All IsByte image → IsChipState s
    → option < 1 + length (coming s)
    → Gives KeepsForm (cond none (run image s (decoded image s.pc)) (answer (entered s (slice_index (coming s) (option - 1)))))
choose_keeps image s option true e rows bytes is few = run_keeps image s (decoded image s.pc) rows bytes is
choose_keeps image s option false e rows bytes is few = answer_gives KeepsForm _ (entered_keeps s _ is
    (All-get_or (λ source. source < 6) (coming s) (option - 1) _ (grind (arith, nat_tests, e, few)) (all_six s)))

taken_keeps : (image : List (Option ℕ)) (s : ChipState) (option : ℕ) → AreOfTable image s.pc → All IsByte image
    → IsChipState s → option < 1 + length (coming s)
    → Gives KeepsForm (taken image s option)
taken_keeps image s option rows bytes is few = choose_keeps image s option (option == 0) refl rows bytes is few

pub step_keeps : (image : List (Option ℕ)) (s t : ChipState) (choices : List ℕ) (items : List Single) → All IsByte image
    → AreOfTable image s.pc → IsChipState s
    → step_of image s choices ≡ Some (Next items t, []) → IsChipState t
unfolding step_of
step_keeps image s t choices items bytes rows is e = (then_gives (λ (option : ℕ). option < 1 + length (coming s)) KeepsForm _ _
    (ask_if_gives (nat_lt 0 (length (coming s))) (1 + length (coming s)) (omega arith)) (λ option few. taken_keeps image s option rows bytes is few)).each choices [] (Next items t) e

-- ---- reset

first_is_state : IsChipState first_state
first_is_state =
    let wide : 0 < 65536 = omega arith in
    let zero : 0 < 256 = omega arith in
    let seven : 7 < 256 = omega arith in
    let few : 0 < 64 = omega arith in
    let held : ◌≡◌ {A = ℕ} 0 0 = refl in
    let ram : length (first_state.ram) ≡ 256 = grind (arith, common_steps) in
    let bytes : All (λ b. b < 256) first_state.ram = All-replicate (λ b. b < 256) 256 0 zero in
    assumption (wide, zero, seven, few, held, ram, bytes)

pub first_is_reset : IsReset first_state
first_is_reset = record { state = first_is_state; registers = refl }
