-- One step of the MSP430: an instruction, or the entry of an interrupt (SLAU049, chapter 3). The questions of a step come in
-- this order: which interrupt comes, if any; which of two orders or addresses; free bytes as they are read, the low one
-- first; the bits of SR that nothing holds; a free high byte or result; free flags.
use Rattle.std.specs.Prelude.{◌≡◌, ℕ, ◌+◌, ◌-◌, ◌*◌, ◌/◌, ◌%◌, ◌==◌, ◌&&◌, ◌||◌, not, nat_lt, if◌then◌else◌, Bool, true, false, Option, None, Some, Result, Ok, Err, List, [], ◌∷◌, ◌++◌, length, slice_index, slice_set}
use Rattle.chip_numbers.specs.declared.space.Space.TheVariants.{Mem}
use Rattle.chip_numbers.specs.Single.{Single}
use Rattle.chip_numbers.specs.Single.Single.{Instr as Ran, Edge, Access, Stack}
use Rattle.msp430_decode.specs.declared.instr.Register.TheVariants.{Pc, Sp}
use Rattle.msp430_decode.specs.declared.instr.Width.{Width}
use Rattle.msp430_decode.specs.declared.instr.Width.TheVariants.{Word, Byte}
use Rattle.msp430_decode.specs.declared.instr.Source.{Source}
use Rattle.msp430_decode.specs.declared.instr.Source.TheVariants as source
use Rattle.msp430_decode.specs.declared.instr.Destination.{Destination}
use Rattle.msp430_decode.specs.declared.instr.Destination.TheVariants as destination
use Rattle.msp430_decode.specs.declared.instr.Operation.{Operation}
use Rattle.msp430_decode.specs.declared.instr.SingleOperation.{SingleOperation}
use Rattle.msp430_decode.specs.declared.instr.SingleOperation.TheVariants.{Push, Call}
use Rattle.msp430_decode.specs.declared.instr.Condition.{Condition}
use Rattle.msp430_decode.specs.declared.instr.Condition.TheVariants.{NotEqual, Equal, NoCarry, Carry, Negative, GreaterOrEqual, Less, Always}
use Rattle.msp430_decode.specs.declared.instr.Instr.{Instr}
use Rattle.msp430_decode.specs.declared.instr.Instr.TheVariants.{Double, Single as OneOperand, Jump, ReturnFromInterrupt}
use Rattle.msp430_decode.specs.declared.refusal.NoInstr.{NoInstr as ANoInstr}
use Rattle.msp430_decode.specs.Decoding.{decoded}
use Rattle.msp430_decode.specs.Table.{bytes_of, target_of}
use Rattle.msp430_chip.specs.declared.device.Device.{Device}
use Rattle.msp430_chip.specs.declared.place.Flags.{Flags}
use Rattle.msp430_chip.specs.declared.place.Place.{Place}
use Rattle.msp430_chip.specs.declared.place.Place.TheVariants.{InRegister, InMemory, Fixed}
use Rattle.msp430_chip.specs.declared.state.ChipState.{ChipState}
use Rattle.msp430_chip.specs.declared.state.Wild.TheVariants.{NoInstr, Store}
use Rattle.msp430_chip.specs.Arithmetic.{result_of, single_result, sets_flags, single_sets_flags, writes_result, reads_destination, with_made_flags}
use Rattle.choosing.specs.Asking.{Asking, answer, ask, ask_if, and_then, ◌>>=◌}
use Rattle.msp430_chip.specs.Interrupts.{coming, enter}
use Rattle.msp430_chip.specs.Memory.{aligned, read_word, with_stored, program_hit}
use Rattle.msp430_chip.specs.Operands.{with_register, grown, source_place, destination_place, value_at, is_status, has_free_bits, with_free_bits, access_to}
use Rattle.msp430_chip.specs.Outcome.{Outcome, unless_hit}
use Rattle.choosing.specs.Outcome.Outcome.{Wild}
use Rattle.msp430_chip.specs.State.{even, register_of, allows_interrupts}

-- WHAT AN INSTRUCTION LEAVES

-- registers, RAM and the lowest byte of the program that a store would write, if any
pub record Left : Type 0 where
  pub registers : List ℕ
  pub ram : List ℕ
  pub hit : Option ℕ

-- a value written to a place
abbrev pub put : Device → List ℕ → List ℕ → Width → Place → ℕ → Left
put device registers ram width (InRegister register) value = record { registers = with_register registers register value; ram = ram; hit = None }
put device registers ram width (InMemory address) value =
    record { registers = registers; ram = with_stored device ram width address value; hit = program_hit device width address }
put device registers ram width (Fixed number) value = record { registers = registers; ram = ram; hit = None }

abbrev pub put_if : Bool → Device → List ℕ → List ℕ → Width → Place → ℕ → Left
put_if true device registers ram width place value = put device registers ram width place value
put_if false device registers ram width place value = record { registers = registers; ram = ram; hit = None }

-- flags in SR
abbrev pub with_status : Option Flags → Left → Left
with_status flags left = record {
  registers = slice_set left.registers 2 (with_made_flags (slice_index left.registers 2) flags);
  ram = left.ram;
  hit = left.hit;
}

-- The end of an instruction. The bit `late` behind it is GIE as it stood before it: an interrupt may so come at one more
-- boundary, behind an instruction that clears GIE.
abbrev pub done : ChipState → Instr → List Single → Left → Outcome ChipState
done s instr accesses left =
    let pc = register_of s 0 in
    unless_hit Store left.hit
    (Stack pc (register_of s 1) ∷ Ran pc (bytes_of instr) ∷ accesses ++ Edge pc (slice_index left.registers 0) ∷ [])
    (record { registers = left.registers; ram = left.ram; late = allows_interrupts s })

-- TWO OPERANDS

-- PC as an operand is the address behind the whole instruction
abbrev pub behind : ChipState → ℕ → ℕ
behind s len = (register_of s 0 + len) % 65536

-- with a destination in memory it may also be the one in front of the last word
abbrev pub reads_counter : Source → Destination → Bool
reads_counter (source.Register Pc) (destination.Register register) = false
reads_counter (source.Register Pc) other = true
reads_counter other place = false

abbrev pub counter : ChipState → ℕ → Source → Destination → Asking ℕ
counter s len source destination choices =
    if reads_counter source destination then and_then (ask 2) (λ option. answer ((register_of s 0 + 2 + 2 * option) % 65536)) choices
    else Some (behind s len, choices)

-- what the destination held, where the operation reads it
abbrev pub destination_value : Device → List ℕ → List ℕ → Operation → Width → Place → Asking ℕ
destination_value device ram registers operation width place choices =
    if reads_destination operation then value_at device ram registers width place choices else Some (0, choices)

abbrev pub status_bits : Operation → Width → Place → Place → Asking ℕ
status_bits operation width origin place =
    ask_if (has_free_bits width origin || (reads_destination operation && has_free_bits width place)) 128

-- the result of the values x and y, in its place, and the flags; an instruction that sets flags leaves SR as a destination free
unfoldable pub double_left : Device → List ℕ → List ℕ → Operation → Width → Place → (x y carry : ℕ) → Asking Left
double_left device ram registers operation width place x y carry choices =
    if sets_flags operation && is_status place then
    and_then (ask 512) (λ status. answer (record { registers = slice_set registers 2 status; ram = ram; hit = None })) choices
    else and_then (result_of operation width x y carry) (λ made.
    answer (with_status made.1 (put_if (writes_result operation) device registers ram width place made.0))) choices

abbrev pub reads_if : Bool → Device → ℕ → Width → Place → List Single
reads_if true device pc width place = access_to device pc false width place
reads_if false device pc width place = []

abbrev pub writes_if : Bool → Device → ℕ → Width → Place → List Single
writes_if true device pc width place = access_to device pc true width place
writes_if false device pc width place = []

-- the source is read, then the destination, and then it is written
abbrev pub double_accesses : Device → ℕ → Operation → Width → Place → Place → List Single
double_accesses device pc operation width origin place =
    access_to device pc false width origin ++ reads_if (reads_destination operation) device pc width place
    ++ writes_if (writes_result operation) device pc width place

-- As MOV @R5+,0(R5) with 0200h in R5: the word at 0200h is read, R5 is then 0202h, and so the word is written at 0202h.
unfoldable pub double : Device → ChipState → ℕ → Operation → Width → Source → Destination → Asking (Outcome ChipState)
double device s len operation width source destination = do
  let pc = register_of s 0
  counted ← counter s len source destination
  let at_source = slice_set s.registers 0 counted
  let origin = source_place pc at_source source
  let behind_source = grown at_source width source
  let place = destination_place pc len behind_source destination
  x ← value_at device s.ram at_source width origin
  y ← destination_value device s.ram behind_source operation width place
  bits ← status_bits operation width origin place
  let at_write = slice_set behind_source 0 (behind s len)
  let first = with_free_bits width origin bits x
  let second = with_free_bits width place bits y
  left ← double_left device s.ram at_write operation width place first second (register_of s 2 % 2)
  answer (done s (Double operation width source destination) (double_accesses device pc operation width origin place) left)

-- ONE OPERAND

-- the result of the value x, in its place, and the flags
unfoldable pub single_left : Device → List ℕ → List ℕ → SingleOperation → Width → Place → (x carry : ℕ) → Asking Left
single_left device ram registers operation width place x carry choices =
    if single_sets_flags operation && is_status place then
    and_then (ask 512) (λ status. answer (record { registers = slice_set registers 2 status; ram = ram; hit = None })) choices
    else and_then (single_result operation width x carry) (λ made.
    answer (with_status made.1 (put device registers ram width place made.0))) choices

-- RRC, SWPB, RRA and SXT. As RRA @R5+ with 0200h in R5: the word at 0200h is read, R5 is then 0202h, and the result is written
-- at 0200h.
unfoldable pub single : Device → ChipState → ℕ → SingleOperation → Width → Source → Asking (Outcome ChipState)
single device s len operation width operand = do
  let pc = register_of s 0
  let at_operand = slice_set s.registers 0 (behind s len)
  let place = source_place pc at_operand operand
  let behind_operand = grown at_operand width operand
  x ← value_at device s.ram at_operand width place
  bits ← ask_if (has_free_bits width place) 128
  let value = with_free_bits width place bits x
  left ← single_left device s.ram behind_operand operation width place value (register_of s 2 % 2)
  answer (done s (OneOperand operation width operand) (access_to device pc false width place ++ access_to device pc true width place) left)

-- PUSH AND CALL

-- an operand that is formed by SP, without growth, is formed before or after SP is lowered
abbrev pub is_formed_by_stack : Source → Bool
is_formed_by_stack (source.Register Sp) = true
is_formed_by_stack (source.Indexed Sp offset) = true
is_formed_by_stack (source.Indirect Sp) = true
is_formed_by_stack other = false

abbrev pub lowered : ℕ → ℕ
lowered sp = (sp + 65534) % 65536

abbrev pub with_lowered : ℕ → List ℕ → List ℕ
with_lowered option registers = if option == 1 then slice_set registers 1 (lowered (slice_index registers 1)) else registers

-- PUSH.B leaves the high byte of the word free
abbrev pub pushed_word : Width → ℕ → Asking ℕ
pushed_word Word x = answer x
pushed_word Byte x = and_then (ask 256) (λ high. answer (x + 256 * high))

-- a word pushed below SP
abbrev pub pushed : Device → List ℕ → List ℕ → ℕ → Left
pushed device registers ram word = let sp = lowered (slice_index registers 1) in
    put device (slice_set registers 1 sp) ram Word (InMemory sp) word

-- PUSH pushes the value, and CALL the address behind it and goes to the value
unfoldable pub push_left : Device → List ℕ → List ℕ → SingleOperation → Width → (x next : ℕ) → Asking Left
push_left device ram registers Call width x next =
    answer (pushed device (slice_set registers 0 (even x)) ram next)
push_left device ram registers other width x next =
    and_then (pushed_word width x) (λ word. answer (pushed device registers ram word))

-- As PUSH @SP+ with 0280h in SP: the word at 0280h is read, SP is then 0282h, and the word is written at 0280h. As PUSH @SP,
-- which forms its operand before or after SP is lowered: the word at 0280h or at 027Eh is read, and written at 027Eh.
unfoldable pub push : Device → ChipState → ℕ → SingleOperation → Width → Source → Asking (Outcome ChipState)
push device s len operation width operand = do
  let pc = register_of s 0
  let before = slice_set s.registers 0 (behind s len)
  option ← ask_if (is_formed_by_stack operand) 2
  let at_operand = with_lowered option before
  let place = source_place pc at_operand operand
  let at_push = grown before width operand
  x ← value_at device s.ram at_operand width place
  bits ← ask_if (has_free_bits width place) 128
  let value = with_free_bits width place bits x
  left ← push_left device s.ram at_push operation width value (behind s len)
  let slot = InMemory (lowered (slice_index at_push 1))
  answer (done s (OneOperand operation width operand) (access_to device pc false width place ++ access_to device pc true Word slot) left)

abbrev pub one_operand : Device → ChipState → ℕ → SingleOperation → Width → Source → Asking (Outcome ChipState)
one_operand device s len Push width operand = push device s len Push width operand
one_operand device s len Call width operand = push device s len Call width operand
one_operand device s len operation width operand = single device s len operation width operand

-- JUMPS AND RETURNS

-- a jump is taken by C, Z, N and V, the bits 0, 1, 2 and 8 of SR
abbrev pub is_taken : Condition → ℕ → Bool
is_taken NotEqual status = status / 2 % 2 == 0
is_taken Equal status = status / 2 % 2 == 1
is_taken NoCarry status = status % 2 == 0
is_taken Carry status = status % 2 == 1
is_taken Negative status = status / 4 % 2 == 1
is_taken GreaterOrEqual status = status / 4 % 2 == status / 256 % 2
is_taken Less status = not (status / 4 % 2 == status / 256 % 2)
is_taken Always status = true

unfoldable pub jump : ChipState → Condition → ℕ → Outcome ChipState
jump s condition offset =
    let next = if is_taken condition (register_of s 2) then target_of (register_of s 0) offset else behind s 2 in
    done s (Jump condition offset) [] (record { registers = slice_set s.registers 0 next; ram = s.ram; hit = None })

-- RETI takes SR from the stack, and then PC
abbrev pub returned : Device → ChipState → (status target : ℕ) → Outcome ChipState
returned device s status target =
    let pc = register_of s 0 in
    let sp = register_of s 1 in
    let first = aligned device Word sp in
    let second = aligned device Word ((sp + 2) % 65536) in
    done s ReturnFromInterrupt (Access pc Mem false 2 first ∷ Access pc Mem false 2 second ∷ []) (record {
      registers = slice_set (slice_set (slice_set s.registers 0 (even target)) 1 ((sp + 4) % 65536)) 2 (status % 512);
      ram = s.ram;
      hit = None;
    })

unfoldable pub return : Device → ChipState → Asking (Outcome ChipState)
return device s = do
  status ← read_word device s.ram (register_of s 1)
  target ← read_word device s.ram ((register_of s 1 + 2) % 65536)
  answer (returned device s status target)

-- STEPS

abbrev pub executed : Device → ChipState → Instr → ℕ → Asking (Outcome ChipState)
executed device s (Double operation width source destination) len = double device s len operation width source destination
executed device s (OneOperand operation width operand) len = one_operand device s len operation width operand
executed device s (Jump condition offset) len = answer (jump s condition offset)
executed device s ReturnFromInterrupt len = return device s

-- the instruction that stands at PC runs; where none stands, the state leaves the model
abbrev pub run : Device → ChipState → Result (Instr × ℕ) ANoInstr → Asking (Outcome ChipState)
run device s (Ok (instr, len)) = executed device s instr len
run device s (Err none) = answer (Wild (NoInstr none))

-- option 0 is no interrupt, and the others are those that may come
abbrev pub taken : Device → ChipState → List ℕ → ℕ → Asking (Outcome ChipState)
taken device s vectors option =
    if option == 0 then run device s (decoded device.image (register_of s 0))
    else enter device s (slice_index vectors (option - 1))

-- which of the interrupts that may come does so: where none may, nothing is asked
abbrev pub interrupt_option : Device → ChipState → Asking ℕ
interrupt_option device s = ask_if (nat_lt 0 (length (coming device s))) (1 + length (coming device s))

-- one step from a state
unfoldable pub step_of : Device → ChipState → Asking (Outcome ChipState)
step_of device s = do
  option ← interrupt_option device s
  taken device s (coming device s) option

-- a state may lead to an outcome by these choices, which are as many as it asks
abbrev pub Step : Device → ChipState → List ℕ → Outcome ChipState → Type 0
Step device s choices outcome = step_of device s choices ≡ Some (outcome, [])
