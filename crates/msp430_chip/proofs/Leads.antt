-- A step by any choices leads to what the relations without choices say.
use Rattle.std.proofs.Common.{◌≡◌, ℕ, ◌+◌, ◌-◌, ◌*◌, ◌%◌, ◌<◌, ◌==◌, ◌&&◌, ◌||◌, nat_lt, Bool, true, false, cond, List, Option, None, Some, Result, Ok, Err, length, slice_index, slice_set, refl, arith}
use Rattle.std.specs.Prelude.{Contains}
use Rattle.std.proofs.lemmas.Bool.Decides.{nat_tests}
use Rattle.std.proofs.lemmas.List.Elements.{Contains-get_or}
use Rattle.image.specs.Image.{byte_at}
use Rattle.chip_numbers.specs.Numbers.{is_decimal}
use Rattle.msp430_decode.specs.declared.instr.Width.{Width}
use Rattle.msp430_decode.specs.declared.instr.Width.TheVariants.{Word, Byte}
use Rattle.msp430_decode.specs.declared.instr.Source.{Source}
use Rattle.msp430_decode.specs.declared.instr.Destination.{Destination}
use Rattle.msp430_decode.specs.declared.instr.Operation.{Operation}
use Rattle.msp430_decode.specs.declared.instr.Operation.TheVariants.{Dadd}
use Rattle.msp430_decode.specs.declared.instr.SingleOperation.{SingleOperation}
use Rattle.msp430_decode.specs.declared.instr.SingleOperation.TheVariants.{Rrc, Push, Call}
use Rattle.msp430_decode.specs.declared.instr.Instr.{Instr}
use Rattle.msp430_decode.specs.declared.instr.Instr.TheVariants.{Double, Single as OneOperand, Jump, ReturnFromInterrupt}
use Rattle.msp430_decode.specs.declared.refusal.NoInstr.{NoInstr}
use Rattle.msp430_decode.specs.Decoding.{decoded}
use Rattle.msp430_decode.specs.Standing.{Decodes}
use Rattle.choosing.specs.Asking.{IsOption, answer, ask, and_then}
use Rattle.choosing.specs.Gives.{Gives, answer_gives, ask_gives, if_gives, option_gives, then_gives, weaken}
use Rattle.msp430_chip.specs.declared.device.Device.{Device}
use Rattle.msp430_chip.specs.declared.place.Place.{Place}
use Rattle.msp430_chip.specs.declared.place.Place.TheVariants.{InRegister, InMemory, Fixed}
use Rattle.msp430_chip.specs.declared.state.ChipState.{ChipState}
use Rattle.msp430_chip.specs.Arithmetic.{any_flags, decimal, digits_of, modulus, result_of, rotated, single_result, sets_flags, single_sets_flags, reads_destination}
use Rattle.msp430_chip.specs.Interrupts.{coming, enter}
use Rattle.msp430_chip.specs.Memory.{aligned, is_ram, read, read_byte, read_outside, read_word}
use Rattle.msp430_chip.specs.Operands.{value_at, is_status, has_free_bits, with_free_bits}
use Rattle.msp430_chip.specs.State.{register_of}
use Rattle.msp430_chip.specs.Step.{Left, behind, counter, reads_counter, destination_value, double_left, double, single_left, single, is_formed_by_stack, pushed, pushed_word, push_left, push, one_operand, return, executed, run, step_of, with_lowered}
use Rattle.msp430_chip.specs.Leading.{MayReadByte, MayReadWord, MayRead, MayStandAt, MayStandIf, MayCount, MayMakeDecimal, MayMake, MayMakeSingle, LeavesFree, MayLeaveDouble, MayDouble, MayLeaveSingle, MaySingle, MayPushWord, MayLeavePush, MayPush, MayReturn, MayRunSingle, MayRun, MayLead, at_source, behind_source, origin_of, place_of, pushed_place}
use Rattle.msp430_chip.specs.Leading.MayReadByte.{OfRam, OfProgram, OfNeither}
use Rattle.msp430_chip.specs.Leading.MayCount.{Behind, Within}
use Rattle.msp430_chip.specs.Leading.MayMakeDecimal.{Decimal, NotDecimal}
use Rattle.msp430_chip.specs.Leading.MayLeaveDouble.{FreeStatus as DoubleFree, OfResult as DoubleResult}
use Rattle.msp430_chip.specs.Leading.MayLeaveSingle.{FreeStatus as SingleFree, OfResult as SingleResult}
use Rattle.msp430_chip.specs.Leading.MayLead.{Enters, Runs, NoneStands}
use Rattle.msp430_chip.proofs.Results.{modulus_some}

-- ---- memory and operands

outside_leads : (device : Device) (ram : List ℕ) (at : ℕ) (found : Option ℕ) → is_ram device at ≡ false → byte_at device.image at ≡ found
    → Gives (MayReadByte device ram at) (read_outside found)
outside_leads device ram at None other is = weaken (λ (b : ℕ). b < 256) (MayReadByte device ram at) (ask 256) (λ b below. OfNeither other is below) (ask_gives 256 (omega arith))
outside_leads device ram at (Some b) other is = answer_gives (MayReadByte device ram at) b (OfProgram other is)

byte_leads : (device : Device) (ram : List ℕ) (at : ℕ) → Gives (MayReadByte device ram at) (read_byte device ram at)
unfolding read_byte
byte_leads device ram at = if_gives (MayReadByte device ram at) (is_ram device at) (answer (slice_index ram (at - device.ram.lo))) (read_outside (byte_at device.image at))
    (λ here. answer_gives (MayReadByte device ram at) _ (OfRam here refl))
    (λ other. outside_leads device ram at (byte_at device.image at) other refl)

word_leads : (device : Device) (ram : List ℕ) (at : ℕ) → Gives (MayReadWord device ram at) (read_word device ram at)
unfolding read_word
word_leads device ram at =
    let first = aligned device Word at in
    then_gives (MayReadByte device ram first) (MayReadWord device ram at) _ _ (byte_leads device ram first) (λ low l.
    then_gives (MayReadByte device ram (first + 1)) (MayReadWord device ram at) _ _ (byte_leads device ram (first + 1)) (λ high h.
    answer_gives (MayReadWord device ram at) (low + 256 * high) (record { low = low; high = high; reads_low = l; reads_high = h; word_is = refl })))

read_leads : (device : Device) (ram : List ℕ) (width : Width) (at : ℕ) → Gives (MayRead device ram width at) (read device ram width at)
read_leads device ram Word at = word_leads device ram at
read_leads device ram Byte at = byte_leads device ram (aligned device Byte at)

at_leads : (device : Device) (ram registers : List ℕ) (width : Width) (place : Place)
    → Gives (MayStandAt device ram registers width place) (value_at device ram registers width place)
at_leads device ram registers width (InRegister register) = answer_gives (MayStandAt device ram registers width (InRegister register)) _ refl
at_leads device ram registers width (InMemory address) = read_leads device ram width address
at_leads device ram registers width (Fixed value) = answer_gives (MayStandAt device ram registers width (Fixed value)) _ refl

target_by : (device : Device) (ram registers : List ℕ) (reads : Bool) (width : Width) (place : Place)
    → Gives (MayStandIf reads device ram registers width place) (λ choices. cond reads (value_at device ram registers width place choices) (Some (0, choices)))
target_by device ram registers true width place = at_leads device ram registers width place
target_by device ram registers false width place = answer_gives (MayStandIf false device ram registers width place) 0 refl

target_leads : (device : Device) (ram registers : List ℕ) (operation : Operation) (width : Width) (place : Place)
    → Gives (MayStandIf (reads_destination operation) device ram registers width place) (destination_value device ram registers operation width place)
target_leads device ram registers operation width place = target_by device ram registers (reads_destination operation) width place

counter_leads : (s : ChipState) (len : ℕ) (source : Source) (destination : Destination)
    → Gives (MayCount s len source destination) (counter s len source destination)
counter_leads s len source destination = if_gives (MayCount s len source destination) (reads_counter source destination) _ (answer (behind s len))
    (λ is. then_gives (λ (option : ℕ). option < 2) (MayCount s len source destination) _ _ (ask_gives 2 (omega arith)) (λ option h.
    answer_gives (MayCount s len source destination) _ (Within is option h refl)))
    (λ is. answer_gives (MayCount s len source destination) _ (Behind is refl))

-- ---- results

decimal_leads : (width : Width) (x y carry : ℕ) → Gives (MayMakeDecimal width x y carry) (decimal width x y carry)
unfolding decimal
decimal_leads width x y carry = if_gives (MayMakeDecimal width x y carry) (is_decimal (digits_of width) x && is_decimal (digits_of width) y) _ _
    (λ are. then_gives (λ (o : ℕ). o < 2) (MayMakeDecimal width x y carry) _ _ (ask_gives 2 (omega arith)) (λ overflow o.
    answer_gives (MayMakeDecimal width x y carry) _ (Decimal are (overflow == 1) refl)))
    (λ are. then_gives (λ (r : ℕ). r < modulus width) (MayMakeDecimal width x y carry) _ _ (ask_gives (modulus width) (modulus_some width)) (λ result r.
    then_gives (λ (o : ℕ). o < 16) (MayMakeDecimal width x y carry) _ _ (ask_gives 16 (omega arith)) (λ option o.
    answer_gives (MayMakeDecimal width x y carry) _ (NotDecimal are result r (any_flags option) refl))))

result_leads : (operation : Operation) (width : Width) (x y carry : ℕ)
    → Gives (MayMake operation width x y carry) (result_of operation width x y carry)
result_leads Dadd width x y carry = decimal_leads width y x carry
result_leads other width x y carry = answer_gives (MayMake other width x y carry) _ refl

rotated_leads : (width : Width) (x carry : ℕ) → Gives (MayMakeSingle Rrc width x carry) (rotated width x carry)
unfolding rotated
rotated_leads width x carry = then_gives (λ (o : ℕ). o < 2) (MayMakeSingle Rrc width x carry) _ _ (ask_gives 2 (omega arith)) (λ overflow o.
    answer_gives (MayMakeSingle Rrc width x carry) _ (overflow == 1, refl))

single_result_leads : (operation : SingleOperation) (width : Width) (x carry : ℕ)
    → Gives (MayMakeSingle operation width x carry) (single_result operation width x carry)
single_result_leads Rrc width x carry = rotated_leads width x carry
single_result_leads other width x carry = answer_gives (MayMakeSingle other width x carry) _ refl

free_status_leads : (registers ram : List ℕ)
    → Gives (LeavesFree registers ram) (and_then (ask 512) (λ status. answer (record { registers = slice_set registers 2 status; ram = ram; hit = None })))
free_status_leads registers ram = then_gives (λ (o : ℕ). o < 512) (LeavesFree registers ram) _ _ (ask_gives 512 (omega arith)) (λ status h.
    answer_gives (LeavesFree registers ram) _ (record { status = status; below = h; left_is = refl }))

-- ---- two operands

double_left_leads : (device : Device) (ram registers : List ℕ) (operation : Operation) (width : Width) (place : Place) (x y carry : ℕ)
    → Gives (MayLeaveDouble device ram registers operation width place x y carry) (double_left device ram registers operation width place x y carry)
unfolding double_left
double_left_leads device ram registers operation width place x y carry =
    let P = MayLeaveDouble device ram registers operation width place x y carry in
    if_gives P (sets_flags operation && is_status place) _ _
    (λ is. weaken (LeavesFree registers ram) P _ (λ left free. DoubleFree is free) (free_status_leads registers ram))
    (λ is. then_gives (MayMake operation width x y carry) P _ _ (result_leads operation width x y carry) (λ made_so makes.
    answer_gives P _ (DoubleResult is made_so makes refl)))

double_leads : (device : Device) (s : ChipState) (len : ℕ) (operation : Operation) (width : Width) (source : Source) (destination : Destination)
    → Gives (MayDouble device s len operation width source destination) (double device s len operation width source destination)
unfolding double
double_leads device s len operation width source destination =
    let Q = MayDouble device s len operation width source destination in
    then_gives (MayCount s len source destination) Q _ _ (counter_leads s len source destination) (λ counted counts.
    let origin = origin_of s counted source in
    let place = place_of s len counted width source destination in
    then_gives (MayStandAt device s.ram (at_source s counted) width origin) Q _ _ (at_leads device s.ram (at_source s counted) width origin) (λ x reads.
    then_gives (MayStandIf (reads_destination operation) device s.ram (behind_source s counted width source) width place) Q _ _
    (target_leads device s.ram (behind_source s counted width source) operation width place) (λ y held.
    let asked = has_free_bits width origin || (reads_destination operation && has_free_bits width place) in
    then_gives (IsOption asked 128) Q _ _ (option_gives asked 128 (omega arith)) (λ bits free.
    then_gives (MayLeaveDouble device s.ram (slice_set (behind_source s counted width source) 0 (behind s len)) operation width place
    (with_free_bits width origin bits x) (with_free_bits width place bits y) (register_of s 2 % 2)) Q _ _
    (double_left_leads device s.ram (slice_set (behind_source s counted width source) 0 (behind s len)) operation width place
    (with_free_bits width origin bits x) (with_free_bits width place bits y) (register_of s 2 % 2)) (λ left leaves.
    answer_gives Q _ (record {
      counted = counted;
      x = x;
      y = y;
      bits = bits;
      left = left;
      counts = counts;
      reads = reads;
      held = held;
      free = free;
      leaves = leaves;
      outcome_is = refl;
    }))))))

-- ---- one operand

single_left_leads : (device : Device) (ram registers : List ℕ) (operation : SingleOperation) (width : Width) (place : Place) (x carry : ℕ)
    → Gives (MayLeaveSingle device ram registers operation width place x carry) (single_left device ram registers operation width place x carry)
unfolding single_left
single_left_leads device ram registers operation width place x carry =
    let P = MayLeaveSingle device ram registers operation width place x carry in
    if_gives P (single_sets_flags operation && is_status place) _ _
    (λ is. weaken (LeavesFree registers ram) P _ (λ left free. SingleFree is free) (free_status_leads registers ram))
    (λ is. then_gives (MayMakeSingle operation width x carry) P _ _ (single_result_leads operation width x carry) (λ made_so makes.
    answer_gives P _ (SingleResult is made_so makes refl)))

single_leads : (device : Device) (s : ChipState) (len : ℕ) (operation : SingleOperation) (width : Width) (operand : Source)
    → Gives (MaySingle device s len operation width operand) (single device s len operation width operand)
unfolding single
single_leads device s len operation width operand =
    let Q = MaySingle device s len operation width operand in
    let place = origin_of s (behind s len) operand in
    then_gives (MayStandAt device s.ram (at_source s (behind s len)) width place) Q _ _ (at_leads device s.ram (at_source s (behind s len)) width place) (λ x reads.
    then_gives (IsOption (has_free_bits width place) 128) Q _ _ (option_gives (has_free_bits width place) 128 (omega arith)) (λ bits free.
    then_gives (MayLeaveSingle device s.ram (behind_source s (behind s len) width operand) operation width place (with_free_bits width place bits x) (register_of s 2 % 2)) Q _ _
    (single_left_leads device s.ram (behind_source s (behind s len) width operand) operation width place (with_free_bits width place bits x) (register_of s 2 % 2)) (λ left leaves.
    answer_gives Q _ (record { x = x; bits = bits; left = left; reads = reads; free = free; leaves = leaves; outcome_is = refl }))))

-- ---- PUSH, CALL and RETI

pushed_leads : (width : Width) (x : ℕ) → Gives (MayPushWord width x) (pushed_word width x)
pushed_leads Word x = answer_gives (MayPushWord Word x) x refl
pushed_leads Byte x = then_gives (λ (h : ℕ). h < 256) (MayPushWord Byte x) _ _ (ask_gives 256 (omega arith)) (λ high h. answer_gives (MayPushWord Byte x) _ (high, h, refl))

abbrev LeavesWord : Device → List ℕ → List ℕ → Width → ℕ → Left → Type 0
LeavesWord device ram registers width x left = (word : ℕ) × MayPushWord width x word × (left ≡ pushed device registers ram word)

plain_push_leads : (device : Device) (ram registers : List ℕ) (width : Width) (x : ℕ)
    → Gives (LeavesWord device ram registers width x) (and_then (pushed_word width x) (λ word. answer (pushed device registers ram word)))
plain_push_leads device ram registers width x = then_gives (MayPushWord width x) (LeavesWord device ram registers width x) _ _ (pushed_leads width x) (λ word is.
    answer_gives (LeavesWord device ram registers width x) _ (word, is, refl))

push_left_leads : (device : Device) (ram registers : List ℕ) (operation : SingleOperation) (width : Width) (x next : ℕ)
    → Gives (MayLeavePush device ram registers operation width x next) (push_left device ram registers operation width x next)
unfolding push_left
push_left_leads device ram registers Call width x next = answer_gives (MayLeavePush device ram registers Call width x next) _ refl
push_left_leads device ram registers other width x next = plain_push_leads device ram registers width x

push_leads : (device : Device) (s : ChipState) (len : ℕ) (operation : SingleOperation) (width : Width) (operand : Source)
    → Gives (MayPush device s len operation width operand) (push device s len operation width operand)
unfolding push
push_leads device s len operation width operand =
    let Q = MayPush device s len operation width operand in
    then_gives (IsOption (is_formed_by_stack operand) 2) Q _ _ (option_gives (is_formed_by_stack operand) 2 (omega arith)) (λ option formed.
    let forming = with_lowered option (at_source s (behind s len)) in
    let place = pushed_place s len option operand in
    then_gives (MayStandAt device s.ram forming width place) Q _ _ (at_leads device s.ram forming width place) (λ x reads.
    then_gives (IsOption (has_free_bits width place) 128) Q _ _ (option_gives (has_free_bits width place) 128 (omega arith)) (λ bits free.
    then_gives (MayLeavePush device s.ram (behind_source s (behind s len) width operand) operation width (with_free_bits width place bits x) (behind s len)) Q _ _
    (push_left_leads device s.ram (behind_source s (behind s len) width operand) operation width (with_free_bits width place bits x) (behind s len)) (λ left leaves.
    answer_gives Q _ (record { option = option; x = x; bits = bits; left = left; formed = formed; reads = reads; free = free; leaves = leaves; outcome_is = refl })))))

return_leads : (device : Device) (s : ChipState) → Gives (MayReturn device s) (return device s)
unfolding return
return_leads device s =
    then_gives (MayReadWord device s.ram (register_of s 1)) (MayReturn device s) _ _ (word_leads device s.ram (register_of s 1)) (λ status first.
    then_gives (MayReadWord device s.ram ((register_of s 1 + 2) % 65536)) (MayReturn device s) _ _ (word_leads device s.ram ((register_of s 1 + 2) % 65536)) (λ target second.
    answer_gives (MayReturn device s) _ (record { status = status; target = target; reads_status = first; reads_target = second; outcome_is = refl })))

-- ---- steps

one_operand_leads : (device : Device) (s : ChipState) (len : ℕ) (operation : SingleOperation) (width : Width) (operand : Source)
    → Gives (MayRunSingle device s len operation width operand) (one_operand device s len operation width operand)
one_operand_leads device s len Push width operand = push_leads device s len Push width operand
one_operand_leads device s len Call width operand = push_leads device s len Call width operand
one_operand_leads device s len other width operand = single_leads device s len other width operand

pub executed_leads : (device : Device) (s : ChipState) (instr : Instr) (len : ℕ)
    → Gives (MayRun device s instr len) (executed device s instr len)
executed_leads device s (Double operation width source destination) len = double_leads device s len operation width source destination
executed_leads device s (OneOperand operation width operand) len = one_operand_leads device s len operation width operand
executed_leads device s (Jump condition offset) len = answer_gives (MayRun device s (Jump condition offset) len) _ refl
executed_leads device s ReturnFromInterrupt len = return_leads device s

run_leads : (device : Device) (s : ChipState) (found : Result (Instr × ℕ) NoInstr)
    → Decodes device.image (register_of s 0) found → Gives (MayLead device s) (run device s found)
run_leads device s (Ok (instr, len)) stands = weaken (MayRun device s instr len) (MayLead device s) _ (λ outcome runs. Runs instr len stands runs) (executed_leads device s instr len)
run_leads device s (Err none) lacks = answer_gives (MayLead device s) _ (NoneStands none lacks refl)

enter_leads : (device : Device) (s : ChipState) (vector : ℕ) → Contains (coming device s) vector
    → Gives (MayLead device s) (enter device s vector)
unfolding enter
enter_leads device s vector comes = then_gives (λ (b : ℕ). b < 128) (MayLead device s) _ _ (ask_gives 128 (omega arith)) (λ bits few.
    answer_gives (MayLead device s) _ (Enters vector bits comes few refl))

one_of : (vectors : List ℕ) (option : ℕ) → option < 1 + length vectors → (option == 0) ≡ false
    → Contains vectors (slice_index vectors (option - 1))
one_of vectors option below some = Contains-get_or vectors (option - 1) 0 (grind (arith, nat_tests, below, some))

taken_by : (device : Device) (s : ChipState) (option : ℕ) (none : Bool)
    → Decodes device.image (register_of s 0) (decoded device.image (register_of s 0))
    → (none ≡ false → Contains (coming device s) (slice_index (coming device s) (option - 1)))
    → Gives (MayLead device s) (cond none (run device s (decoded device.image (register_of s 0))) (enter device s (slice_index (coming device s) (option - 1))))
taken_by device s option true is comes = run_leads device s (decoded device.image (register_of s 0)) is
taken_by device s option false is comes = enter_leads device s (slice_index (coming device s) (option - 1)) (comes refl)

pub step_leads : (device : Device) (s : ChipState)
    → Decodes device.image (register_of s 0) (decoded device.image (register_of s 0))
    → Gives (MayLead device s) (step_of device s)
unfolding step_of
step_leads device s is =
    let asked = nat_lt 0 (length (coming device s)) in
    then_gives (IsOption asked (1 + length (coming device s))) (MayLead device s) _ _ (option_gives asked (1 + length (coming device s)) (omega arith)) (λ option o.
    taken_by device s option (option == 0) is (λ some. one_of (coming device s) option o.below some))
