-- A step needs a front of the choices, and at most seven of them.
use Rattle.std.proofs.Common.{◌≡◌, ℕ, ◌+◌, ◌<◌, ◌≤◌, ◌==◌, ◌&&◌, ◌||◌, nat_lt, length, slice_set, Bool, true, false, cond, List, [], Option, None, Some, Result, Ok, Err, refl, arith}
use Rattle.std.specs.List.{filter, range_with_len}
use Rattle.std.proofs.lemmas.List.Sums.{length-filter, count_by-le-length}
use Rattle.std.proofs.lemmas.List.FromFn.{length-range_with_len}
use Rattle.msp430_decode.specs.declared.instr.Operation.{Operation}
use Rattle.msp430_decode.specs.declared.instr.Operation.TheVariants.{Dadd}
use Rattle.msp430_decode.specs.declared.instr.SingleOperation.{SingleOperation}
use Rattle.msp430_decode.specs.declared.instr.SingleOperation.TheVariants.{Rrc, Push, Call}
use Rattle.msp430_decode.specs.declared.instr.Source.{Source}
use Rattle.msp430_decode.specs.declared.instr.Source.TheVariants as source
use Rattle.msp430_decode.specs.declared.instr.Destination.{Destination}
use Rattle.msp430_decode.specs.declared.instr.Destination.TheVariants as destination
use Rattle.msp430_decode.specs.declared.instr.Instr.{Instr}
use Rattle.msp430_decode.specs.declared.instr.Instr.TheVariants.{Double, Single as OneOperand, Jump, ReturnFromInterrupt}
use Rattle.msp430_decode.specs.declared.refusal.NoInstr.{NoInstr}
use Rattle.msp430_decode.specs.Decoding.{decoded}
use Rattle.msp430_chip.specs.declared.place.Place.{Place}
use Rattle.msp430_chip.specs.declared.place.Place.TheVariants.{InRegister, InMemory, Fixed}
use Rattle.msp430_chip.specs.Arithmetic.{Made, modulus, reads_destination, decimal, result_of, rotated, single_result}
use Rattle.msp430_chip.specs.Operands.{value_at, grown, source_place, destination_place, is_status, has_free_bits}
use Rattle.msp430_chip.specs.State.{register_of, allows_interrupts}
use Rattle.msp430_decode.specs.declared.instr.Width.{Width}
use Rattle.msp430_decode.specs.declared.instr.Width.TheVariants.{Word, Byte}
use Rattle.msp430_chip.specs.declared.device.Device.{Device}
use Rattle.msp430_chip.specs.declared.state.ChipState.{ChipState}
use Rattle.choosing.specs.Asking.{answer, ask_if, and_then}
use Rattle.msp430_chip.specs.Interrupts.{may_come, coming, enter}
use Rattle.msp430_chip.specs.Memory.{aligned, read_outside, read_byte, read_word, read}
use Rattle.msp430_chip.specs.Step.{Left, behind, is_formed_by_stack, with_lowered, destination_value, status_bits, double_left, counter, double, single_left, single, pushed_word, pushed, push_left, push, one_operand, return, executed, run, taken, step_of}
use Rattle.choosing.specs.Fronts.{AsksAtMost, answer_asks, more_asks, ask_asks, ask_if_asks, if_asks, choose_asks, then_asks}

-- ---- memory

outside_asks : (byte : Option ℕ) → AsksAtMost 1 (read_outside byte)
outside_asks None = ask_asks 256 (omega arith) (omega arith)
outside_asks (Some byte) = more_asks 0 1 (answer byte) (omega arith) (answer_asks byte)

byte_asks : (device : Device) (ram : List ℕ) (at : ℕ) → AsksAtMost 1 (read_byte device ram at)
unfolding read_byte
byte_asks device ram at = if_asks 1 _ (answer _) _ (more_asks 0 1 _ (omega arith) (answer_asks _)) (outside_asks _)

word_asks : (device : Device) (ram : List ℕ) (at : ℕ) → AsksAtMost 2 (read_word device ram at)
unfolding read_word
word_asks device ram at = then_asks 1 1 _ _ (byte_asks device ram _) (λ (low : ℕ). then_asks 1 0 _ _ (byte_asks device ram _) (λ (high : ℕ). answer_asks _))

read_asks : (device : Device) (ram : List ℕ) (width : Width) (at : ℕ) → AsksAtMost 2 (read device ram width at)
read_asks device ram Word at = word_asks device ram at
read_asks device ram Byte at = more_asks 1 2 _ (omega arith) (byte_asks device ram (aligned device Byte at))

enter_asks : (device : Device) (s : ChipState) (vector : ℕ) → AsksAtMost 1 (enter device s vector)
unfolding enter
enter_asks device s vector = then_asks 1 0 _ _ (ask_asks 128 (omega arith) (omega arith)) (λ (bits : ℕ). answer_asks _)

-- ---- operands and results

at_asks : (device : Device) (ram registers : List ℕ) (width : Width) (place : Place)
    → AsksAtMost 2 (value_at device ram registers width place)
at_asks device ram registers width (InRegister register) = more_asks 0 2 _ (omega arith) (answer_asks _)
at_asks device ram registers width (InMemory address) = read_asks device ram width address
at_asks device ram registers width (Fixed value) = more_asks 0 2 _ (omega arith) (answer_asks _)

some_asked : (width : Width) → 0 < modulus width × (modulus width ≤ 65536)
some_asked Word = (omega arith, omega arith)
some_asked Byte = (omega arith, omega arith)

decimal_asks : (width : Width) (x y carry : ℕ) → AsksAtMost 2 (decimal width x y carry)
unfolding decimal
decimal_asks width x y carry = if_asks 2 _ _ _
    (more_asks 1 2 _ (omega arith) (then_asks 1 0 _ _ (ask_asks 2 (omega arith) (omega arith)) (λ (overflow : ℕ). answer_asks _)))
    (then_asks 1 1 _ _ (ask_asks _ (some_asked width).0 (some_asked width).1) (λ (result : ℕ). then_asks 1 0 _ _ (ask_asks 16 (omega arith) (omega arith)) (λ (option : ℕ). answer_asks _)))

made_asks : {A : Type 0} (a : A) → AsksAtMost 2 (answer a)
made_asks a = more_asks 0 2 (answer a) (omega arith) (answer_asks a)

result_asks : (operation : Operation) (width : Width) (x y carry : ℕ) → AsksAtMost 2 (result_of operation width x y carry)
result_asks Dadd width x y carry = decimal_asks width y x carry
result_asks other width x y carry = made_asks _

rotated_asks : (width : Width) (x carry : ℕ) → AsksAtMost 1 (rotated width x carry)
unfolding rotated
rotated_asks width x carry = then_asks 1 0 _ _ (ask_asks 2 (omega arith) (omega arith)) (λ (overflow : ℕ). answer_asks _)

shown_asks : {A : Type 0} (a : A) → AsksAtMost 1 (answer a)
shown_asks a = more_asks 0 1 (answer a) (omega arith) (answer_asks a)

single_result_asks : (operation : SingleOperation) (width : Width) (x carry : ℕ) → AsksAtMost 1 (single_result operation width x carry)
single_result_asks Rrc width x carry = rotated_asks width x carry
single_result_asks other width x carry = shown_asks _

-- ---- two operands: a register is asked for no bytes, and nothing else for bits of SR or for an address

abbrev source_questions : Source → ℕ
source_questions (source.Register register) = 0
source_questions (source.Immediate value) = 0
source_questions (source.Constant constant) = 0
source_questions other = 2

abbrev destination_questions : Destination → ℕ
destination_questions (destination.Register register) = 0
destination_questions other = 2

abbrev counter_questions : Source → ℕ
counter_questions (source.Register register) = 1
counter_questions other = 0

abbrev target_bits : Destination → ℕ
target_bits (destination.Register register) = 1
target_bits other = 0

abbrev bits_questions : Source → Destination → ℕ
bits_questions (source.Register register) place = 1
bits_questions other place = target_bits place

source_asks : (device : Device) (ram before : List ℕ) (pc : ℕ) (width : Width) (operand : Source)
    → AsksAtMost (source_questions operand) (value_at device ram before width (source_place pc before operand))
source_asks device ram before pc width (source.Register register) = answer_asks _
source_asks device ram before pc width (source.Immediate value) = answer_asks _
source_asks device ram before pc width (source.Constant constant) = answer_asks _
source_asks device ram before pc width other = read_asks device ram width _

target_asks : (device : Device) (ram registers : List ℕ) (pc len : ℕ) (operation : Operation) (width : Width) (target : Destination)
    → AsksAtMost (destination_questions target) (destination_value device ram registers operation width (destination_place pc len registers target))
target_asks device ram registers pc len operation width (destination.Register register) = if_asks 0 _ _ (answer 0) (answer_asks _) (answer_asks 0)
target_asks device ram registers pc len operation width other = if_asks 2 _ _ (answer 0) (read_asks device ram width _) (made_asks 0)

counter_asks : (s : ChipState) (len : ℕ) (operand : Source) (target : Destination)
    → AsksAtMost (counter_questions operand) (counter s len operand target)
counter_asks s len (source.Register register) target =
    if_asks 1 _ _ (answer _) (then_asks 1 0 _ _ (ask_asks 2 (omega arith) (omega arith)) (λ (option : ℕ). answer_asks _)) (shown_asks _)
counter_asks s len other target = answer_asks _

-- no bits of SR are free in memory, or in a number
held_whole : (width : Width) (place : Place) → is_status place ≡ false → has_free_bits width place ≡ false
held_whole Word place h = h
held_whole Byte place h = refl

unasked : (first reads second : Bool) → first ≡ false → second ≡ false → AsksAtMost 0 (ask_if (first || (reads && second)) 128)
unasked false true false h k = answer_asks 0
unasked false false false h k = answer_asks 0
unasked true reads second h k = absurd cc
unasked false reads true h k = absurd cc

target_bits_asks : (operation : Operation) (width : Width) (pc len : ℕ) (registers : List ℕ) (origin : Place) (target : Destination)
    → has_free_bits width origin ≡ false
    → AsksAtMost (target_bits target) (status_bits operation width origin (destination_place pc len registers target))
target_bits_asks operation width pc len registers origin (destination.Register register) h = ask_if_asks _ 128 (omega arith) (omega arith)
target_bits_asks operation width pc len registers origin other h = unasked _ (reads_destination operation) _ h (held_whole width _ refl)

bits_asks : (operation : Operation) (width : Width) (pc len : ℕ) (before registers : List ℕ) (operand : Source) (target : Destination)
    → AsksAtMost (bits_questions operand target) (status_bits operation width (source_place pc before operand) (destination_place pc len registers target))
bits_asks operation width pc len before registers (source.Register register) target = ask_if_asks _ 128 (omega arith) (omega arith)
bits_asks operation width pc len before registers other target = target_bits_asks operation width pc len registers _ target (held_whole width _ refl)

target_few : (target : Destination) → destination_questions target + target_bits target ≤ 2
target_few (destination.Register register) = omega arith
target_few other = omega arith

double_few : (operand : Source) (target : Destination)
    → counter_questions operand + (source_questions operand + (destination_questions target + (bits_questions operand target + (2 + 0)))) ≤ 6
double_few (source.Register register) target = omega (arith, target_few target)
double_few other target = omega (arith, target_few target)

double_left_asks : (device : Device) (ram registers : List ℕ) (operation : Operation) (width : Width) (place : Place) (x y carry : ℕ)
    → AsksAtMost 2 (double_left device ram registers operation width place x y carry)
unfolding double_left
double_left_asks device ram registers operation width place x y carry = if_asks 2 _ _ _
    (more_asks 1 2 _ (omega arith) (then_asks 1 0 _ _ (ask_asks 512 (omega arith) (omega arith)) (λ (status : ℕ). answer_asks _)))
    (then_asks 2 0 _ _ (result_asks operation width x y carry) (λ (made : Made). answer_asks _))

double_asks : (device : Device) (s : ChipState) (len : ℕ) (operation : Operation) (width : Width) (operand : Source) (target : Destination)
    → AsksAtMost 6 (double device s len operation width operand target)
unfolding double
double_asks device s len operation width operand target = more_asks _ 6 _ (double_few operand target)
    (then_asks _ _ _ _ (counter_asks s len operand target) (λ (counted : ℕ).
    let before = slice_set s.registers 0 counted in
    let registers = grown before width operand in
    then_asks _ _ _ _ (source_asks device s.ram before (register_of s 0) width operand) (λ (x : ℕ).
    then_asks _ _ _ _ (target_asks device s.ram registers (register_of s 0) len operation width target) (λ (y : ℕ).
    then_asks _ _ _ _ (bits_asks operation width (register_of s 0) len before registers operand target) (λ (bits : ℕ).
    then_asks 2 0 _ _ (double_left_asks device _ _ operation width _ _ _ _) (λ (left : Left). answer_asks _))))))

-- ---- one operand

single_left_asks : (device : Device) (ram registers : List ℕ) (operation : SingleOperation) (width : Width) (place : Place) (x carry : ℕ)
    → AsksAtMost 1 (single_left device ram registers operation width place x carry)
unfolding single_left
single_left_asks device ram registers operation width place x carry = if_asks 1 _ _ _
    (then_asks 1 0 _ _ (ask_asks 512 (omega arith) (omega arith)) (λ (status : ℕ). answer_asks _))
    (then_asks 1 0 _ _ (single_result_asks operation width x carry) (λ (made : Made). answer_asks _))

single_asks : (device : Device) (s : ChipState) (len : ℕ) (operation : SingleOperation) (width : Width) (operand : Source)
    → AsksAtMost 4 (single device s len operation width operand)
unfolding single
single_asks device s len operation width operand =
    let before = slice_set s.registers 0 (behind s len) in
    let place = source_place (register_of s 0) before operand in
    then_asks 2 2 _ _ (at_asks device s.ram before width place) (λ (x : ℕ).
    then_asks 1 1 _ _ (ask_if_asks (has_free_bits width place) 128 (omega arith) (omega arith)) (λ (bits : ℕ).
    then_asks 1 0 _ _ (single_left_asks device _ _ operation width _ _ _) (λ (left : Left). answer_asks _)))

-- ---- PUSH, CALL and RETI

pushed_asks : (width : Width) (x : ℕ) → AsksAtMost 1 (pushed_word width x)
pushed_asks Word x = shown_asks x
pushed_asks Byte x = then_asks 1 0 _ _ (ask_asks 256 (omega arith) (omega arith)) (λ (high : ℕ). answer_asks _)

plain_push_asks : (device : Device) (ram registers : List ℕ) (width : Width) (x : ℕ)
    → AsksAtMost 1 (and_then (pushed_word width x) (λ word. answer (pushed device registers ram word)))
plain_push_asks device ram registers width x = then_asks 1 0 _ _ (pushed_asks width x) (λ (word : ℕ). answer_asks _)

push_left_asks : (device : Device) (ram registers : List ℕ) (operation : SingleOperation) (width : Width) (x next : ℕ)
    → AsksAtMost 1 (push_left device ram registers operation width x next)
unfolding push_left
push_left_asks device ram registers Call width x next = shown_asks _
push_left_asks device ram registers other width x next = plain_push_asks device ram registers width x

push_asks : (device : Device) (s : ChipState) (len : ℕ) (operation : SingleOperation) (width : Width) (operand : Source)
    → AsksAtMost 5 (push device s len operation width operand)
unfolding push
push_asks device s len operation width operand =
    then_asks 1 4 _ _ (ask_if_asks (is_formed_by_stack operand) 2 (omega arith) (omega arith)) (λ (option : ℕ).
    let forming = with_lowered option (slice_set s.registers 0 (behind s len)) in
    let place = source_place (register_of s 0) forming operand in
    then_asks 2 2 _ _ (at_asks device s.ram forming width place) (λ (x : ℕ).
    then_asks 1 1 _ _ (ask_if_asks (has_free_bits width place) 128 (omega arith) (omega arith)) (λ (bits : ℕ).
    then_asks 1 0 _ _ (push_left_asks device _ _ operation width _ _) (λ (left : Left). answer_asks _))))

one_operand_asks : (device : Device) (s : ChipState) (len : ℕ) (operation : SingleOperation) (width : Width) (operand : Source)
    → AsksAtMost 6 (one_operand device s len operation width operand)
one_operand_asks device s len Push width operand = more_asks 5 6 _ (omega arith) (push_asks device s len Push width operand)
one_operand_asks device s len Call width operand = more_asks 5 6 _ (omega arith) (push_asks device s len Call width operand)
one_operand_asks device s len other width operand = more_asks 4 6 _ (omega arith) (single_asks device s len other width operand)

return_asks : (device : Device) (s : ChipState) → AsksAtMost 4 (return device s)
unfolding return
return_asks device s =
    then_asks 2 2 _ _ (word_asks device _ _) (λ (status : ℕ). then_asks 2 0 _ _ (word_asks device _ _) (λ (target : ℕ). answer_asks _))

-- ---- steps

executed_asks : (device : Device) (s : ChipState) (instr : Instr) (len : ℕ) → AsksAtMost 6 (executed device s instr len)
executed_asks device s (Double operation width origin destination) len = double_asks device s len operation width origin destination
executed_asks device s (OneOperand operation width operand) len = one_operand_asks device s len operation width operand
executed_asks device s (Jump condition offset) len = more_asks 0 6 _ (omega arith) (answer_asks _)
executed_asks device s ReturnFromInterrupt len = more_asks 4 6 _ (omega arith) (return_asks device s)

run_asks : (device : Device) (s : ChipState) (found : Result (Instr × ℕ) NoInstr) → AsksAtMost 6 (run device s found)
run_asks device s (Ok (instr, len)) = executed_asks device s instr len
run_asks device s (Err none) = more_asks 0 6 _ (omega arith) (answer_asks _)

taken_asks : (device : Device) (s : ChipState) (vectors : List ℕ) (option : ℕ) → AsksAtMost 6 (taken device s vectors option)
taken_asks device s vectors option = choose_asks 6 (option == 0) _ _
    (run_asks device s (decoded device.image (register_of s 0))) (more_asks 1 6 _ (omega arith) (enter_asks device s _))

chosen_few : (b : Bool) (vectors : List ℕ) → length vectors ≤ 14 → length (cond b vectors []) ≤ 14
chosen_few true vectors h = h
chosen_few false vectors h = omega arith

few_filtered : (p : ℕ → Bool) (n : ℕ) → length (filter p (range_with_len 0 n)) ≤ n
few_filtered p n = omega (arith, length-filter p (range_with_len 0 n), count_by-le-length p (range_with_len 0 n), length-range_with_len 0 n)

few_vectors : (device : Device) (s : ChipState) → length (coming device s) ≤ 14
unfolding coming
few_vectors device s = chosen_few (allows_interrupts s || s.late) _ (few_filtered (may_come device) 14)

pub step_asks : (device : Device) (s : ChipState) → AsksAtMost 7 (step_of device s)
unfolding step_of
step_asks device s = let vectors = coming device s in
    then_asks 1 6 _ _ (ask_if_asks (nat_lt 0 (length vectors)) (1 + length vectors) (omega arith) (omega (arith, few_vectors device s))) (taken_asks device s vectors)
