-- A step keeps the form of states.
use Rattle.std.proofs.Common.{◌≡◌, ℕ, ◌+◌, ◌-◌, ◌*◌, ◌/◌, ◌%◌, ◌<◌, ◌==◌, ◌&&◌, ◌||◌, Bool, true, false, cond, nat_lt, List, [], ◌∷◌, ◌++◌, length, slice_index, slice_set, Option, None, Some, Result, Ok, Err, refl, arith}
use Rattle.std.specs.Prelude.{All}
use Rattle.std.proofs.lemmas.List.Elements.{All-get_or}
use Rattle.image.specs.Image.{IsByte}
use Rattle.chip_numbers.specs.declared.space.Space.TheVariants.{Mem}
use Rattle.chip_numbers.specs.Single.{Single}
use Rattle.chip_numbers.specs.Single.Single.{Access}
use Rattle.msp430_decode.specs.declared.instr.Register.{Register}
use Rattle.msp430_decode.specs.declared.instr.Register.TheVariants.{Sr}
use Rattle.msp430_decode.specs.declared.instr.Width.{Width}
use Rattle.msp430_decode.specs.declared.instr.Width.TheVariants.{Word, Byte}
use Rattle.msp430_decode.specs.declared.instr.Operation.{Operation}
use Rattle.msp430_decode.specs.declared.instr.SingleOperation.{SingleOperation}
use Rattle.msp430_decode.specs.declared.instr.SingleOperation.TheVariants.{Push, Call}
use Rattle.msp430_decode.specs.declared.instr.Source.{Source}
use Rattle.msp430_decode.specs.declared.instr.Destination.{Destination}
use Rattle.msp430_decode.specs.declared.instr.Condition.{Condition}
use Rattle.msp430_decode.specs.declared.instr.Instr.{Instr}
use Rattle.msp430_decode.specs.declared.instr.Instr.TheVariants.{Double, Single as OneOperand, Jump, ReturnFromInterrupt}
use Rattle.msp430_decode.specs.declared.refusal.NoInstr.{NoInstr}
use Rattle.msp430_decode.specs.Decoding.{decoded}
use Rattle.msp430_decode.specs.Table.{IsInstr, AreSingle, target_of}
use Rattle.msp430_chip.specs.declared.device.Device.{Device}
use Rattle.msp430_chip.specs.declared.place.Flags.{Flags}
use Rattle.msp430_chip.specs.declared.place.Place.{Place}
use Rattle.msp430_chip.specs.declared.place.Place.TheVariants.{InRegister, InMemory, Fixed}
use Rattle.msp430_chip.specs.declared.state.ChipState.{ChipState}
use Rattle.msp430_chip.specs.declared.state.Wild.{Wild as WildCause}
use Rattle.msp430_chip.specs.declared.state.Wild.TheVariants as wild_cause
use Rattle.msp430_chip.specs.Arithmetic.{modulus, sets_flags, single_sets_flags, reads_destination, writes_result}
use Rattle.choosing.specs.Asking.{answer, ask, and_then}
use Rattle.msp430_chip.specs.Interrupts.{coming, enter, handler_of, vector_address}
use Rattle.msp430_chip.specs.Memory.{aligned, with_stored}
use Rattle.msp430_chip.specs.Operands.{value_at, value_in, grown, source_place, destination_place, is_status, has_free_bits, with_free_bits, access_to}
use Rattle.msp430_chip.specs.Outcome.{Outcome, unless_hit}
use Rattle.choosing.specs.Outcome.Outcome.{Next, Wild}
use Rattle.msp430_chip.specs.State.{IsChipState, register_of, even}
use Rattle.msp430_chip.specs.Step.{Left, put, put_if, with_status, done, behind, counter, reads_counter, destination_value, double_left, double_accesses, double, single_left, single, is_formed_by_stack, with_lowered, lowered, pushed_word, pushed, push_left, push, one_operand, is_taken, jump, return, executed, run, taken, step_of}
use Rattle.choosing.specs.Gives.{Gives, answer_gives, ask_gives, ask_if_gives, either_gives, choose_gives, then_gives, weaken}
use Rattle.msp430_chip.specs.Kinds.{Kind}
use Rattle.msp430_chip.specs.Kinds.Kind.{Counter, Stack, Status, Empty, General}
use Rattle.msp430_chip.proofs.KindsOfRegisters.{kind_of}
use Rattle.msp430_chip.proofs.MemoryForm.{IsMemory, read_word_gives, read_gives, with_stored_keeps, image_word_below}
use Rattle.msp430_chip.proofs.RegisterForms.{even_below, even_is, with_register_keeps, grown_keeps, set_lowered, with_lowered_keeps}
use Rattle.msp430_chip.specs.Registers.{AreRegisters, set_pc, set_sp, set_status}
use Rattle.msp430_chip.proofs.Results.{Fits, modulus_some, result_gives, single_gives, made_flags_below}

-- ---- states

abbrev pub Keeps : Device → Outcome ChipState → Type 0
Keeps device (Next items t) = IsChipState device t
Keeps device (Wild cause) = Unit {0}

pub record IsLeft (device : Device) (left : Left) : Type 0 where
  pub registers : AreRegisters left.registers
  pub ram : IsMemory device left.ram

state_registers : (device : Device) (s : ChipState) → IsChipState device s → AreRegisters s.registers
state_registers device s is = assumption is

state_memory : (device : Device) (s : ChipState) → All IsByte device.image → IsChipState device s → IsMemory device s.ram
state_memory device s image is = record { image = image; size = is.ram; bytes = is.bytes }

state_is : (device : Device) (registers ram : List ℕ) (late : Bool) → AreRegisters registers → IsMemory device ram
    → IsChipState device (record { registers = registers; ram = ram; late = late })
state_is device registers ram late are is = assumption (are, is)

unless_keeps : (device : Device) (why : ℕ → WildCause) (hit : Option ℕ) (items : List Single) (t : ChipState) → IsChipState device t
    → Keeps device (unless_hit why hit items t)
unless_keeps device why None items t is = is
unless_keeps device why (Some at) items t is = tt

done_keeps : (device : Device) (s : ChipState) (instr : Instr) (accesses : List Single) (left : Left)
    → IsLeft device left → Keeps device (done s instr accesses left)
done_keeps device s instr accesses left is = unless_keeps device wild_cause.Store left.hit _ _ (state_is device left.registers left.ram _ is.registers is.ram)

-- ---- operands

-- a value of this width, of which SR holds nine bits
record IsOperand (width : Width) (place : Place) (x : ℕ) : Type 0 where
  below : x < modulus width
  held : has_free_bits width place ≡ true → x < 512

plain_operand : (width : Width) (place : Place) (x : ℕ) → has_free_bits width place ≡ false → x < modulus width → IsOperand width place x
plain_operand width place x none h = record { below = h; held = λ free. absurd cc }

rest_below : (width : Width) (x : ℕ) → x % modulus width < modulus width
rest_below Word x = omega arith
rest_below Byte x = omega arith

no_free_bits : (width : Width) (place : Place) → is_status place ≡ false → has_free_bits width place ≡ false
no_free_bits Word place is = is
no_free_bits Byte place is = refl

status_operand : (width : Width) (registers : List ℕ) → AreRegisters registers
    → IsOperand width (InRegister Sr) (value_in registers Sr % modulus width)
status_operand Word registers are = let h = are.status in record { below = omega arith; held = λ _. omega arith }
status_operand Byte registers are = record { below = omega arith; held = λ free. absurd cc }

register_operand : (width : Width) (registers : List ℕ) (register : Register) → Kind register → AreRegisters registers
    → IsOperand width (InRegister register) (value_in registers register % modulus width)
register_operand width registers register (Status is) are = rw is (status_operand width registers are)
register_operand width registers register (General is) are =
    plain_operand width (InRegister register) _ (no_free_bits width (InRegister register) is.no_status) (rest_below width _)
register_operand width registers register (Counter is) are = plain_operand width (InRegister register) _ (no_free_bits width (InRegister register) (rw is refl)) (rest_below width _)
register_operand width registers register (Stack is) are = plain_operand width (InRegister register) _ (no_free_bits width (InRegister register) (rw is refl)) (rest_below width _)
register_operand width registers register (Empty is) are = plain_operand width (InRegister register) _ (no_free_bits width (InRegister register) (rw is refl)) (rest_below width _)

at_gives : (device : Device) (ram registers : List ℕ) (width : Width) (place : Place) → AreRegisters registers → IsMemory device ram
    → Gives (IsOperand width place) (value_at device ram registers width place)
at_gives device ram registers width (InRegister register) are is = answer_gives (IsOperand width (InRegister register)) _ (register_operand width registers register (kind_of register) are)
at_gives device ram registers width (InMemory address) are is =
    weaken (λ (x : ℕ). x < modulus width) (IsOperand width (InMemory address)) _ (λ x h. plain_operand width (InMemory address) x (no_free_bits width (InMemory address) refl) h) (read_gives device ram width address is)
at_gives device ram registers width (Fixed value) are is =
    answer_gives (IsOperand width (Fixed value)) _ (plain_operand width (Fixed value) _ (no_free_bits width (Fixed value) refl) (rest_below width value))

nothing_read : (width : Width) (place : Place) → IsOperand width place 0
nothing_read width place = record { below = modulus_some width; held = λ _. omega arith }

destination_gives : (device : Device) (ram registers : List ℕ) (operation : Operation) (width : Width) (place : Place)
    → AreRegisters registers → IsMemory device ram
    → Gives (IsOperand width place) (destination_value device ram registers operation width place)
destination_gives device ram registers operation width place are is =
    either_gives (IsOperand width place) (reads_destination operation) _ (answer 0) (at_gives device ram registers width place are is) (answer_gives (IsOperand width place) 0 (nothing_read width place))

freed : (b : Bool) (x bits : ℕ) → x < 65536 → (b ≡ true → x < 512) → bits < 128 → cond b (x + 512 * bits) x < 65536
freed true x bits h held few = let l = held refl in omega arith
freed false x bits h held few = h

operand_below : (width : Width) (place : Place) (x bits : ℕ) → IsOperand width place x → bits < 128
    → with_free_bits width place bits x < modulus width
operand_below Word place x bits is few = freed (is_status place) x bits is.below is.held few
operand_below Byte place x bits is few = is.below

-- ---- what instructions leave

below_word : (width : Width) (x : ℕ) → x < modulus width → x < 65536
below_word Word x h = h
below_word Byte x h = omega arith

put_keeps : (device : Device) (registers ram : List ℕ) (width : Width) (place : Place) (value : ℕ)
    → AreRegisters registers → IsMemory device ram → value < modulus width
    → IsLeft device (put device registers ram width place value)
put_keeps device registers ram width (InRegister register) value are is h =
    record { registers = with_register_keeps registers register value are (below_word width value h); ram = is }
put_keeps device registers ram width (InMemory address) value are is h = record { registers = are; ram = with_stored_keeps device ram width address value is h }
put_keeps device registers ram width (Fixed number) value are is h = record { registers = are; ram = is }

put_if_keeps : (b : Bool) (device : Device) (registers ram : List ℕ) (width : Width) (place : Place) (value : ℕ)
    → AreRegisters registers → IsMemory device ram → value < modulus width
    → IsLeft device (put_if b device registers ram width place value)
put_if_keeps true device registers ram width place value are is h = put_keeps device registers ram width place value are is h
put_if_keeps false device registers ram width place value are is h = record { registers = are; ram = is }

with_status_keeps : (device : Device) (flags : Option Flags) (left : Left) → IsLeft device left → IsLeft device (with_status flags left)
with_status_keeps device flags left is = record {
  registers = set_status left.registers _ is.registers (made_flags_below (slice_index left.registers 2) flags is.registers.status);
  ram = is.ram;
}

free_status : (device : Device) (ram registers : List ℕ) → AreRegisters registers → IsMemory device ram
    → Gives (IsLeft device) (and_then (ask 512) (λ status. answer (record { registers = slice_set registers 2 status; ram = ram; hit = None })))
free_status device ram registers are is =
    then_gives (λ (status : ℕ). status < 512) (IsLeft device) _ _ (ask_gives 512 (omega arith)) (λ status h.
    answer_gives (IsLeft device) _ (record { registers = set_status registers status are h; ram = is }))

double_left_gives : (device : Device) (ram registers : List ℕ) (operation : Operation) (width : Width) (place : Place) (x y carry : ℕ)
    → AreRegisters registers → IsMemory device ram → x < modulus width → y < modulus width
    → Gives (IsLeft device) (double_left device ram registers operation width place x y carry)
unfolding double_left
double_left_gives device ram registers operation width place x y carry are is h k =
    either_gives (IsLeft device) (sets_flags operation && is_status place) _ _ (free_status device ram registers are is)
    (then_gives (Fits width) (IsLeft device) _ _ (result_gives operation width x y carry h k) (λ made fits.
    answer_gives (IsLeft device) _ (with_status_keeps device made.1 _ (put_if_keeps (writes_result operation) device registers ram width place made.0 are is fits))))

single_left_gives : (device : Device) (ram registers : List ℕ) (operation : SingleOperation) (width : Width) (operand : Source) (place : Place) (x carry : ℕ)
    → AreRegisters registers → IsMemory device ram → AreSingle operation width operand → x < modulus width → carry < 2
    → Gives (IsLeft device) (single_left device ram registers operation width place x carry)
unfolding single_left
single_left_gives device ram registers operation width operand place x carry are is form h k =
    either_gives (IsLeft device) (single_sets_flags operation && is_status place) _ _ (free_status device ram registers are is)
    (then_gives (Fits width) (IsLeft device) _ _ (single_gives operation width operand x carry form h k) (λ made fits.
    answer_gives (IsLeft device) _ (with_status_keeps device made.1 _ (put_keeps device registers ram width place made.0 are is fits))))

-- ---- two operands

-- a value of PC
record IsCounter (at : ℕ) : Type 0 where
  below : at < 65536
  whole : at % 2 ≡ 0

wrapped : (at : ℕ) → at % 2 ≡ 0 → IsCounter (at % 65536)
wrapped at h = record { below = omega arith; whole = omega arith }

behind_is : (device : Device) (s : ChipState) (len : ℕ) → IsChipState device s → len % 2 ≡ 0 → IsCounter (behind s len)
behind_is device s len is h = let p = is.even_pc in wrapped (register_of s 0 + len) (omega arith)

counter_gives : (device : Device) (s : ChipState) (len : ℕ) (origin : Source) (destination : Destination)
    → IsChipState device s → len % 2 ≡ 0
    → Gives IsCounter (counter s len origin destination)
counter_gives device s len origin destination is h = let p = is.even_pc in
    either_gives IsCounter (reads_counter origin destination) _ (answer _)
    (then_gives (λ (o : ℕ). o < 2) IsCounter _ _ (ask_gives 2 (omega arith)) (λ option o.
    answer_gives IsCounter _ (wrapped (register_of s 0 + 2 + 2 * option) (omega arith))))
    (answer_gives IsCounter _ (behind_is device s len is h))

double_gives : (device : Device) (s : ChipState) (len : ℕ) (operation : Operation) (width : Width) (origin : Source) (destination : Destination)
    → All IsByte device.image → IsChipState device s → len % 2 ≡ 0
    → Gives (Keeps device) (double device s len operation width origin destination)
unfolding double
double_gives device s len operation width origin destination image is h =
    let are = state_registers device s is in
    let memory = state_memory device s image is in
    let next = behind_is device s len is h in
    then_gives IsCounter (Keeps device) _ _ (counter_gives device s len origin destination is h) (λ counted whole.
    let before = slice_set s.registers 0 counted in
    let from = source_place (register_of s 0) before origin in
    let registers = grown before width origin in
    let place = destination_place (register_of s 0) len registers destination in
    let started : AreRegisters before = set_pc s.registers counted are whole.below whole.whole in
    let raised : AreRegisters registers = grown_keeps before width origin started in
    then_gives (IsOperand width from) (Keeps device) _ _ (at_gives device s.ram before width from started memory) (λ x first.
    then_gives (IsOperand width place) (Keeps device) _ _ (destination_gives device s.ram registers operation width place raised memory) (λ y second.
    then_gives (λ (bits : ℕ). bits < 128) (Keeps device) _ _ (ask_if_gives (has_free_bits width from || (reads_destination operation && has_free_bits width place)) 128 (omega arith)) (λ bits few.
    then_gives (IsLeft device) (Keeps device) _ _
    (double_left_gives device s.ram (slice_set registers 0 (behind s len)) operation width place (with_free_bits width from bits x) (with_free_bits width place bits y) (register_of s 2 % 2)
    (set_pc registers (behind s len) raised next.below next.whole) memory (operand_below width from x bits first few) (operand_below width place y bits second few)) (λ left kept.
    answer_gives (Keeps device) _ (done_keeps device s (Double operation width origin destination) (double_accesses device (register_of s 0) operation width from place) left kept))))))

-- ---- one operand

single_step_gives : (device : Device) (s : ChipState) (len : ℕ) (operation : SingleOperation) (width : Width) (operand : Source)
    → All IsByte device.image → IsChipState device s → len % 2 ≡ 0 → AreSingle operation width operand
    → Gives (Keeps device) (single device s len operation width operand)
unfolding single
single_step_gives device s len operation width operand image is h form =
    let are = state_registers device s is in
    let memory = state_memory device s image is in
    let next = behind_is device s len is h in
    let before = slice_set s.registers 0 (behind s len) in
    let place = source_place (register_of s 0) before operand in
    let started : AreRegisters before = set_pc s.registers (behind s len) are next.below next.whole in
    then_gives (IsOperand width place) (Keeps device) _ _ (at_gives device s.ram before width place started memory) (λ x first.
    then_gives (λ (bits : ℕ). bits < 128) (Keeps device) _ _ (ask_if_gives (has_free_bits width place) 128 (omega arith)) (λ bits few.
    then_gives (IsLeft device) (Keeps device) _ _
    (single_left_gives device s.ram (grown before width operand) operation width operand place (with_free_bits width place bits x) (register_of s 2 % 2)
    (grown_keeps before width operand started) memory form (operand_below width place x bits first few) (omega arith)) (λ left kept.
    answer_gives (Keeps device) _ (done_keeps device s (OneOperand operation width operand) (access_to device (register_of s 0) false width place ++ access_to device (register_of s 0) true width place) left kept))))

-- ---- PUSH and CALL

pushed_gives : (width : Width) (x : ℕ) → x < modulus width → Gives (λ (word : ℕ). word < 65536) (pushed_word width x)
pushed_gives Word x h = answer_gives (λ (word : ℕ). word < 65536) x h
pushed_gives Byte x h = then_gives (λ (high : ℕ). high < 256) (λ (word : ℕ). word < 65536) _ _ (ask_gives 256 (omega arith)) (λ high k.
    answer_gives (λ (word : ℕ). word < 65536) (x + 256 * high) (omega (arith, h, k)))

pushed_keeps : (device : Device) (registers ram : List ℕ) (word : ℕ) → AreRegisters registers → IsMemory device ram
    → word < 65536 → IsLeft device (pushed device registers ram word)
pushed_keeps device registers ram word are is h = put_keeps device _ ram Word (InMemory (lowered (slice_index registers 1))) word (set_lowered registers are) is h

plain_push_gives : (device : Device) (ram registers : List ℕ) (width : Width) (x : ℕ) → AreRegisters registers
    → IsMemory device ram → x < modulus width
    → Gives (IsLeft device) (and_then (pushed_word width x) (λ word. answer (pushed device registers ram word)))
plain_push_gives device ram registers width x are is h =
    then_gives (λ (word : ℕ). word < 65536) (IsLeft device) _ _ (pushed_gives width x h) (λ word k. answer_gives (IsLeft device) _ (pushed_keeps device registers ram word are is k))

push_left_gives : (device : Device) (ram registers : List ℕ) (operation : SingleOperation) (width : Width) (x next : ℕ)
    → AreRegisters registers → IsMemory device ram → x < modulus width → next < 65536
    → Gives (IsLeft device) (push_left device ram registers operation width x next)
unfolding push_left
push_left_gives device ram registers Call width x next are is h k = answer_gives (IsLeft device) _
    (pushed_keeps device (slice_set registers 0 (even x)) ram next (set_pc registers (even x) are (even_below x (below_word width x h)) (even_is x)) is k)
push_left_gives device ram registers other width x next are is h k = plain_push_gives device ram registers width x are is h

push_gives : (device : Device) (s : ChipState) (len : ℕ) (operation : SingleOperation) (width : Width) (operand : Source)
    → All IsByte device.image → IsChipState device s → len % 2 ≡ 0 → Gives (Keeps device) (push device s len operation width operand)
unfolding push
push_gives device s len operation width operand image is h =
    let are = state_registers device s is in
    let memory = state_memory device s image is in
    let next = behind_is device s len is h in
    let before = slice_set s.registers 0 (behind s len) in
    let started : AreRegisters before = set_pc s.registers (behind s len) are next.below next.whole in
    then_gives (λ (option : ℕ). option < 2) (Keeps device) _ _ (ask_if_gives (is_formed_by_stack operand) 2 (omega arith)) (λ option o.
    let forming = with_lowered option before in
    let place = source_place (register_of s 0) forming operand in
    then_gives (IsOperand width place) (Keeps device) _ _ (at_gives device s.ram forming width place (with_lowered_keeps option before started) memory) (λ x first.
    then_gives (λ (bits : ℕ). bits < 128) (Keeps device) _ _ (ask_if_gives (has_free_bits width place) 128 (omega arith)) (λ bits few.
    then_gives (IsLeft device) (Keeps device) _ _
    (push_left_gives device s.ram (grown before width operand) operation width (with_free_bits width place bits x) (behind s len)
    (grown_keeps before width operand started) memory (operand_below width place x bits first few) next.below) (λ left kept.
    answer_gives (Keeps device) _ (done_keeps device s (OneOperand operation width operand)
    (access_to device (register_of s 0) false width place ++ access_to device (register_of s 0) true Word (InMemory (lowered (slice_index (grown before width operand) 1)))) left kept)))))

one_operand_gives : (device : Device) (s : ChipState) (len : ℕ) (operation : SingleOperation) (width : Width) (operand : Source)
    → All IsByte device.image → IsChipState device s → len % 2 ≡ 0 → AreSingle operation width operand
    → Gives (Keeps device) (one_operand device s len operation width operand)
one_operand_gives device s len Push width operand image is h form = push_gives device s len Push width operand image is h
one_operand_gives device s len Call width operand image is h form = push_gives device s len Call width operand image is h
one_operand_gives device s len other width operand image is h form = single_step_gives device s len other width operand image is h form

-- ---- jumps and returns

target_is : (at offset : ℕ) → at % 2 ≡ 0 → (near : Bool)
    → IsCounter (cond near ((at + 2 + 2 * offset) % 65536) ((at + 2 + 2 * offset + 65536 - 2048) % 65536))
target_is at offset h true = wrapped (at + 2 + 2 * offset) (omega arith)
target_is at offset h false = wrapped (at + 2 + 2 * offset + 65536 - 2048) (omega arith)

chosen_counter : (b : Bool) (at other : ℕ) → IsCounter at → IsCounter other → IsCounter (cond b at other)
chosen_counter true at other is be = is
chosen_counter false at other is be = be

jump_keeps : (device : Device) (s : ChipState) (condition : Condition) (offset : ℕ) → All IsByte device.image
    → IsChipState device s → Keeps device (jump s condition offset)
unfolding jump
jump_keeps device s condition offset image is =
    let next = chosen_counter (is_taken condition (register_of s 2)) (target_of (register_of s 0) offset) (behind s 2)
    (target_is (register_of s 0) offset is.even_pc (nat_lt offset 512)) (behind_is device s 2 is refl) in
    let at = cond (is_taken condition (register_of s 2)) (target_of (register_of s 0) offset) (behind s 2) in
    done_keeps device s (Jump condition offset) [] (record { registers = slice_set s.registers 0 at; ram = s.ram; hit = None })
    (record { registers = set_pc s.registers at (state_registers device s is) next.below next.whole; ram = state_memory device s image is })

return_gives : (device : Device) (s : ChipState) → All IsByte device.image → IsChipState device s → Gives (Keeps device) (return device s)
unfolding return
return_gives device s image is =
    let memory = state_memory device s image is in
    let p = is.even_sp in
    let risen = wrapped (register_of s 1 + 4) (omega arith) in
    then_gives (λ (w : ℕ). w < 65536) (Keeps device) _ _ (read_word_gives device s.ram _ memory) (λ status a.
    then_gives (λ (w : ℕ). w < 65536) (Keeps device) _ _ (read_word_gives device s.ram _ memory) (λ target b.
    answer_gives (Keeps device) _ (done_keeps device s ReturnFromInterrupt
    (Access (register_of s 0) Mem false 2 (aligned device Word (register_of s 1)) ∷ Access (register_of s 0) Mem false 2 (aligned device Word ((register_of s 1 + 2) % 65536)) ∷ [])
    (record { registers = slice_set (slice_set (slice_set s.registers 0 (even target)) 1 ((register_of s 1 + 4) % 65536)) 2 (status % 512); ram = s.ram; hit = None })
    (record {
      registers = set_status _ (status % 512) (set_sp _ _ (set_pc s.registers (even target) (state_registers device s is) (even_below target b) (even_is target)) risen.below risen.whole) (omega arith);
      ram = memory;
    }))))

-- ---- steps

pc_below : (device : Device) (s : ChipState) → IsChipState device s → register_of s 0 < 65536
pc_below device s is = All-get_or (λ r. r < 65536) s.registers 0 _ (omega (arith, is.registers)) is.words

enter_gives : (device : Device) (s : ChipState) (vector : ℕ) → All IsByte device.image → IsChipState device s
    → Gives (Keeps device) (enter device s vector)
unfolding enter
enter_gives device s vector image is =
    let are = state_registers device s is in
    let p = is.even_sp in
    let q = is.status in
    let sunk = wrapped (register_of s 1 + 65532) (omega arith) in
    let handler = image_word_below device (vector_address vector) image in
    let pushed_pc : IsMemory device (with_stored device s.ram Word ((register_of s 1 + 65534) % 65536) (register_of s 0)) =
    with_stored_keeps device s.ram Word _ (register_of s 0) (state_memory device s image is) (pc_below device s is) in
    then_gives (λ (bits : ℕ). bits < 128) (Keeps device) _ _ (ask_gives 128 (omega arith)) (λ bits few.
    answer_gives (Keeps device) _ (unless_keeps device wild_cause.Push _ _ _ (state_is device _ _ _
    (set_status _ (register_of s 2 / 64 % 2 * 64) (set_sp _ _ (set_pc s.registers (handler_of device vector) are (even_below _ handler) (even_is _)) sunk.below sunk.whole) (omega arith))
    (with_stored_keeps device _ Word _ (register_of s 2 + 512 * bits) pushed_pc (omega (arith, few, q))))))

executed_gives : (device : Device) (s : ChipState) (instr : Instr) (len : ℕ) → All IsByte device.image
    → IsChipState device s → IsInstr instr → len % 2 ≡ 0
    → Gives (Keeps device) (executed device s instr len)
executed_gives device s (Double operation width origin destination) len image is form h = double_gives device s len operation width origin destination image is h
executed_gives device s (OneOperand operation width operand) len image is form h = one_operand_gives device s len operation width operand image is h form.1
executed_gives device s (Jump condition offset) len image is form h = answer_gives (Keeps device) _ (jump_keeps device s condition offset image is)
executed_gives device s ReturnFromInterrupt len image is form h = return_gives device s image is

-- what stands at an address is an instruction, of an even number of bytes
abbrev pub AreInstrs : Device → Type 0
AreInstrs device = (pc len : ℕ) (instr : Instr) → decoded device.image pc ≡ Ok (instr, len) → IsInstr instr × (len % 2 ≡ 0)

run_gives : (device : Device) (s : ChipState) (pc : ℕ) (found : Result (Instr × ℕ) NoInstr) → All IsByte device.image
    → AreInstrs device → IsChipState device s
    → decoded device.image pc ≡ found → Gives (Keeps device) (run device s found)
run_gives device s pc (Ok (instr, len)) image instrs is e = let (form, whole) = instrs pc len instr e in executed_gives device s instr len image is form whole
run_gives device s pc (Err none) image instrs is e = answer_gives (Keeps device) _ tt

taken_gives : (device : Device) (s : ChipState) (vectors : List ℕ) (option : ℕ) → All IsByte device.image
    → AreInstrs device → IsChipState device s
    → Gives (Keeps device) (taken device s vectors option)
taken_gives device s vectors option image instrs is = choose_gives (Keeps device) (option == 0) _ _
    (run_gives device s (register_of s 0) (decoded device.image (register_of s 0)) image instrs is refl) (enter_gives device s (slice_index vectors (option - 1)) image is)

step_gives : (device : Device) (s : ChipState) → All IsByte device.image → AreInstrs device → IsChipState device s
    → Gives (Keeps device) (step_of device s)
unfolding step_of
step_gives device s image instrs is = let vectors = coming device s in
    then_gives (λ (option : ℕ). option < 1 + length vectors) (Keeps device) _ _ (ask_if_gives (nat_lt 0 (length vectors)) (1 + length vectors) (omega arith))
    (λ option o. taken_gives device s vectors option image instrs is)

pub step_keeps : (device : Device) (s t : ChipState) (choices : List ℕ) (items : List Single) → All IsByte device.image
    → AreInstrs device → IsChipState device s
    → step_of device s choices ≡ Some (Next items t, []) → IsChipState device t
step_keeps device s t choices items image instrs is e = (step_gives device s image instrs is).each choices [] (Next items t) e
