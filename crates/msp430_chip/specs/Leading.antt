-- What a step may lead to, as relations in which no choices stand: each point that is free is any number that it may be. A
-- step of `Step.antt` by any choices leads to what these say (`step_laws`), so that a proof of all steps needs no choices.
use Rattle.std.specs.Prelude.{◌≡◌, ℕ, ◌+◌, ◌-◌, ◌*◌, ◌%◌, ◌<◌, ◌==◌, ◌&&◌, ◌||◌, Bool, true, false, None, Some, Err, List, ◌++◌, Contains, slice_index, slice_set}
use Rattle.image.specs.Image.{byte_at}
use Rattle.chip_numbers.specs.Numbers.{shifted_right, is_decimal, decimal_sum, decimal_carry}
use Rattle.msp430_decode.specs.declared.instr.Width.{Width}
use Rattle.msp430_decode.specs.declared.instr.Width.TheVariants.{Word, Byte}
use Rattle.msp430_decode.specs.declared.instr.Source.{Source}
use Rattle.msp430_decode.specs.declared.instr.Destination.{Destination}
use Rattle.msp430_decode.specs.declared.instr.Operation.{Operation}
use Rattle.msp430_decode.specs.declared.instr.Operation.TheVariants.{Dadd}
use Rattle.msp430_decode.specs.declared.instr.SingleOperation.{SingleOperation}
use Rattle.msp430_decode.specs.declared.instr.SingleOperation.TheVariants.{Rrc, Push, Call}
use Rattle.msp430_decode.specs.declared.instr.Instr.{Instr}
use Rattle.msp430_decode.specs.declared.instr.Instr.TheVariants.{Double, Single as OneOperand, Jump, ReturnFromInterrupt}
use Rattle.msp430_decode.specs.declared.refusal.NoInstr.{NoInstr as ANoInstr}
use Rattle.msp430_decode.specs.Standing.{Decodes, Stands}
use Rattle.choosing.specs.Asking.{IsOption, surely}
use Rattle.choosing.specs.Outcome.Outcome.{Wild}
use Rattle.msp430_chip.specs.declared.device.Device.{Device}
use Rattle.msp430_chip.specs.declared.place.Flags.{Flags}
use Rattle.msp430_chip.specs.declared.place.Place.{Place}
use Rattle.msp430_chip.specs.declared.place.Place.TheVariants.{InRegister, InMemory, Fixed}
use Rattle.msp430_chip.specs.declared.state.ChipState.{ChipState}
use Rattle.msp430_chip.specs.declared.state.Wild.TheVariants.{NoInstr}
use Rattle.msp430_chip.specs.Arithmetic.{Made, modulus, digits_of, top_place, made, result_of, single_result, sets_flags, single_sets_flags, writes_result, reads_destination}
use Rattle.msp430_chip.specs.Interrupts.{coming, entry}
use Rattle.msp430_chip.specs.Memory.{aligned, is_ram}
use Rattle.msp430_chip.specs.Operands.{value_in, grown, source_place, destination_place, is_status, has_free_bits, with_free_bits, access_to}
use Rattle.msp430_chip.specs.Outcome.{Outcome}
use Rattle.msp430_chip.specs.State.{even, register_of}
use Rattle.msp430_chip.specs.Step.{Left, put, put_if, with_status, done, behind, reads_counter, double_accesses, is_formed_by_stack, with_lowered, lowered, pushed, jump, returned}

-- MEMORY AND OPERANDS

-- a byte of RAM, of the program, or else any
pub data MayReadByte (device : Device) (ram : List ℕ) (at byte : ℕ) : Type 0 where
  OfRam : is_ram device at ≡ true → byte ≡ slice_index ram (at - device.ram.lo) → MayReadByte device ram at byte
  OfProgram : is_ram device at ≡ false → byte_at device.image at ≡ Some byte → MayReadByte device ram at byte
  OfNeither : is_ram device at ≡ false → byte_at device.image at ≡ None → byte < 256 → MayReadByte device ram at byte

pub record MayReadWord (device : Device) (ram : List ℕ) (at word : ℕ) : Type 0 where
  pub low : ℕ
  pub high : ℕ
  pub reads_low : MayReadByte device ram (aligned device Word at) low
  pub reads_high : MayReadByte device ram (aligned device Word at + 1) high
  pub word_is : word ≡ low + 256 * high

abbrev pub MayRead : Device → List ℕ → Width → (at x : ℕ) → Type 0
MayRead device ram Word at x = MayReadWord device ram at x
MayRead device ram Byte at x = MayReadByte device ram (aligned device Byte at) x

-- what may stand at a place, but for the bits of SR that nothing holds
abbrev pub MayStandAt : Device → List ℕ → List ℕ → Width → Place → ℕ → Type 0
MayStandAt device ram registers width (InRegister register) x = x ≡ value_in registers register % modulus width
MayStandAt device ram registers width (InMemory address) x = MayRead device ram width address x
MayStandAt device ram registers width (Fixed value) x = x ≡ value % modulus width

-- the same of a destination, which some operations don't read
abbrev pub MayStandIf : Bool → Device → List ℕ → List ℕ → Width → Place → ℕ → Type 0
MayStandIf true device ram registers width place x = MayStandAt device ram registers width place x
MayStandIf false device ram registers width place x = x ≡ 0

-- PC as an operand: behind the instruction, or in front of one of its extension words
pub data MayCount (s : ChipState) (len : ℕ) (source : Source) (destination : Destination) (counted : ℕ) : Type 0 where
  Behind : reads_counter source destination ≡ false → counted ≡ behind s len → MayCount s len source destination counted
  Within : reads_counter source destination ≡ true → (option : ℕ) → option < 2 → counted ≡ (register_of s 0 + 2 + 2 * option) % 65536
      → MayCount s len source destination counted

-- RESULTS

-- DADD: decimal numbers leave V free, and others the whole result and the flags
pub data MayMakeDecimal (width : Width) (x y carry : ℕ) (made_so : Made) : Type 0 where
  Decimal : (is_decimal (digits_of width) x && is_decimal (digits_of width) y) ≡ true → (overflow : Bool)
      → made_so ≡ made width (decimal_sum (digits_of width) x y carry) (decimal_carry (digits_of width) x y carry) overflow
      → MayMakeDecimal width x y carry made_so
  NotDecimal : (is_decimal (digits_of width) x && is_decimal (digits_of width) y) ≡ false → (result : ℕ)
      → result < modulus width → (flags : Flags)
      → made_so ≡ (result, Some flags) → MayMakeDecimal width x y carry made_so

-- nothing but DADD has a free result or free flags
abbrev pub MayMake : Operation → Width → (source destination carry : ℕ) → Made → Type 0
MayMake Dadd width s d carry made_so = MayMakeDecimal width d s carry made_so
MayMake other width s d carry made_so = surely (result_of other width s d carry) ≡ Some made_so

-- RRC leaves V free
abbrev pub MayMakeSingle : SingleOperation → Width → (x carry : ℕ) → Made → Type 0
MayMakeSingle Rrc width x carry made_so =
    (overflow : Bool) × (made_so ≡ made width (shifted_right (top_place width) x carry) (x % 2 == 1) overflow)
MayMakeSingle other width x carry made_so = surely (single_result other width x carry) ≡ Some made_so

-- an SR that is left free, whole
pub record LeavesFree (registers ram : List ℕ) (left : Left) : Type 0 where
  pub status : ℕ
  pub below : status < 512
  pub left_is : left ≡ record { registers = slice_set registers 2 status; ram = ram; hit = None }

-- TWO OPERANDS

pub data MayLeaveDouble (device : Device) (ram registers : List ℕ) (operation : Operation) (width : Width) (place : Place) (x y carry : ℕ) (left : Left) : Type 0 where
  FreeStatus : (sets_flags operation && is_status place) ≡ true → LeavesFree registers ram left
      → MayLeaveDouble device ram registers operation width place x y carry left
  OfResult : (sets_flags operation && is_status place) ≡ false → (made_so : Made) → MayMake operation width x y carry made_so
      → left ≡ with_status made_so.1 (put_if (writes_result operation) device registers ram width place made_so.0)
      → MayLeaveDouble device ram registers operation width place x y carry left

-- the registers that form the source, and those behind it
abbrev pub at_source : ChipState → ℕ → List ℕ
at_source s counted = slice_set s.registers 0 counted

abbrev pub behind_source : ChipState → ℕ → Width → Source → List ℕ
behind_source s counted width source = grown (at_source s counted) width source

abbrev pub origin_of : ChipState → ℕ → Source → Place
origin_of s counted source = source_place (register_of s 0) (at_source s counted) source

abbrev pub place_of : ChipState → (len counted : ℕ) → Width → Source → Destination → Place
place_of s len counted width source destination = destination_place (register_of s 0) len (behind_source s counted width source) destination

pub record MayDouble (device : Device) (s : ChipState) (len : ℕ) (operation : Operation) (width : Width) (source : Source) (destination : Destination)
    (outcome : Outcome ChipState) : Type 0 where
  pub counted : ℕ
  pub x : ℕ
  pub y : ℕ
  pub bits : ℕ
  pub left : Left
  pub counts : MayCount s len source destination counted
  pub reads : MayStandAt device s.ram (at_source s counted) width (origin_of s counted source) x
  pub held : MayStandIf (reads_destination operation) device s.ram (behind_source s counted width source) width (place_of s len counted width source destination) y
  pub free : IsOption (has_free_bits width (origin_of s counted source) || (reads_destination operation && has_free_bits width (place_of s len counted width source destination))) 128 bits
  pub leaves : MayLeaveDouble device s.ram (slice_set (behind_source s counted width source) 0 (behind s len)) operation width (place_of s len counted width source destination)
      (with_free_bits width (origin_of s counted source) bits x) (with_free_bits width (place_of s len counted width source destination) bits y) (register_of s 2 % 2) left
  pub outcome_is : outcome ≡ done s (Double operation width source destination)
      (double_accesses device (register_of s 0) operation width (origin_of s counted source) (place_of s len counted width source destination)) left

-- ONE OPERAND

pub data MayLeaveSingle (device : Device) (ram registers : List ℕ) (operation : SingleOperation) (width : Width) (place : Place) (x carry : ℕ) (left : Left) : Type 0 where
  FreeStatus : (single_sets_flags operation && is_status place) ≡ true → LeavesFree registers ram left
      → MayLeaveSingle device ram registers operation width place x carry left
  OfResult : (single_sets_flags operation && is_status place) ≡ false → (made_so : Made) → MayMakeSingle operation width x carry made_so
      → left ≡ with_status made_so.1 (put device registers ram width place made_so.0)
      → MayLeaveSingle device ram registers operation width place x carry left

pub record MaySingle (device : Device) (s : ChipState) (len : ℕ) (operation : SingleOperation) (width : Width) (operand : Source) (outcome : Outcome ChipState) : Type 0 where
  pub x : ℕ
  pub bits : ℕ
  pub left : Left
  pub reads : MayStandAt device s.ram (at_source s (behind s len)) width (origin_of s (behind s len) operand) x
  pub free : IsOption (has_free_bits width (origin_of s (behind s len) operand)) 128 bits
  pub leaves : MayLeaveSingle device s.ram (behind_source s (behind s len) width operand) operation width (origin_of s (behind s len) operand)
      (with_free_bits width (origin_of s (behind s len) operand) bits x) (register_of s 2 % 2) left
  pub outcome_is : outcome ≡ done s (OneOperand operation width operand)
      (access_to device (register_of s 0) false width (origin_of s (behind s len) operand) ++ access_to device (register_of s 0) true width (origin_of s (behind s len) operand)) left

-- PUSH AND CALL

-- PUSH.B leaves the high byte of the word free
abbrev pub MayPushWord : Width → (x word : ℕ) → Type 0
MayPushWord Word x word = word ≡ x
MayPushWord Byte x word = (high : ℕ) × (high < 256) × (word ≡ x + 256 * high)

abbrev pub MayLeavePush : Device → List ℕ → List ℕ → SingleOperation → Width → (x next : ℕ) → Left → Type 0
MayLeavePush device ram registers Call width x next left = left ≡ pushed device (slice_set registers 0 (even x)) ram next
MayLeavePush device ram registers other width x next left =
    (word : ℕ) × MayPushWord width x word × (left ≡ pushed device registers ram word)

-- the place of the operand, where SP is lowered before it by option 1
abbrev pub pushed_place : ChipState → (len option : ℕ) → Source → Place
pushed_place s len option operand = source_place (register_of s 0) (with_lowered option (at_source s (behind s len))) operand

pub record MayPush (device : Device) (s : ChipState) (len : ℕ) (operation : SingleOperation) (width : Width) (operand : Source) (outcome : Outcome ChipState) : Type 0 where
  pub option : ℕ
  pub x : ℕ
  pub bits : ℕ
  pub left : Left
  pub formed : IsOption (is_formed_by_stack operand) 2 option
  pub reads : MayStandAt device s.ram (with_lowered option (at_source s (behind s len))) width (pushed_place s len option operand) x
  pub free : IsOption (has_free_bits width (pushed_place s len option operand)) 128 bits
  pub leaves : MayLeavePush device s.ram (behind_source s (behind s len) width operand) operation width
      (with_free_bits width (pushed_place s len option operand) bits x) (behind s len) left
  pub outcome_is : outcome ≡ done s (OneOperand operation width operand) (access_to device (register_of s 0) false width (pushed_place s len option operand)
      ++ access_to device (register_of s 0) true Word (InMemory (lowered (slice_index (behind_source s (behind s len) width operand) 1)))) left

-- RETI

pub record MayReturn (device : Device) (s : ChipState) (outcome : Outcome ChipState) : Type 0 where
  pub status : ℕ
  pub target : ℕ
  pub reads_status : MayReadWord device s.ram (register_of s 1) status
  pub reads_target : MayReadWord device s.ram ((register_of s 1 + 2) % 65536) target
  pub outcome_is : outcome ≡ returned device s status target

-- STEPS

abbrev pub MayRunSingle : Device → ChipState → ℕ → SingleOperation → Width → Source → Outcome ChipState → Type 0
MayRunSingle device s len Push width operand outcome = MayPush device s len Push width operand outcome
MayRunSingle device s len Call width operand outcome = MayPush device s len Call width operand outcome
MayRunSingle device s len operation width operand outcome = MaySingle device s len operation width operand outcome

-- an instruction of so many bytes runs
abbrev pub MayRun : Device → ChipState → Instr → ℕ → Outcome ChipState → Type 0
MayRun device s (Double operation width source destination) len outcome = MayDouble device s len operation width source destination outcome
MayRun device s (OneOperand operation width operand) len outcome = MayRunSingle device s len operation width operand outcome
MayRun device s (Jump condition offset) len outcome = outcome ≡ jump s condition offset
MayRun device s ReturnFromInterrupt len outcome = MayReturn device s outcome

-- an interrupt that may come is entered, the instruction that stands at PC runs, or none stands there
pub data MayLead (device : Device) (s : ChipState) (outcome : Outcome ChipState) : Type 0 where
  Enters : (vector bits : ℕ) → Contains (coming device s) vector → bits < 128 → outcome ≡ entry device s vector bits
      → MayLead device s outcome
  Runs : (instr : Instr) (len : ℕ) → Stands device.image (register_of s 0) instr len → MayRun device s instr len outcome
      → MayLead device s outcome
  NoneStands : (none : ANoInstr) → Decodes device.image (register_of s 0) (Err none) → outcome ≡ Wild (NoInstr none)
      → MayLead device s outcome
