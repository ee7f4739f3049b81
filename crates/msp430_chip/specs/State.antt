-- Single states of the MSP430 (SLAU049, chapter 3, "CPU Registers"; chapter 2, "System Reset and Initialization").
use Rattle.std.specs.Prelude.{◌≡◌, ℕ, ◌+◌, ◌-◌, ◌*◌, ◌/◌, ◌%◌, ◌<◌, ◌==◌, Bool, false, Option, None, Some, ◌∷◌, length, replicate, slice_index, All}
use Rattle.image.specs.Image.{byte_at}
use Rattle.msp430_chip.specs.declared.device.Device.{Device}
use Rattle.msp430_chip.specs.declared.state.ChipState.{ChipState}

-- a number without bit 0: the even one of it and its neighbour
abbrev pub even : ℕ → ℕ
even word = word - word % 2

-- the value of a register: PC is R0, SP R1 and SR R2
abbrev pub register_of : ChipState → ℕ → ℕ
register_of s register = slice_index s.registers register

-- GIE, bit 3 of SR. An interrupt may come where this is set or `late` is.
abbrev pub allows_interrupts : ChipState → Bool
allows_interrupts s = register_of s 2 / 8 % 2 == 1

-- how many bytes of RAM the device has
abbrev pub ram_size : Device → ℕ
ram_size device = device.ram.hi + 1 - device.ram.lo

-- sixteen words, of which PC and SP are even, SR holds its bits 8 to 0 and R3 nothing, and the bytes of RAM
pub record IsChipState (device : Device) (s : ChipState) : Type 0 where
  pub registers : length s.registers ≡ 16
  pub words : All (λ r. r < 65536) s.registers
  pub even_pc : register_of s 0 % 2 ≡ 0
  pub even_sp : register_of s 1 % 2 ≡ 0
  pub status : register_of s 2 < 512
  pub nothing : register_of s 3 ≡ 0
  pub ram : length s.ram ≡ ram_size device
  pub bytes : All (λ b. b < 256) s.ram

abbrev pub word_from : Option ℕ → Option ℕ → ℕ
word_from (Some low) (Some high) = low + 256 * high
word_from (Some low) None = 0
word_from None high = 0

-- the word of the image at an even address, where it has both bytes; the low byte stands at the even address
abbrev pub image_word : Device → ℕ → ℕ
image_word device at = word_from (byte_at device.image at) (byte_at device.image (at + 1))

-- where the program starts: the word at FFFEh, as an address
abbrev pub reset_address : Device → ℕ
reset_address device = even (image_word device 0xFFFE)

-- reset clears SR and starts at the reset vector; all else is any
pub record IsResetOf (device : Device) (s : ChipState) : Type 0 where
  pub state : IsChipState device s
  pub starts : register_of s 0 ≡ reset_address device
  pub status : register_of s 2 ≡ 0
  pub not_late : s.late ≡ false

-- the state behind a reset in which all that is any is 0
abbrev pub first_state : Device → ChipState
first_state device = record {
  registers = reset_address device ∷ replicate 15 0;
  ram = replicate (ram_size device) 0;
  late = false;
}
