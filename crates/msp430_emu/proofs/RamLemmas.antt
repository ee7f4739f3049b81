-- A store leaves bytes in RAM.
use Rattle.std.proofs.Common.{ℕ, ◌-◌, ◌<◌, ◌%◌, ◌/◌, if◌then◌else◌, Bool, true, false, List, slice_set, arith}
use Rattle.std.specs.List.{All}
use Rattle.std.proofs.lemmas.List.Elements.{All-set}
use Rattle.msp430_decode.specs.declared.instr.Width.{Width}
use Rattle.msp430_decode.specs.declared.instr.Width.TheVariants.{Word, Byte}
use Rattle.msp430_chip.specs.declared.device.Device.{Device}
use Rattle.msp430_chip.specs.Arithmetic.{modulus}
use Rattle.msp430_chip.specs.Memory as memory
use Rattle.msp430_chip.specs.Memory.{is_ram, with_byte, with_stored}

set_if : (test : Bool) (ram : List ℕ) (place byte : ℕ) → byte < 256 → All (λ b. b < 256) ram
    → All (λ b. b < 256) (if test then slice_set ram place byte else ram)
set_if true ram place byte below bytes = All-set (λ b. b < 256) ram place byte below bytes
set_if false ram place byte below bytes = bytes

byte_kept : (device : Device) (ram : List ℕ) (at byte : ℕ) → byte < 256 → All (λ b. b < 256) ram
    → All (λ b. b < 256) (with_byte device ram at byte)
unfolding memory.with_byte
byte_kept device ram at byte below bytes = set_if (is_ram device at) ram (at - device.ram.lo) byte below bytes

pub bytes_kept : (device : Device) (ram : List ℕ) (width : Width) (at value : ℕ) → value < modulus width → All (λ b. b < 256) ram
    → All (λ b. b < 256) (with_stored device ram width at value)
bytes_kept device ram Word at value below bytes =
    byte_kept device _ _ (value / 256) (omega arith) (byte_kept device ram _ (value % 256) (omega arith) bytes)
bytes_kept device ram Byte at value below bytes = byte_kept device ram _ value below bytes
