-- Bytes and words of memory, and stores, keep their form.
use Rattle.std.proofs.Common.{◌≡◌, ℕ, ◌+◌, ◌-◌, ◌*◌, ◌/◌, ◌%◌, ◌<◌, Bool, true, false, cond, List, Option, None, Some, length, slice_index, slice_set, arith}
use Rattle.std.specs.Prelude.{All}
use Rattle.std.proofs.lemmas.Grind.{common_steps}
use Rattle.std.proofs.lemmas.Bool.Decides.{nat_tests}
use Rattle.std.proofs.lemmas.List.Elements.{All-set, All-get_or}
use Rattle.image.specs.Image.{IsByte, byte_at}
use Rattle.msp430_decode.specs.declared.instr.Width.{Width}
use Rattle.msp430_decode.specs.declared.instr.Width.TheVariants.{Word, Byte}
use Rattle.msp430_chip.specs.declared.device.Device.{Device}
use Rattle.choosing.specs.Asking.{answer}
use Rattle.msp430_chip.specs.Arithmetic.{modulus}
use Rattle.msp430_chip.specs.LeadingFacts.{byte_is}
use Rattle.msp430_chip.specs.Memory.{aligned, is_ram, read_outside, read_byte, read_word, read, with_byte, with_stored}
use Rattle.msp430_chip.specs.State.{ram_size, image_word, word_from}
use Rattle.choosing.specs.Gives.{Gives, answer_gives, ask_gives, if_gives, then_gives}

pub record IsMemory (device : Device) (ram : List ℕ) : Type 0 where
  pub image : All IsByte device.image
  pub size : length ram ≡ ram_size device
  pub bytes : All (λ b. b < 256) ram

outside_gives : (byte : Option ℕ) → IsByte byte → Gives (λ (b : ℕ). b < 256) (read_outside byte)
outside_gives None is = ask_gives 256 (omega arith)
outside_gives (Some b) is = answer_gives (λ (b : ℕ). b < 256) b is

within_ram : (device : Device) (at : ℕ) → is_ram device at ≡ true → at - device.ram.lo < ram_size device
within_ram device at is = grind (arith, nat_tests)

ram_byte : (device : Device) (ram : List ℕ) (at : ℕ) → IsMemory device ram → is_ram device at ≡ true
    → slice_index ram (at - device.ram.lo) < 256
ram_byte device ram at is here = let w = within_ram device at here in All-get_or (λ b. b < 256) ram (at - device.ram.lo) _ (omega (arith, is.size, w)) is.bytes

pub read_byte_gives : (device : Device) (ram : List ℕ) (at : ℕ) → IsMemory device ram → Gives (λ (b : ℕ). b < 256) (read_byte device ram at)
unfolding read_byte
read_byte_gives device ram at is = if_gives (λ (b : ℕ). b < 256) (is_ram device at) (answer (slice_index ram (at - device.ram.lo))) (read_outside (byte_at device.image at))
    (λ here. answer_gives (λ (b : ℕ). b < 256) _ (ram_byte device ram at is here))
    (λ _. outside_gives (byte_at device.image at) (byte_is device.image at is.image))

pub read_word_gives : (device : Device) (ram : List ℕ) (at : ℕ) → IsMemory device ram
    → Gives (λ (w : ℕ). w < 65536) (read_word device ram at)
unfolding read_word
read_word_gives device ram at is =
    then_gives (λ (b : ℕ). b < 256) (λ (w : ℕ). w < 65536) _ _ (read_byte_gives device ram (aligned device Word at) is) (λ low l.
    then_gives (λ (b : ℕ). b < 256) (λ (w : ℕ). w < 65536) _ _ (read_byte_gives device ram (aligned device Word at + 1) is) (λ high h.
    answer_gives (λ (w : ℕ). w < 65536) (low + 256 * high) (omega (arith, l, h))))

pub read_gives : (device : Device) (ram : List ℕ) (width : Width) (at : ℕ) → IsMemory device ram
    → Gives (λ (x : ℕ). x < modulus width) (read device ram width at)
read_gives device ram Word at is = read_word_gives device ram at is
read_gives device ram Byte at is = read_byte_gives device ram (aligned device Byte at) is

set_keeps : (device : Device) (ram : List ℕ) (i byte : ℕ) → IsMemory device ram → byte < 256 → IsMemory device (slice_set ram i byte)
set_keeps device ram i byte is below = record {
  image = is.image;
  size = grind (arith, common_steps, is.size);
  bytes = All-set (λ b. b < 256) ram i byte below is.bytes;
}

chosen_keeps : (device : Device) (b : Bool) (ram other : List ℕ) → IsMemory device ram → IsMemory device other
    → IsMemory device (cond b ram other)
chosen_keeps device true ram other is be = is
chosen_keeps device false ram other is be = be

with_byte_keeps : (device : Device) (ram : List ℕ) (at byte : ℕ) → IsMemory device ram → byte < 256
    → IsMemory device (with_byte device ram at byte)
unfolding with_byte
with_byte_keeps device ram at byte is below =
    chosen_keeps device (is_ram device at) (slice_set ram (at - device.ram.lo) byte) ram (set_keeps device ram (at - device.ram.lo) byte is below) is

pub with_stored_keeps : (device : Device) (ram : List ℕ) (width : Width) (at value : ℕ) → IsMemory device ram → value < modulus width
    → IsMemory device (with_stored device ram width at value)
with_stored_keeps device ram Word at value is below =
    with_byte_keeps device (with_byte device ram (aligned device Word at) (value % 256)) (aligned device Word at + 1) (value / 256)
    (with_byte_keeps device ram (aligned device Word at) (value % 256) is (omega arith)) (omega arith)
with_stored_keeps device ram Byte at value is below = with_byte_keeps device ram (aligned device Byte at) value is below

word_below : (low high : Option ℕ) → IsByte low → IsByte high → word_from low high < 65536
word_below None high l h = omega arith
word_below (Some low) None l h = omega arith
word_below (Some low) (Some high) l h = omega (arith, l, h)

pub image_word_below : (device : Device) (at : ℕ) → All IsByte device.image → image_word device at < 65536
image_word_below device at bytes = word_below (byte_at device.image at) (byte_at device.image (at + 1)) (byte_is device.image at bytes) (byte_is device.image (at + 1) bytes)
