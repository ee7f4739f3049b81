-- The memory of the MSP430 (SLAU049, chapter 1, "Address Space"): one space of bytes, in which a word has its low byte at
-- the even address. What is neither RAM nor program, peripherals among it, may read as any byte, and holds nothing.
use Rattle.std.specs.Prelude.{◌≡◌, ℕ, ◌+◌, ◌-◌, ◌*◌, ◌/◌, ◌%◌, ◌<◌, ◌&&◌, nat_le, if◌then◌else◌, Bool, true, false, Option, None, Some, is_some, List, slice_index, slice_set}
use Rattle.image.specs.Image.{byte_at}
use Rattle.image.specs.Kept.{HasMirror}
use Rattle.msp430_decode.specs.declared.instr.Width.{Width}
use Rattle.msp430_decode.specs.declared.instr.Width.TheVariants.{Word, Byte}
use Rattle.msp430_chip.specs.declared.device.Device.{Device}
use Rattle.choosing.specs.Asking.{Asking, answer, ask, and_then}
use Rattle.msp430_chip.specs.State.{even}

-- RAM of whole words, in memory, with its mirror
pub record HasRam (device : Device) : Type 0 where
  pub low : device.ram.lo % 2 ≡ 0
  pub high : device.ram.hi % 2 ≡ 1
  pub some : device.ram.lo < device.ram.hi
  pub top : device.ram.hi < 65536
  pub mirror : HasMirror device.ram.lo device.ram.hi device.ram.mirror

abbrev pub is_ram : Device → ℕ → Bool
is_ram device at = nat_le device.ram.lo at && nat_le at device.ram.hi

abbrev pub is_program : Device → ℕ → Bool
is_program device at = is_some (byte_at device.image at)

-- ADDRESSES

abbrev pub size_of : Width → ℕ
size_of Word = 2
size_of Byte = 1

-- an address of the mirror is that of RAM
abbrev pub canon_by : (lo : ℕ) → (mirror : Option (ℕ × ℕ)) → ℕ → ℕ
canon_by lo None at = at
canon_by lo (Some (first, last)) at = if nat_le first at && nat_le at last then lo + (at - first) else at

abbrev pub canon : Device → ℕ → ℕ
canon device at = canon_by device.ram.lo device.ram.mirror at

-- where an access is made: bit 0 of a word's address doesn't count
abbrev pub aligned : Device → Width → ℕ → ℕ
aligned device Word at = canon device (even at)
aligned device Byte at = canon device at

-- READS

abbrev pub read_outside : Option ℕ → Asking ℕ
read_outside (Some byte) = answer byte
read_outside None = ask 256

-- a byte of RAM or of the program, or else any
unfoldable pub read_byte : Device → List ℕ → ℕ → Asking ℕ
read_byte device ram at choices =
    if is_ram device at then Some (slice_index ram (at - device.ram.lo), choices)
    else read_outside (byte_at device.image at) choices

unfoldable pub read_word : Device → List ℕ → ℕ → Asking ℕ
read_word device ram at =
    and_then (read_byte device ram (aligned device Word at)) (λ low.
    and_then (read_byte device ram (aligned device Word at + 1)) (λ high.
    answer (low + 256 * high)))

abbrev pub read : Device → List ℕ → Width → ℕ → Asking ℕ
read device ram Word at = read_word device ram at
read device ram Byte at = read_byte device ram (aligned device Byte at)

-- WRITES

unfoldable pub with_byte : Device → List ℕ → ℕ → ℕ → List ℕ
with_byte device ram at byte = if is_ram device at then slice_set ram (at - device.ram.lo) byte else ram

-- the bytes of RAM behind a store
abbrev pub with_stored : Device → List ℕ → Width → ℕ → ℕ → List ℕ
with_stored device ram Word at value =
    with_byte device (with_byte device ram (aligned device Word at) (value % 256)) (aligned device Word at + 1) (value / 256)
with_stored device ram Byte at value = with_byte device ram (aligned device Byte at) value

abbrev pub first_of : Bool → Bool → ℕ → Option ℕ
first_of true other at = Some at
first_of false true at = Some (at + 1)
first_of false false at = None

-- the lowest byte of the program among those of an access, by the address where it is made
unfoldable pub hit_at : Device → Width → ℕ → Option ℕ
hit_at device Word at = first_of (is_program device at) (is_program device ((at + 1) % 65536)) at
hit_at device Byte at = first_of (is_program device at) false at

-- the lowest byte of the program that a store would write
abbrev pub program_hit : Device → Width → ℕ → Option ℕ
program_hit device width at = hit_at device width (aligned device width at)
