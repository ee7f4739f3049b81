-- What may stand in memory or at a place is below the numbers of its width: lemmas, also for the proofs of crates above.
use Rattle.std.proofs.Common.{◌≡◌, ℕ, ◌+◌, ◌-◌, ◌<◌, true, Option, None, Some, List, length, slice_index, sym, subst, inl, inr, arith}
use Rattle.std.specs.Prelude.{All}
use Rattle.std.proofs.lemmas.Bool.{cases_lt}
use Rattle.std.proofs.lemmas.List.{get_or_past}
use Rattle.std.proofs.lemmas.List.Elements.{All-get_or}
use Rattle.image.specs.Image.{IsByte, byte_at}
use Rattle.msp430_decode.specs.declared.instr.Width.{Width}
use Rattle.msp430_decode.specs.declared.instr.Width.TheVariants.{Word, Byte}
use Rattle.msp430_chip.specs.declared.device.Device.{Device}
use Rattle.msp430_chip.specs.declared.place.Place.{Place}
use Rattle.msp430_chip.specs.declared.place.Place.TheVariants.{InMemory}
use Rattle.msp430_chip.specs.Arithmetic.{modulus}
use Rattle.msp430_chip.specs.Leading.{MayRead, MayReadByte, MayStandAt}
use Rattle.msp430_chip.specs.Leading.MayReadByte.{OfRam, OfProgram, OfNeither}
use Rattle.msp430_chip.specs.Memory.{aligned, is_ram}

-- of a program

pub byte_is : (image : List (Option ℕ)) (at : ℕ) → All IsByte image → IsByte (byte_at image at)
byte_is image at bytes = elim (cases_lt at (length image)) [
  | inl inside ↦ All-get_or IsByte image at None inside bytes
  | inr past ↦ subst IsByte (sym (get_or_past image at None past)) tt
]

pub image_below : (image : List (Option ℕ)) (at byte : ℕ) → All IsByte image → byte_at image at ≡ Some byte → byte < 256
image_below image at byte bytes e = subst IsByte e (byte_is image at bytes)

-- of RAM

abbrev pub AreBytes : Device → List ℕ → Type 0
AreBytes device ram = (at : ℕ) → is_ram device at ≡ true → slice_index ram (at - device.ram.lo) < 256

pub bytes_are : (device : Device) (ram : List ℕ) → All (λ b. b < 256) ram → AreBytes device ram
bytes_are device ram bytes at inside = let place = at - device.ram.lo in elim (cases_lt place (length ram)) [
  | inl within ↦ All-get_or (λ b. b < 256) ram place 0 within bytes
  | inr past ↦ subst (λ b. b < 256) (sym (get_or_past ram place 0 past)) (omega arith)
]

-- of what is read

pub byte_below : (device : Device) (ram : List ℕ) → All IsByte device.image → AreBytes device ram → (at byte : ℕ)
    → MayReadByte device ram at byte → byte < 256
byte_below device ram image bytes at byte (OfRam inside e) = subst (λ b. b < 256) (sym e) (bytes at inside)
byte_below device ram image bytes at byte (OfProgram outside e) = image_below device.image at byte image e
byte_below device ram image bytes at byte (OfNeither outside e few) = few

pub read_below : (device : Device) (ram : List ℕ) → All IsByte device.image → AreBytes device ram
    → (width : Width) (at x : ℕ) → MayRead device ram width at x → x < modulus width
read_below device ram image bytes Byte at x reads = byte_below device ram image bytes (aligned device Byte at) x reads
read_below device ram image bytes Word at x reads =
    let low = byte_below device ram image bytes (aligned device Word at) reads.low reads.reads_low in
    let high = byte_below device ram image bytes (aligned device Word at + 1) reads.high reads.reads_high in
    omega (arith, low, high, reads.word_is)

pub stands_below : (device : Device) (ram registers : List ℕ) → All IsByte device.image → AreBytes device ram
    → (width : Width) (place : Place) (x : ℕ) → MayStandAt device ram registers width place x → x < modulus width
stands_below device ram registers image bytes width (InMemory address) x reads = read_below device ram image bytes width address x reads
stands_below device ram registers image bytes Word other x e = omega (arith, e)
stands_below device ram registers image bytes Byte other x e = omega (arith, e)
