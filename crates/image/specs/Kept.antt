-- What the rules of a chip ask of an image.
use Rattle.std.specs.Prelude.{◌≡◌, ◌-◌, ◌%◌, ◌<◌, ◌≤◌, ◌&&◌, ◌||◌, nat_le, nat_lt, Bool, true, false, ℕ, List, length, Option, None, Some, IsSome, All}
use Rattle.image.specs.declared.ram_range.RamRange.{RamRange}
use Rattle.image.specs.declared.rule_set.Rules.{Rules}
use Rattle.image.specs.declared.rule_set.Rules.TheVariants.{Msp430, Mcs51}
use Rattle.image.specs.Image.{byte_at, IsByte}

-- Where RAM from lo to hi answers a second time, from the first of these addresses to the last: at whole words behind the
-- peripherals, of which there are no more than RAM has, and none of them is RAM's.
pub record IsMirror (lo hi first last : ℕ) : Type 0 where
  pub low : first % 2 ≡ 0
  pub high : last % 2 ≡ 1
  pub behind : 512 ≤ first
  pub some : first < last
  pub top : last < 65536
  pub short : last - first ≤ hi - lo
  pub apart : (nat_lt last lo || nat_lt hi first) ≡ true

-- a mirror, if there is one
abbrev pub HasMirror : (lo hi : ℕ) → Option (ℕ × ℕ) → Type 0
HasMirror lo hi None = Unit {0}
HasMirror lo hi (Some (first, last)) = IsMirror lo hi first last

-- RAM stands from an even address to an odd one above it, behind the peripherals, and may have a mirror
abbrev pub IsRamRange : Rules → Type 0
IsRamRange (Msp430 ram) = (ram.lo % 2 ≡ 0) × (ram.hi % 2 ≡ 1) × (512 ≤ ram.lo) × (ram.lo < ram.hi) × HasMirror ram.lo ram.hi ram.mirror
IsRamRange Mcs51 = Unit {0}

-- an address from one to another
abbrev pub lies_in : (lo hi at : ℕ) → Bool
lies_in lo hi at = nat_le lo at && nat_le at hi

abbrev pub lies_in_mirror : (mirror : Option (ℕ × ℕ)) → (at : ℕ) → Bool
lies_in_mirror None at = false
lies_in_mirror (Some (first, last)) at = lies_in first last at

-- an MSP430 with this RAM: the image has nothing where its peripherals, its RAM and the mirror are, and has both bytes of
-- the word at which it starts
pub record SuitsMsp430 (range : RamRange) (image : List (Option ℕ)) : Type 0 where
  pub peripherals : (at : ℕ) → at < 512 → byte_at image at ≡ None
  pub ram : (at : ℕ) → range.lo ≤ at → at ≤ range.hi → byte_at image at ≡ None
  pub mirrored : (at : ℕ) → lies_in_mirror range.mirror at ≡ true → byte_at image at ≡ None
  pub reset_low : IsSome (byte_at image 65534)
  pub reset_high : IsSome (byte_at image 65535)

abbrev pub Suits : Rules → List (Option ℕ) → Type 0
Suits (Msp430 ram) image = SuitsMsp430 ram image
Suits Mcs51 image = Unit {0}

-- a byte or nothing at each address, as the rules ask
pub record IsReadUnder (rules : Rules) (image : List (Option ℕ)) : Type 0 where
  pub size : length image ≡ 65536
  pub bytes : All IsByte image
  pub suits : Suits rules image
