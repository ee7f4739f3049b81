-- What the lines that were accepted so far have made: a base and an image. The faults of the next line are told by
-- these two alone.
use Rattle.std.specs.Prelude.{◌≡◌, ℕ, ◌==◌, Bool, true, false, not, ◌&&◌, nat_lt, List, [], ◌∷◌, Option, None, Some, is_some, slice_set, find}
use Rattle.std.specs.List.{list_any}
use Rattle.image.specs.declared.rule_set.Rules.{Rules}
use Rattle.image.specs.declared.rule_set.Rules.TheVariants.{Msp430, Mcs51}
use Rattle.ihex_read.specs.declared.fault.HexFault.{HexFault}
use Rattle.ihex_read.specs.declared.fault.HexFault.TheVariants.{OutOfRange, Clash, Misplaced, NoReset}
use Rattle.image.specs.Image.{byte_at}
use Rattle.ihex_read.specs.ImageText.{base_of, IsImage, placing_faults, is_misplaced}
use Rattle.ihex_read.specs.Record.{type_of, placed_by}

-- the base and the image that these lines make
pub record Made (lines : List (List ℕ)) (base : ℕ) (image : List (Option ℕ)) : Type 0 where
  pub based : base ≡ base_of lines
  pub placed : IsImage image lines

-- another byte than this one is there
abbrev pub differs : Option ℕ → ℕ → Bool
differs None value = false
differs (Some held) value = not (held == value)

-- the image with each byte at its address
abbrev pub written : List (Option ℕ) → List (ℕ × ℕ) → List (Option ℕ)
written image [] = image
written image (byte ∷ bytes) = written (slice_set image byte.0 (Some byte.1)) bytes

abbrev pub is_resettable : Rules → List (Option ℕ) → Bool
is_resettable (Msp430 ram) image = is_some (byte_at image 65534) && is_some (byte_at image 65535)
is_resettable Mcs51 image = true

abbrev pub is_outside : ℕ × ℕ → Bool
is_outside byte = nat_lt 65535 byte.0

abbrev pub is_taken : List (Option ℕ) → ℕ × ℕ → Bool
is_taken image byte = differs (byte_at image byte.0) byte.1

-- whether a record of this type that places these bytes has a fault, behind an image
abbrev pub has_placing : Rules → List (Option ℕ) → ℕ → List (ℕ × ℕ) → HexFault → Bool
has_placing rules image kind bytes OutOfRange = list_any is_outside bytes
has_placing rules image kind bytes Clash = list_any (is_taken image) bytes
has_placing rules image kind bytes Misplaced = list_any (λ byte. is_misplaced rules byte.0) bytes
has_placing rules image kind bytes NoReset = (kind == 1) && not (is_resettable rules image)
has_placing rules image kind bytes _ = false

-- the first fault of data bytes at these addresses, behind an image
abbrev pub row_fault : Rules → List (Option ℕ) → List (ℕ × ℕ) → Option HexFault
row_fault rules image bytes = find (has_placing rules image 0 bytes) placing_faults

-- the first fault of a record under a base, behind an image
abbrev pub placing_fault : Rules → ℕ → List (Option ℕ) → List ℕ → Option HexFault
placing_fault rules base image bytes =
    find (has_placing rules image (type_of bytes) (placed_by base bytes)) placing_faults
