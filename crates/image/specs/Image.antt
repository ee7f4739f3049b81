-- A memory image: the list of what stands at the addresses from 0 to FFFFh.
use Rattle.std.specs.Prelude.{ℕ, ◌+◌, ◌%◌, ◌<◌, List, [], ◌∷◌, slice_set, Option, None, Some, IsSome}
use Rattle.std.specs.List.{slice_index_or}

-- the byte at an address; there is none behind the last
abbrev pub byte_at : List (Option ℕ) → ℕ → Option ℕ
byte_at image at = slice_index_or image at None

-- a byte, or nothing
abbrev pub IsByte : Option ℕ → Type 0
IsByte None = Unit {0}
IsByte (Some b) = b < 256

-- with these bytes from an address on, which go on at 0 behind FFFFh
abbrev pub placed : ℕ → List ℕ → List (Option ℕ) → List (Option ℕ)
placed at [] places = places
placed at (byte ∷ bytes) places = placed ((at + 1) % 65536) bytes (slice_set places at (Some byte))

-- the image has a byte at one of so many addresses from one on, which go on at 0 behind FFFFh
abbrev pub Meets : List (Option ℕ) → ℕ → ℕ → Type 0
Meets image lo len = (i : ℕ) × (i < len) × IsSome (byte_at image ((lo + i) % 65536))
