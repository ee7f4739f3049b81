-- Streams of bytes: what a call takes from a source or appends to a sink, and how faults are counted.
-- A source tells the bytes that are left, and a sink the bytes that it holds, or they tell nothing.
use Rattle.std.specs.Prelude.{◌≡◌, ℕ, ◌+◌, ◌^◌, ◌<◌, ◌≤◌, ◌⊎◌, List, [], ◌++◌, length, take, drop, Option, None, Some}

-- A count of faults rose. One that stands at the greatest 64-bit number rises no further, and counts as risen.
abbrev pub HasRisen : ℕ → ℕ → Type 0
HasRisen before after = (before < after) ⊎ (2 ^ 64 ≤ after + 1)

-- the first n of the bytes that were left stand at the front of the buffer, and the others are left
abbrev pub Takes : Option (List ℕ) → ℕ → List ℕ → Option (List ℕ) → Type 0
Takes None n buffer after = after ≡ None
Takes (Some bytes) n buffer after = (n ≤ length bytes) × (take n buffer ≡ take n bytes) × (after ≡ Some (drop n bytes))

-- nothing is left, where it is told what is left
abbrev pub IsAtEnd : Option (List ℕ) → Type 0
IsAtEnd None = Unit {0}
IsAtEnd (Some bytes) = bytes ≡ []

-- what is held with these bytes behind it, where it is told what is held
abbrev pub appended : Option (List ℕ) → List ℕ → Option (List ℕ)
appended None bytes = None
appended (Some held) bytes = Some (held ++ bytes)

-- some front of the bytes was appended, perhaps nothing
abbrev pub AppendsPrefix : Option (List ℕ) → List ℕ → Option (List ℕ) → Type 0
AppendsPrefix before bytes after = (n : ℕ) × (n ≤ length bytes) × (after ≡ appended before (take n bytes))
