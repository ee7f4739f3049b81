-- What image a text denotes, and which of its lines is the first at fault.
use Rattle.std.specs.Prelude.{◌≡◌, ℕ, ◌+◌, ◌%◌, ◌<◌, ◌==◌, ◌↔◌, nat_lt, Bool, true, false, not, ◌&&◌, ◌||◌, List, [], ◌∷◌, ◌++◌, length, take, drop, sum, slice_index, Option, None, Some, All, Contains, find}
use Rattle.std.specs.List.{slice_index_or, list_any, list_all}
use Rattle.hex.specs.Hex.{is_hex_digit}
use Rattle.image.specs.declared.rule_set.Rules.{Rules}
use Rattle.image.specs.declared.rule_set.Rules.TheVariants.{Msp430, Mcs51}
use Rattle.image.specs.Kept.{lies_in, lies_in_mirror}
use Rattle.image.specs.declared.tail.Tail.{Tail}
use Rattle.image.specs.declared.tail.Tail.TheVariants.{Blank, Second}
use Rattle.ihex_read.specs.declared.fault.HexFault.{HexFault}
use Rattle.ihex_read.specs.declared.fault.HexFault.TheVariants.{NoColon, BadDigit, BadLength, BadSum, BadType, BadTypeLength, OutOfRange, Clash, Misplaced, NoEnd, Trailing, NoReset}
use Rattle.image.specs.Image.{byte_at}
use Rattle.ihex_read.specs.Record.{record_of, is_miscounted, length_of, type_of, is_length_of_type, base_behind, placed_by}

-- the base behind lines: that of the last record of type 02 or 04, else the one in front of them
abbrev pub base_from : ℕ → List (List ℕ) → ℕ
base_from base [] = base
base_from base (line ∷ lines) = base_from (base_behind base (record_of line)) lines

-- what the data records of lines place, each under the base in front of it
abbrev pub placed_from : ℕ → List (List ℕ) → List (ℕ × ℕ)
placed_from base [] = []
placed_from base (line ∷ lines) = placed_by base (record_of line) ++ placed_from (base_behind base (record_of line)) lines

-- the base is 0 at first
abbrev pub base_of : List (List ℕ) → ℕ
base_of lines = base_from 0 lines

abbrev pub placed_of : List (List ℕ) → List (ℕ × ℕ)
placed_of lines = placed_from 0 lines

-- some data record of the lines places the byte at the address
abbrev pub Places : List (List ℕ) → ℕ → ℕ → Type 0
Places lines at value = Contains (placed_of lines) (at, value)

-- another byte than this one was placed at its address
abbrev pub clashes : List (ℕ × ℕ) → ℕ × ℕ → Bool
clashes placed byte = list_any (λ other. (other.0 == byte.0) && not (other.1 == byte.1)) placed

abbrev pub has_byte : List (ℕ × ℕ) → ℕ → Bool
has_byte placed at = list_any (λ byte. byte.0 == at) placed

-- the MSP430 has peripherals below 0200h, and its RAM, which the mirror shows again, holds nothing of an image
abbrev pub is_misplaced : Rules → ℕ → Bool
is_misplaced (Msp430 ram) at = (lies_in 0 511 at || lies_in ram.lo ram.hi at) || lies_in_mirror ram.mirror at
is_misplaced Mcs51 at = false

-- the MSP430 starts at the word at FFFEh
abbrev pub lacks_reset : Rules → List (ℕ × ℕ) → Bool
lacks_reset (Msp430 ram) placed = not (has_byte placed 65534 && has_byte placed 65535)
lacks_reset Mcs51 placed = false

abbrev pub is_end : List ℕ → Bool
is_end line = type_of (record_of line) == 1

-- whether a line that isn't blank has a fault by itself
abbrev pub has_alone : List ℕ → HexFault → Bool
has_alone line NoColon = not (slice_index line 0 == 58)
has_alone line BadDigit = not (list_all is_hex_digit (drop 1 line))
has_alone line BadLength = is_miscounted (drop 1 line)
has_alone line BadSum = not (sum (record_of line) % 256 == 0)
has_alone line BadType = nat_lt 5 (type_of (record_of line))
has_alone line BadTypeLength =
    let bytes = record_of line in not (is_length_of_type (type_of bytes) (length_of bytes))
has_alone line _ = false

-- whether a line that isn't blank has a fault, behind the lines in front of it
abbrev pub has : Rules → List (List ℕ) → List ℕ → HexFault → Bool
-- an offset + i above FFFFh makes an address above FFFFh, under any base
has rules before line OutOfRange = list_any (λ byte. nat_lt 65535 byte.0) (placed_by (base_of before) (record_of line))
has rules before line Clash = list_any (clashes (placed_of before)) (placed_by (base_of before) (record_of line))
has rules before line Misplaced =
    list_any (λ byte. is_misplaced rules byte.0) (placed_by (base_of before) (record_of line))
has rules before line NoReset = is_end line && lacks_reset rules (placed_of before)
has rules before line fault = has_alone line fault

-- the faults of one line in the order in which they are told; NoEnd and Trailing are faults of the whole text
abbrev pub alone_faults : List HexFault
alone_faults = NoColon ∷ BadDigit ∷ BadLength ∷ BadSum ∷ BadType ∷ BadTypeLength ∷ []

abbrev pub placing_faults : List HexFault
placing_faults = OutOfRange ∷ Clash ∷ Misplaced ∷ NoReset ∷ []

-- the fault of a line behind the lines in front of it; a blank line has none
abbrev pub fault_of : Rules → List (List ℕ) → List ℕ → Option HexFault
fault_of rules before [] = None
fault_of rules before (b ∷ bytes) = find (has rules before (b ∷ bytes)) (alone_faults ++ placing_faults)

-- no line is at fault behind those in front of it, and none is an end record
abbrev pub IsOpen : Rules → List (List ℕ) → Type 0
IsOpen rules lines = (k : ℕ) → k < length lines →
    (fault_of rules (take k lines) (slice_index_or lines k []) ≡ None) × (is_end (slice_index_or lines k []) ≡ false)

-- the lines are these, an end record's line, and those behind it
pub record Ends (rules : Rules) (lines before : List (List ℕ)) (line : List ℕ) (behind : List (List ℕ)) : Type 0 where
  pub whole : lines ≡ before ++ line ∷ behind
  pub open_before : IsOpen rules before
  pub accepted : fault_of rules before line ≡ None
  pub ends : is_end line ≡ true

-- the image has the bytes that the lines place, and no others
pub record IsImage (image : List (Option ℕ)) (lines : List (List ℕ)) : Type 0 where
  pub size : length image ≡ 65536
  pub bytes : (at value : ℕ) → (byte_at image at ≡ Some value) ↔ Places lines at value

-- each line behind the end record's is blank; where a second text is expected there is none
abbrev pub IsTail : Tail → List (List ℕ) → Type 0
IsTail Blank behind = All (λ line. line ≡ []) behind
IsTail Second behind = behind ≡ []

abbrev pub Denotes : Rules → Tail → List (List ℕ) → List (Option ℕ) → Type 0
Denotes rules tail lines image = (before : List (List ℕ)) × (line : List ℕ) × (behind : List (List ℕ))
    × Ends rules lines before line behind × IsTail tail behind × IsImage image before

-- where a second text is expected, lines stand behind the end record's: they are none of the image text
pub record GoesOnBehind (rules : Rules) (tail : Tail) (lines : List (List ℕ)) : Type 0 where
  pub expected : tail ≡ Second
  pub before : List (List ℕ)
  pub line : List ℕ
  pub first : List ℕ
  pub behind : List (List ℕ)
  pub ends : Ends rules lines before line (first ∷ behind)

-- the first faulty line, counted from 1, and its fault
pub data FirstFault (rules : Rules) (tail : Tail) (lines : List (List ℕ)) : ℕ → HexFault → Type 0 where
  -- a line up to the end record's has a fault of its own
  of_line : (before : List (List ℕ)) (line : List ℕ) (behind : List (List ℕ)) (fault : HexFault)
      → lines ≡ before ++ line ∷ behind → IsOpen rules before → fault_of rules before line ≡ Some fault
      → FirstFault rules tail lines (length before + 1) fault
  -- no line is an end record
  no_end : IsOpen rules lines → FirstFault rules tail lines (length lines + 1) NoEnd
  -- a line behind the end record's isn't blank, where it must be
  trailing : (before : List (List ℕ)) (line : List ℕ) (blank : List (List ℕ)) (more : List ℕ) (behind : List (List ℕ))
      → Ends rules lines before line (blank ++ more ∷ behind) → All (λ line. line ≡ []) blank → (more ≡ [] → ⊥)
      → tail ≡ Blank → FirstFault rules tail lines (length before + 1 + length blank + 1) Trailing
