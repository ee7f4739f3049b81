-- The faults of a line by itself, in the two steps in which they are found.
use Rattle.std.specs.Prelude.{◌≡◌, ℕ, ◌+◌, ◌%◌, ◌==◌, true, not, nat_lt, if◌then◌else◌, List, length, sum, Option, None, Some, find}
use Rattle.std.specs.List.{list_all}
use Rattle.hex.specs.Hex.{is_hex_digit}
use Rattle.ihex_read.specs.declared.fault.HexFault.{HexFault}
use Rattle.ihex_read.specs.declared.fault.HexFault.TheVariants.{BadDigit, BadLength, BadSum, BadType, BadTypeLength}
use Rattle.ihex_read.specs.ImageText.{alone_faults, has_alone}
use Rattle.ihex_read.specs.Record.{is_miscounted, length_of, type_of, is_length_of_type}

-- the first fault that a line has by itself
abbrev pub alone_fault : List ℕ → Option HexFault
alone_fault line = find (has_alone line) alone_faults

-- the first of those that digits have as such
abbrev pub shape_fault : List ℕ → Option HexFault
shape_fault digits =
    if not (list_all is_hex_digit digits) then Some BadDigit else if is_miscounted digits then Some BadLength else None

-- digits that are no record's number
abbrev pub digits_fault : List ℕ → HexFault
digits_fault digits = if list_all is_hex_digit digits then BadLength else BadDigit

-- the first of those that a record's bytes have as such
abbrev pub content_fault : List ℕ → Option HexFault
content_fault bytes =
    if not (sum bytes % 256 == 0) then Some BadSum
    else if nat_lt 5 (type_of bytes) then Some BadType
    else if not (is_length_of_type (type_of bytes) (length_of bytes)) then Some BadTypeLength
    else None

-- as many data bytes as the length says, and as many as the type has
pub record IsWhole (bytes : List ℕ) : Type 0 where
  pub counted : length_of bytes + 5 ≡ length bytes
  pub fitting : is_length_of_type (type_of bytes) (length_of bytes) ≡ true
