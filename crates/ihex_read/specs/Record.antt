-- The records of Intel's Hexadecimal Object File Format Specification, Revision A, 1988: a colon and pairs of
-- hexadecimal digits for the record length (RECLEN), the load offset, the record type (RECTYP), the data, and a
-- checksum (CHKSUM) that makes the sum of all these bytes 0 modulo 256.
use Rattle.std.specs.Prelude.{ℕ, ◌+◌, ◌-◌, ◌*◌, ◌%◌, ◌==◌, ◌||◌, nat_lt, not, if◌then◌else◌, Bool, true, List, [], ◌∷◌, length, take, drop, slice_index, unwrap_or}
use Rattle.std.specs.List.{enumerate_from}
use Rattle.hex.specs.Hex.{hex_digit_value}

-- the bytes of pairs of digits, the high digit of each first
abbrev pub bytes_of : List ℕ → List ℕ
bytes_of [] = []
bytes_of (digit ∷ []) = []
bytes_of (high ∷ low ∷ digits) =
    (unwrap_or (hex_digit_value high) 0 * 16 + unwrap_or (hex_digit_value low) 0) ∷ bytes_of digits

-- the record of a line: the bytes behind the colon. A blank line has none.
abbrev pub record_of : List ℕ → List ℕ
record_of line = bytes_of (drop 1 line)

-- how many data bytes a record says that it has
abbrev pub length_of : List ℕ → ℕ
length_of bytes = slice_index bytes 0

abbrev pub offset_of : List ℕ → ℕ
offset_of bytes = slice_index bytes 1 * 256 + slice_index bytes 2

-- 00 data, 01 end of file, 02 extended segment address, 03 start segment address, 04 extended linear address,
-- 05 start linear address
abbrev pub type_of : List ℕ → ℕ
type_of bytes = slice_index bytes 3

abbrev pub data_of : List ℕ → List ℕ
data_of bytes = take (length bytes - 5) (drop 4 bytes)

-- digits that are odd in number, give fewer than 5 bytes, or have another length byte than the number of bytes less 5
abbrev pub is_miscounted : List ℕ → Bool
is_miscounted digits =
    let bytes = bytes_of digits in
    (length digits % 2 == 1) || (nat_lt (length bytes) 5 || not (length_of bytes + 5 == length bytes))

-- how many data bytes a record of each type has; one of type 00 has any number
abbrev pub is_length_of_type : ℕ → ℕ → Bool
is_length_of_type kind count =
    if kind == 0 then true
    else if kind == 1 then count == 0
    else if kind == 2 then count == 2
    else if kind == 4 then count == 2
    else count == 4

-- the base behind a record: one of type 02 gives the upper bits of a segment's base, and one of type 04 the upper
-- 16 bits of an address
abbrev pub base_behind : ℕ → List ℕ → ℕ
base_behind base bytes =
    let address = slice_index bytes 4 * 256 + slice_index bytes 5 in
    if type_of bytes == 2 then address * 16
    else if type_of bytes == 4 then address * 65536
    else base

-- the addresses of a data record's bytes, with these bytes, under a base
abbrev pub placed_by : ℕ → List ℕ → List (ℕ × ℕ)
placed_by base bytes = if type_of bytes == 0 then enumerate_from (base + offset_of bytes) (data_of bytes) else []
