-- Bytes at their addresses as data records of Intel's Hexadecimal Object File Format Specification, Revision A, 1988.
use Rattle.std.specs.Prelude.{ℕ, ◌+◌, ◌-◌, ◌*◌, ◌/◌, ◌%◌, List, [], ◌∷◌, ◌++◌, zero, suc, length, take, drop, sum, codes}
use Rattle.hex.specs.Hex.{encode_upper}

-- the parts with the numbers from 0 on, so many of them, one behind the other
unfoldable pub each : (ℕ → List ℕ) → ℕ → List ℕ
each part zero = []
each part (suc n) = each part n ++ part n

-- what makes the sum of a record's bytes a multiple of 256
abbrev pub checksum_of : List ℕ → ℕ
checksum_of bytes = (0x100 - sum bytes % 0x100) % 0x100

-- a record of type 00 in front of its checksum: how many data bytes, the address with its high byte first, the type
abbrev pub front_of : ℕ → List ℕ → List ℕ
front_of at bytes = length bytes ∷ at / 0x100 ∷ at % 0x100 ∷ 0x00 ∷ bytes

abbrev pub record_line : ℕ → List ℕ → List ℕ
record_line at bytes =
    codes ":" ++ encode_upper (front_of at bytes ++ checksum_of (front_of at bytes) ∷ []) ++ codes "\n"

-- the bytes from an address on, 16 to a record; the last one has those that remain
abbrev pub record_of : ℕ → List ℕ → ℕ → List ℕ
record_of at bytes k = record_line (at + 16 * k) (take 16 (drop (16 * k) bytes))

abbrev pub stretch_lines : ℕ → List ℕ → List ℕ
stretch_lines at bytes = each (record_of at bytes) ((length bytes + 15) / 16)

abbrev pub end_line : List ℕ
end_line = codes ":00000001FF\n"
