-- Numbers as upper-case hexadecimal digits.
use Rattle.std.specs.Prelude.{ℕ, zero, suc, ◌+◌, ◌/◌, ◌%◌, List, [], ◌∷◌, ◌++◌, nat_lt, if◌then◌else◌, codes, flat_map}

-- the character of a digit below 16
abbrev pub hex_digit : ℕ → ℕ
hex_digit n = if nat_lt n 10 then 48 + n else 55 + n

-- the last digits of a number, the highest first
abbrev pub hex : ℕ → ℕ → List ℕ
hex zero n = []
hex (suc digits) n = hex digits (n / 16) ++ hex_digit (n % 16) ∷ []

-- the digits of a number that is below the first one, without leading zeros
abbrev pub digits_below : (bound n : ℕ) → List ℕ
digits_below zero n = []
digits_below (suc bound) n = (if nat_lt n 16 then [] else digits_below bound (n / 16)) ++ hex_digit (n % 16) ∷ []

-- a number without leading zeros, with as many digits as it has
unfoldable pub short_hex : ℕ → List ℕ
short_hex n = digits_below (suc n) n

-- the digits of bytes, one after the other
abbrev pub hex_bytes : List ℕ → List ℕ
hex_bytes bytes = flat_map (hex 2) bytes

-- a byte as an assembler writes it: two digits and an h
abbrev pub byte_text : ℕ → List ℕ
byte_text byte = hex 2 byte ++ codes "h"

-- a word as an assembler writes it: four digits and an h
abbrev pub word_text : ℕ → List ℕ
word_text word = hex 4 word ++ codes "h"
