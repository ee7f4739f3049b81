-- A word of four hexadecimal digits in either case.
use Rattle.std.specs.Prelude.{ℕ, ◌+◌, ◌*◌, Option, None, Some, List, [], ◌∷◌}
use Rattle.hex.specs.Hex.{hex_digit_value}

-- the word of four digits, the highest first, where each has a value
abbrev pub word_from : (a b c d : Option ℕ) → Option ℕ
word_from (Some a) (Some b) (Some c) (Some d) = Some (a * 4096 + b * 256 + c * 16 + d)
word_from (Some a) (Some b) (Some c) None = None
word_from (Some a) (Some b) None d = None
word_from (Some a) None c d = None
word_from None b c d = None

-- the word of such digits
abbrev pub word_in_either_case : List ℕ → Option ℕ
word_in_either_case (a ∷ b ∷ c ∷ d ∷ []) = word_from (hex_digit_value a) (hex_digit_value b) (hex_digit_value c) (hex_digit_value d)
word_in_either_case digits = None
