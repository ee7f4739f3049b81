-- What numbers a script denotes, or which of its lines is refused first. Its lines are cut as those of an image text
-- are. A line is blank, or it is a number of 1 to 4 hexadecimal digits in either case; each other one is refused.
use Rattle.std.specs.Prelude.{ℕ, suc, ◌+◌, ◌-◌, ◌*◌, nat_lt, nat_le, ◌&&◌, ◌||◌, if◌then◌else◌, Bool, List, [], ◌∷◌, ◌++◌, length, Result, Ok, Err}
use Rattle.std.specs.List.{list_all}
use Rattle.text_lines.specs.Lines.{lines_of}

-- 0 to 9, A to F, a to f
abbrev pub is_digit : ℕ → Bool
is_digit b = (nat_le 48 b && nat_le b 57) || (nat_le 65 b && nat_le b 70) || (nat_le 97 b && nat_le b 102)

abbrev pub digit_value : ℕ → ℕ
digit_value b = if nat_le b 57 then b - 48 else if nat_le b 70 then 10 + (b - 65) else 10 + (b - 97)

-- the number of digits behind those that gave a number, the highest digit first
abbrev pub number_behind : ℕ → List ℕ → ℕ
number_behind number [] = number
number_behind number (b ∷ digits) = number_behind (number * 16 + digit_value b) digits

abbrev pub number_of : List ℕ → ℕ
number_of digits = number_behind 0 digits

abbrev pub is_number : List ℕ → Bool
is_number line = nat_lt 0 (length line) && nat_le (length line) 4 && list_all is_digit line

-- the numbers of so many lines and of these behind them, or the first of them that is refused, counted from 1
abbrev pub numbers_behind : ℕ → List ℕ → List (List ℕ) → Result (List ℕ) ℕ
numbers_behind count numbers [] = Ok numbers
numbers_behind count numbers ([] ∷ lines) = numbers_behind (suc count) numbers lines
numbers_behind count numbers ((b ∷ bytes) ∷ lines) =
    if is_number (b ∷ bytes) then numbers_behind (suc count) (numbers ++ number_of (b ∷ bytes) ∷ []) lines
    else Err (suc count)

abbrev pub numbers_of : List (List ℕ) → Result (List ℕ) ℕ
numbers_of lines = numbers_behind 0 [] lines

-- what a text denotes: numbers, or its first line that is refused
abbrev pub script_of : List ℕ → Result (List ℕ) ℕ
script_of text = numbers_of (lines_of text)
