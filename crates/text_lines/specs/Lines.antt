-- The lines of a text. A line is the bytes up to a line feed, or up to the end of the text where any stand
-- behind the last line feed. One carriage return at its end is none of it.
use Rattle.std.specs.Prelude.{ℕ, ◌-◌, ◌==◌, if◌then◌else◌, List, [], ◌∷◌, ◌++◌, length, take, slice_index, count_by}

abbrev pub without_return : List ℕ → List ℕ
without_return line = if slice_index line (length line - 1) == 13 then take (length line - 1) line else line

-- what stands behind the last line feed: no line, or one
abbrev pub last_line : List ℕ → List (List ℕ)
last_line [] = []
last_line (b ∷ bytes) = without_return (b ∷ bytes) ∷ []

-- the lines that a text makes behind the first bytes of a line
abbrev pub lines_behind : List ℕ → List ℕ → List (List ℕ)
lines_behind begun [] = last_line begun
lines_behind begun (b ∷ text) =
    if b == 10 then without_return begun ∷ lines_behind [] text else lines_behind (begun ++ b ∷ []) text

abbrev pub lines_of : List ℕ → List (List ℕ)
lines_of text = lines_behind [] text

-- how many line feeds a text has: as many of its lines are whole
abbrev pub feeds_of : List ℕ → ℕ
feeds_of text = count_by (λ byte. byte == 10) text
