-- A reader of a script in pieces, and what a text tells before it has ended.
use Rattle.std.specs.Prelude.{◌≡◌, ◌++◌, ◌∷◌, [], ◌≤◌, ℕ, List, map, length, Option, Ok, Err, ◌+◌}
use Rattle.text_lines.specs.Lines.{feeds_of, without_return, lines_behind, lines_of}
use Rattle.script_text.specs.declared.fault.ScriptError.{ScriptError}
use Rattle.script_text.specs.declared.fault.ScriptError.TheVariants.{Syntax, Memory}
use Rattle.script_text.specs.Script.{numbers_behind, numbers_of, script_of}

-- the text that was fed, and the error that is answered from now on
pub record Reading : Type 0 where
  pub text : List ℕ
  pub error : Option ScriptError

-- the first line that is refused is whole, with its line feed
abbrev pub IsRefusedWithin : List ℕ → ℕ → Type 0
IsRefusedWithin text line = (script_of text ≡ Err line) × (line ≤ feeds_of text)

-- what an error tells of a text that may go on: nothing where memory ran out
abbrev pub TellsFront : List ℕ → ScriptError → Type 0
TellsFront text (Syntax line) = IsRefusedWithin text line
TellsFront text Memory = Unit {0}

-- what an error tells of a whole text
abbrev pub TellsWhole : List ℕ → ScriptError → Type 0
TellsWhole text (Syntax line) = script_of text ≡ Err line
TellsWhole text Memory = Unit {0}

-- what an error tells of the next line behind so many lines that gave these numbers
abbrev pub TellsLine : ℕ → List ℕ → List ℕ → ScriptError → Type 0
TellsLine count numbers line (Syntax refused) =
    (refused ≡ count + 1) × ((lines : List (List ℕ)) → numbers_behind count numbers (line ∷ lines) ≡ Err refused)
TellsLine count numbers line Memory = Unit {0}

-- each line with its line feed, and then a line without one
abbrev pub joined : List (List ℕ) → List ℕ → List ℕ
joined [] begun = begun
joined (line ∷ whole) begun = line ++ 10 ∷ joined whole begun

-- the whole lines of a text and the one that has begun, and the numbers of the whole ones
pub record HasRead (whole : List (List ℕ)) (begun numbers : List ℕ) : Type 0 where
  pub cut : (more : List ℕ) → lines_of (joined whole begun ++ more) ≡ map without_return whole ++ lines_behind begun more
  pub denotes : numbers_of (map without_return whole) ≡ Ok numbers
  pub feeds : feeds_of (joined whole begun) ≡ length whole
  pub small : length (joined whole begun) ≤ 268435456
