-- A reader of a text in pieces, and what a text tells before it has ended.
use Rattle.std.specs.Prelude.{◌<◌, ◌≤◌, ℕ, List, length, Option}
use Rattle.image.specs.declared.rule_set.Rules.{Rules}
use Rattle.image.specs.declared.tail.Tail.{Tail}
use Rattle.ihex_read.specs.declared.fault.HexFault.{HexFault}
use Rattle.ihex_read.specs.declared.fault.HexError.{HexError}
use Rattle.ihex_read.specs.declared.fault.HexError.TheVariants.{Bad, Memory}
use Rattle.ihex_read.specs.ImageText.{Ends, FirstFault}
use Rattle.text_lines.specs.Lines.{feeds_of, lines_of}

-- what a reader asks of a text, the text that it has used, and the error that it answers from now on
pub record Reading : Type 0 where
  pub rules : Rules
  pub tail : Tail
  pub text : List ℕ
  pub error : Option HexError

-- the end record's line is whole, with its line feed
abbrev pub HasEnded : Rules → List ℕ → Type 0
HasEnded rules text = (before : List (List ℕ)) × (line : List ℕ) × (behind : List (List ℕ))
    × Ends rules (lines_of text) before line behind × (length before < feeds_of text)

-- the first faulty line is whole, with its line feed
abbrev pub FaultsWithin : Rules → Tail → List ℕ → ℕ → HexFault → Type 0
FaultsWithin rules tail text line fault = FirstFault rules tail (lines_of text) line fault × (line ≤ feeds_of text)

-- what an error tells of a text that may go on: nothing where memory ran out
abbrev pub TellsFront : Rules → Tail → List ℕ → HexError → Type 0
TellsFront rules tail text (Bad line fault) = FaultsWithin rules tail text line fault
TellsFront rules tail text Memory = Unit {0}

-- what an error tells of the lines of a whole text, which asks for no memory
abbrev pub TellsWhole : Rules → Tail → List (List ℕ) → HexError → Type 0
TellsWhole rules tail lines (Bad line fault) = FirstFault rules tail lines line fault
TellsWhole rules tail lines Memory = ⊥
