-- When the bytes of a report show what a step did.
use Rattle.std.specs.Prelude.{◌≡◌, ◌⊎◌, ℕ, List, [], ◌∷◌, ◌++◌}
use Rattle.call_context.specs.declared.shown.Item.{Item}
use Rattle.item_lines.specs.Line.{item_line_of}
use Rattle.call_context.specs.Showing.{Shows}
use Rattle.chip_numbers.specs.Single.{Single}

-- a line begins at the start of a text, or behind a line feed
abbrev pub EndsLine : List ℕ → Type 0
EndsLine front = (front ≡ []) ⊎ ((before : List ℕ) × (front ≡ before ++ 10 ∷ []))

-- one line of the text is exactly this
pub record HasLine (text line : List ℕ) : Type 0 where
  pub front : List ℕ
  pub back : List ℕ
  pub whole : text ≡ front ++ line ++ 10 ∷ back
  pub begins : EndsLine front

-- One line of the text is that of an item which has these numbers: the very line of an instruction with its bytes or of
-- an edge, or the line of an access or of a stack pointer at the address, with a set that has the value.
pub record IsShownIn (text_of : ℕ → List ℕ → List ℕ) (text : List ℕ) (single : Single) : Type 0 where
  pub item : Item
  pub has : Shows item single
  pub line : HasLine text (item_line_of text_of item)
