-- What an input gives: an image, perhaps with a second text behind it, or why it gives none.
use Rattle.std.specs.Prelude.{◌≡◌, ◌⊎◌, ℕ, ◌≤◌, ◌<◌, Option, None, Some, IfSome, List, [], ◌++◌, length, take}
use Rattle.image_gen.specs.Made.{made_image}
use Rattle.ihex_read.specs.declared.fault.HexFault.{HexFault}
use Rattle.ihex_read.specs.declared.fault.HexError.{HexError}
use Rattle.ihex_read.specs.declared.fault.HexError.TheVariants as hex_error
use Rattle.image.specs.declared.rule_set.Rules.{Rules}
use Rattle.image.specs.declared.tail.Tail.{Tail}
use Rattle.image.specs.declared.tail.Tail.TheVariants.{Blank, Second}
use Rattle.ihex_read.specs.ImageText.{Denotes, FirstFault}
use Rattle.text_lines.specs.Lines.{feeds_of, lines_of}
use Rattle.ihex_read.specs.Reading.{FaultsWithin, HasEnded}
use Rattle.vsa_top.specs.declared.input.InputError.{InputError}
use Rattle.vsa_top.specs.declared.input.InputError.TheVariants.{Failed, Memory, Bad, TooLong}
use Rattle.vsa_words.specs.declared.reading.Reading.{Reading}
use Rattle.vsa_words.specs.declared.reading.Reading.TheVariants.{Analyse, Assert, Check, Disasm, Run, Gen}

-- the text whose image is asked for: the input, or the text of a made program
abbrev pub input_of : Reading → Option (List ℕ) → Option (List ℕ)
input_of (Gen chip number) input = Some (made_image chip number)
input_of (Analyse task) input = input
input_of (Assert task) input = input
input_of (Check task) input = input
input_of (Disasm target) input = input
input_of (Run target steps) input = input

-- the longest image text
abbrev pub text_limit : ℕ
text_limit = 4194304

-- the first bytes of a text, at most as many as an image text has
abbrev pub front_of : List ℕ → List ℕ
front_of text = take text_limit text

-- the text is within the limit and denotes the image
pub record IsImageOf (rules : Rules) (text : List ℕ) (image : List (Option ℕ)) : Type 0 where
  pub fits : length text ≤ text_limit
  pub denoted : Denotes rules Blank (lines_of text) image

-- An image text and a second text behind it. The image text ends with the end record's line, at the first place where that
-- is whole, or there is nothing behind it.
pub record AreTexts (rules : Rules) (text : List ℕ) (image : List (Option ℕ)) (second : List ℕ) : Type 0 where
  pub front : List ℕ
  pub whole : text ≡ front ++ second
  pub first : (k : ℕ) → k < length front → HasEnded rules (take k front) → ⊥
  pub ends : (second ≡ []) ⊎ HasEnded rules front
  pub fits : length front ≤ text_limit
  pub denoted : Denotes rules Second (lines_of front) image

-- bytes in front of what is left, where that is told
abbrev pub begun_with : List ℕ → Option (List ℕ) → Option (List ℕ)
begun_with begun None = None
begun_with begun (Some left) = Some (begun ++ left)

-- the text gives the image, with this second text behind it where one is expected
abbrev pub Gives : Rules → Tail → List ℕ → List (Option ℕ) → List ℕ → Type 0
Gives rules Blank text image second = IsImageOf rules text image × (second ≡ [])
Gives rules Second text image second = AreTexts rules text image second

-- the input gives the image, with this second text behind it; they may not be told
abbrev pub InputGives : Rules → Tail → (input second : Option (List ℕ)) → List (Option ℕ) → Type 0
InputGives rules tail input second image =
    IfSome input (λ text. (behind : List ℕ) × (second ≡ Some behind) × Gives rules tail text image behind)

-- the first faulty line of the text's first bytes: it is whole there, with its line feed, or the text has no more bytes
pub record IsBad (rules : Rules) (tail : Tail) (text : List ℕ) (line : ℕ) (fault : HexFault) : Type 0 where
  pub first : FirstFault rules tail (lines_of (front_of text)) line fault
  pub told : (line ≤ feeds_of (front_of text)) ⊎ (length text ≤ text_limit)

-- the text has more bytes, no faulty line is whole among the first ones, and no second text begins there
pub record IsTooLong (rules : Rules) (tail : Tail) (text : List ℕ) : Type 0 where
  pub longer : text_limit < length text
  pub faultless : (line : ℕ) (fault : HexFault) → FaultsWithin rules tail (front_of text) line fault → ⊥
  pub unended : tail ≡ Second → HasEnded rules (front_of text) → ⊥

-- what a reader's error is called here
abbrev pub input_error_of : HexError → InputError
input_error_of (hex_error.Bad line fault) = Bad line fault
input_error_of hex_error.Memory = Memory

-- what is told of a text that gives no image; a source that fails and want of memory tell nothing
abbrev pub LacksImage : Rules → Tail → List ℕ → InputError → Type 0
LacksImage rules tail text (Bad line fault) = IsBad rules tail text line fault
LacksImage rules tail text TooLong = IsTooLong rules tail text
LacksImage rules tail text Failed = Unit {0}
LacksImage rules tail text Memory = Unit {0}
