-- A reader of a certificate in pieces, and what its errors tell.
use Rattle.std.specs.Prelude.{◌≡◌, ◌≤◌, ◌<◌, ◌+◌, ◌^◌, ℕ, Option, Result, Ok, Err, List, length}
use Rattle.std.specs.List.{AllByRecursion}
use Rattle.call_context.specs.declared.node.Node.{Node}
use Rattle.chip_analysis.specs.Analysis.{Analysis}
use Rattle.text_fields.specs.Lines.{IsOneLine, joined, reading, whole_lines}
use Rattle.state_text.specs.Texts.{StateTexts}
use Rattle.cert_text.specs.declared.fault.LineFault.{LineFault}
use Rattle.cert_text.specs.declared.fault.ReadError.{ReadError}
use Rattle.cert_text.specs.declared.fault.ReadError.TheVariants as errors
use Rattle.cert_text.specs.Certificate.{AreRows, Read, at_first, table_step, table_of}

-- the chip's program with options, the text that was fed, and the error that is answered from now on
pub record Reading (B : Type 0) : Type 0 where
  pub base : B
  pub text : List ℕ
  pub error : Option ReadError

-- a table that was read: the chip's program with options, the line of the first row, and the rows
pub record Table (B A : Type 0) : Type 0 where
  pub base : B
  pub first : ℕ
  pub rows : List (Node × A)

-- the rows are a certificate's, and each one's line has a number
pub record IsTable {A : Type 0} (a : Analysis A) (texts : StateTexts A) (first : ℕ) (rows : List (Node × A)) : Type 0 where
  pub are_rows : AreRows a texts rows
  pub lines : first + length rows < 2 ^ 32

-- the whole lines of a text and the one that has begun, and what the whole ones gave
pub record HasRead {A : Type 0} (a : Analysis A) (texts : StateTexts A) (lines : List (List ℕ)) (line : List ℕ) (read : Read (Node × A)) : Type 0 where
  pub whole : AllByRecursion IsOneLine lines
  pub begun : IsOneLine line
  pub reads : reading (table_step a texts) 0 at_first lines ≡ Ok read
  pub small : length (joined lines line) ≤ 268435456

module _ {A : Type 0} (a : Analysis A) (texts : StateTexts A) where
  -- a whole line of the text is the first at fault
  abbrev pub IsFaultyFront : (text : List ℕ) → (number : ℕ) → LineFault → Type 0
  IsFaultyFront text number fault = reading (table_step a texts) 0 at_first (whole_lines text) ≡ Err (number, fault)

  -- of a text that may go on, of a whole text, and of a line behind others: nothing where memory ran out
  abbrev pub TellsFront : (text : List ℕ) → ReadError → Type 0
  TellsFront text (errors.Bad number fault) = IsFaultyFront text number fault
  TellsFront text errors.Memory = Unit {0}

  abbrev pub TellsWhole : (text : List ℕ) → ReadError → Type 0
  TellsWhole text (errors.Bad number fault) = table_of a texts text ≡ Err (number, fault)
  TellsWhole text errors.Memory = Unit {0}

-- of what one more line gives: nothing where memory ran out
abbrev pub TellsLine : {R : Type 0} → (next : Result R LineFault) → (number : ℕ) → ReadError → Type 0
TellsLine next number (errors.Bad at fault) = (at ≡ number) × (next ≡ Err fault)
TellsLine next number errors.Memory = Unit {0}
