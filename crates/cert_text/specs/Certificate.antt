-- Certificates: the text of a table of nodes with their states, and the table of a text. A text is a head with a version, a
-- row for each node, the locations before the exits and each kind in the order of the bytes of the node's text, and an end.
-- Each of these is a line with its line feed. In version 2 the pages stand behind the head, each once, in the order of their
-- first use, and rows name them by number in the place of their cells. Version 1 has no pages.
use Rattle.std.specs.Prelude.{◌≡◌, ℕ, suc, ◌+◌, ◌==◌, ◌&&◌, not, if◌then◌else◌, Bool, true, false, Option, None, Some, Result, Ok, Err, List, [], ◌∷◌, ◌++◌, codes, length, map}
use Rattle.std.specs.Cmp.Lexicographic.{slice_cmp}
use Rattle.std.specs.Ordering.{is_lt, nat_cmp}
use Rattle.std.specs.Str.{bytes_eq}
use Rattle.call_context.specs.declared.node.Node.{Node}
use Rattle.chip_analysis.specs.Analysis.{Analysis}
use Rattle.text_fields.specs.Fields.{behind}
use Rattle.text_fields.specs.Lines.{joined, reading, rest_of, whole_lines}
use Rattle.text_fields.specs.Spelling.{Spelling}
use Rattle.node_fields.specs.Nodes.{node_field, row_field}
use Rattle.state_text.specs.Texts.{StateTexts}
use Rattle.cert_pages.specs.Numbers.{name_of}
use Rattle.cert_pages.specs.Pages.{Filled, Page, filled, has_page, is_page, named_in, with_texts}
use Rattle.cert_text.specs.declared.fault.LineFault.{LineFault}
use Rattle.cert_text.specs.declared.fault.LineFault.TheVariants.{Syntax, Order}

abbrev pub first_line : List ℕ
first_line = codes "CERT 2"

-- that of version 1
abbrev pub older_line : List ℕ
older_line = codes "CERT 1"

abbrev pub last_line : List ℕ
last_line = codes "END"

-- the first of two texts stands before the second in the order of bytes
abbrev pub is_below : List ℕ → List ℕ → Bool
is_below first second = is_lt (slice_cmp nat_cmp first second)

-- ROWS OF ANY KIND, in the order of their keys

-- What lines have given: the version of the head, 0 where it wasn't read, whether the last line was read, the rows, the key of
-- the last row, the pages, and how many of them the rows have named, which they do first in the order of their numbers.
pub record Read (R : Type 0) : Type 0 where
  pub version : ℕ
  pub ended : Bool
  pub rows : List R
  pub last : List ℕ
  pub pages : List Page
  pub used : ℕ

abbrev pub at_first : {R : Type 0} → Read R
at_first = record { version = 0; ended = false; rows = []; last = []; pages = []; used = 0 }

abbrev pub no_rows : {R : Type 0} → List R → Bool
no_rows [] = true
no_rows (x ∷ rows) = false

abbrev pub is_empty : List ℕ → Bool
is_empty [] = true
is_empty (b ∷ bytes) = false

-- the rows of lines with this rest behind them, or the line at fault
abbrev pub finish : {R : Type 0} → (rest : List ℕ) → (number : ℕ) → Result (Read R) (ℕ × LineFault) → Result (List R) (ℕ × LineFault)
finish rest number (Ok read) = if read.ended && is_empty rest then Ok read.rows else Err (number, Syntax)
finish rest number (Err bad) = Err bad

-- what stands in front of the cells of a page
abbrev pub page_front : (number : ℕ) → List ℕ
page_front number = codes "P " ++ (name_of number ++ codes " ")

-- the lines of pages, the first with this number
abbrev pub page_lines : (number : ℕ) → List Page → List (List ℕ)
page_lines number [] = []
page_lines number (page ∷ pages) = (page_front number ++ page) ∷ page_lines (suc number) pages

-- the pages of rows in order, each once
abbrev pub pages_in : {R : Type 0} → (digits : ℕ) → Spelling R → List R → List Page
pages_in digits row rows = with_texts digits [] (map row.text rows)

-- the lines of rows that name these pages, and an end
abbrev pub row_lines : {R : Type 0} → (digits : ℕ) → Spelling R → List Page → List R → List (List ℕ)
row_lines digits row pages rows = map (λ x. named_in digits pages (row.text x)) rows ++ last_line ∷ []

-- a head, pages, the rows and an end
abbrev pub listing_of : {R : Type 0} → (digits : ℕ) → Spelling R → List R → List ℕ
listing_of digits row rows = let pages = pages_in digits row rows in
    joined (first_line ∷ (page_lines 0 pages ++ row_lines digits row pages rows)) []

-- in version 1
abbrev pub listing1_of : {R : Type 0} → Spelling R → List R → List ℕ
listing1_of row rows = joined (older_line ∷ (map row.text rows ++ last_line ∷ [])) []

-- The rows of a text, or its first line at fault, counted from 1. Where the end is missing, a line has no line feed or
-- bytes stand behind the last one, that is the line behind the whole ones.
abbrev pub listed_by : {R : Type 0} → (step : Read R → List ℕ → Result (Read R) LineFault) → (text : List ℕ)
    → Result (List R) (ℕ × LineFault)
listed_by step text = finish (rest_of text) (length (whole_lines text) + 1) (reading step 0 at_first (whole_lines text))

-- the head
abbrev pub begin : {R : Type 0} → Read R → (line : List ℕ) → Result (Read R) LineFault
begin read line =
    if bytes_eq line first_line then Ok (record read { version = 2 })
    else if bytes_eq line older_line then Ok (record read { version = 1 })
    else Err Syntax

-- the end, behind which no page is left
abbrev pub end_of : {R : Type 0} → Read R → Result (Read R) LineFault
end_of read = if read.used == length read.pages then Ok (record read { ended = true }) else Err Order

-- one more page, before all rows
abbrev pub paged : {R : Type 0} → (digits : ℕ) → Read R → (cells : List ℕ) → Result (Read R) LineFault
paged digits read cells =
    if is_page digits cells then (if no_rows read.rows && not (has_page read.pages cells)
    then Ok (record read { pages = read.pages ++ cells ∷ [] }) else Err Order) else Err Syntax

module _ {R : Type 0} (row : Spelling R) (key : R → List ℕ) where
  -- rows in form, each with a key above that of the one before
  abbrev pub Ascend : (above : List ℕ) → List R → Type 0
  Ascend above [] = Unit {0}
  Ascend above (x ∷ rows) = row.Form x × (is_below above (key x) ≡ true) × Ascend (key x) rows

  -- one more row, if a line is one, with so many pages used, each in its turn or not
  abbrev pub placed : Read R → (used : ℕ) → (in_turn : Bool) → Option R → Result (Read R) LineFault
  placed read used in_turn None = Err Syntax
  placed read used in_turn (Some x) =
      if in_turn && is_below read.last (key x) then Ok (record read { rows = read.rows ++ x ∷ []; last = key x; used = used })
      else Err Order

  -- one more row, with the cells put back
  abbrev pub placed_filled : Read R → Option (Filled (List ℕ)) → Result (Read R) LineFault
  placed_filled read None = Err Syntax
  placed_filled read (Some found) = placed read found.used found.in_turn (row.value found.read)

  -- a page, or a row
  abbrev pub page_or_row : (digits : ℕ) → Read R → (line : List ℕ) → (cells : Option (List ℕ)) → Result (Read R) LineFault
  page_or_row digits read line (Some cells) = paged digits read cells
  page_or_row digits read line None = placed_filled read (filled digits read.pages read.used line)

  -- one more line
  abbrev pub step : (digits : ℕ) → Read R → (line : List ℕ) → Result (Read R) LineFault
  step digits read line =
      if read.ended then Err Syntax
      else if read.version == 0 then begin read line
      else if bytes_eq line last_line then end_of read
      else if read.version == 1 then placed read read.used true (row.value line)
      else page_or_row digits read line (behind (page_front (length read.pages)) line)

-- NODES WITH THEIR STATES

-- the states of a node as a field
abbrev pub state_field : {A : Type 0} → Analysis A → StateTexts A → Node → Spelling A
state_field a texts node = record { text = texts.text_of; value = texts.state_of node; Form = a.HasForm node }

-- a node, a space and its state
unfoldable pub table_row : {A : Type 0} → Analysis A → StateTexts A → Spelling (Node × A)
table_row a texts = row_field texts.digits (state_field a texts)

-- N or X, a space and the node: so locations stand before exits
abbrev pub node_text : {A : Type 0} → StateTexts A → Node × A → List ℕ
node_text texts row = (node_field texts.digits).text row.0

-- nodes in form with their states, in the order of a certificate
abbrev pub AreRows : {A : Type 0} → Analysis A → StateTexts A → List (Node × A) → Type 0
AreRows a texts rows = Ascend (table_row a texts) (node_text texts) [] rows

-- the certificate of such nodes
abbrev pub cert_of : {A : Type 0} → Analysis A → StateTexts A → List (Node × A) → List ℕ
cert_of a texts rows = listing_of texts.digits (table_row a texts) rows

-- in version 1
abbrev pub cert1_of : {A : Type 0} → Analysis A → StateTexts A → List (Node × A) → List ℕ
cert1_of a texts rows = listing1_of (table_row a texts) rows

-- one more line of a certificate
unfoldable pub table_step : {A : Type 0} → Analysis A → StateTexts A → Read (Node × A) → (line : List ℕ)
    → Result (Read (Node × A)) LineFault
table_step a texts = step (table_row a texts) (node_text texts) texts.digits

-- the nodes with their states that a text denotes, or its first line at fault
abbrev pub table_of : {A : Type 0} → Analysis A → StateTexts A → (text : List ℕ) → Result (List (Node × A)) (ℕ × LineFault)
table_of a texts text = listed_by (table_step a texts) text

-- the line of the first row, behind the head and the pages
abbrev pub first_behind : {R : Type 0} → Result (Read R) (ℕ × LineFault) → ℕ
first_behind (Ok read) = 2 + length read.pages
first_behind (Err bad) = 2

abbrev pub first_row : {A : Type 0} → Analysis A → StateTexts A → (text : List ℕ) → ℕ
first_row a texts text = first_behind (reading (table_step a texts) 0 at_first (whole_lines text))
