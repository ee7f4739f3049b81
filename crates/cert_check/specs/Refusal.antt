-- Why a table isn't closed: the first refusal in a stated order. The start comes first, and then the locations in the order of
-- the rows: the unit of each, and then its returns in the order of the exits. Of a unit come its opens, of which the one with
-- the least line in a report is told, and then its posts in order.
use Rattle.std.specs.Prelude.{◌≡◌, ℕ, ◌+◌, if◌then◌else◌, Option, None, Some, option_map, Result, Ok, Err, List, [], ◌∷◌, map}
use Rattle.std.specs.List.{flat_map, list_any}
use Rattle.call_context.specs.declared.node.Frame.{Frame}
use Rattle.call_context.specs.declared.node.Node.{Node}
use Rattle.call_context.specs.declared.node.Node.TheVariants.{At, Exit}
use Rattle.call_context.specs.declared.node.Unit.{Unit as WorkUnit}
use Rattle.call_context.specs.declared.node.Unit.TheVariants.{One, Back}
use Rattle.chip_analysis.specs.declared.cause.Cause.{Cause}
use Rattle.chip_analysis.specs.declared.chip.Work.{Work}
use Rattle.chip_analysis.specs.Analysis.{Analysis}
use Rattle.report_bytes.specs.Opens.{open_line_of}
use Rattle.closed_book.specs.ClosedBook.{table_in}
use Rattle.book_rules.specs.Same.{same_frame}
use Rattle.node_fields.specs.declared.outside.Outside.{Outside}
use Rattle.cert_text.specs.Certificate.{is_below}
use Rattle.cert_check.specs.declared.refusal.Refusal.{Refusal}
use Rattle.cert_check.specs.declared.refusal.Refusal.TheVariants.{Unknown, NoStart, NotIn, HasOpen}
use Rattle.cert_check.specs.declared.refusal.CheckError.{CheckError}
use Rattle.cert_check.specs.declared.refusal.CheckError.TheVariants as errors

-- the first that is there
abbrev pub or_else : {R : Type 0} → Option R → Option R → Option R
or_else None second = second
or_else (Some first) second = Some first

abbrev pub first_of : {X R : Type 0} → (X → Option R) → List X → Option R
first_of f [] = None
first_of f (x ∷ xs) = or_else (f x) (first_of f xs)

-- OPENS

abbrev pub Open : Type 0
Open = ℕ × Cause

-- the least of a site and others, by the bytes of its line in a report
abbrev pub least_from : Open → List Open → Open
least_from least [] = least
least_from least (site ∷ opens) =
    least_from (if is_below (open_line_of site.0 site.1) (open_line_of least.0 least.1) then site else least) opens

abbrev pub open_refusal : (line : ℕ) → List Open → Option Refusal
open_refusal line [] = None
open_refusal line (site ∷ opens) = let least = least_from site opens in Some (HasOpen line least.0 least.1)

-- UNITS

-- a unit of a table with its input states
pub record Input (A : Type 0) : Type 0 where
  pub unit : WorkUnit
  pub at : A
  pub exit : Option A

-- the rows from the first exit on
abbrev pub exits_in : {A : Type 0} → List (Node × A) → List (Node × A)
exits_in [] = []
exits_in ((At pc calls frame, state) ∷ rows) = exits_in rows
exits_in ((Exit pc frame, state) ∷ rows) = (Exit pc frame, state) ∷ rows

-- the return to a location from an exit, if it waits for the frame of the exit
abbrev pub return_from : {A : Type 0} → Node → A → (waits : List Frame) → (exit : Node × A) → List (Input A)
return_from node state waits (At pc calls frame, left) = []
return_from node state waits (Exit pc frame, left) =
    if list_any (same_frame frame) waits then record { unit = Back node (Exit pc frame); at = state; exit = Some left } ∷ [] else []

module _ {A : Type 0} (a : Analysis A) where
  abbrev pub work_of : Input A → Work A
  work_of input = a.work input.unit input.at input.exit

  -- the units of a row: that of a location, and its returns
  abbrev pub units_of : (exits : List (Node × A)) → Node × A → List (Input A)
  units_of exits (At pc calls frame, state) =
      record { unit = One (At pc calls frame); at = state; exit = None }
      ∷ flat_map (return_from (At pc calls frame) state (a.work (One (At pc calls frame)) state None).waits) exits
  units_of exits (Exit pc frame, state) = []

  -- each with its work
  abbrev pub worked : Input A → WorkUnit × Work A
  worked input = (input.unit, work_of input)

  abbrev pub works_in : List (Node × A) → List (WorkUnit × Work A)
  works_in rows = map worked (flat_map (units_of (exits_in rows)) rows)

-- REFUSALS

module _ {A : Type 0} (outside : A → A → Option Outside) where
  -- a state for a node, and what a table holds there
  abbrev pub held_refusal : (line : ℕ) → Node → A → Option A → Option Refusal
  held_refusal line node state None = Some (Unknown line node)
  held_refusal line node state (Some held) = option_map (NotIn line node) (outside state held)

  abbrev pub start_refusal : Node → A → Option A → Option Refusal
  start_refusal node state None = Some NoStart
  start_refusal node state (Some held) = option_map (NotIn 0 node) (outside state held)

  abbrev pub post_refusal : (rows : List (Node × A)) → (line : ℕ) → Node × A → Option Refusal
  post_refusal rows line post = held_refusal line post.0 post.1 (table_in rows post.0)

  abbrev pub work_refusal : (rows : List (Node × A)) → (line : ℕ) → Work A → Option Refusal
  work_refusal rows line work = or_else (open_refusal line work.opens) (first_of (post_refusal rows line) work.posts)

module _ {A : Type 0} (a : Analysis A) (outside : A → A → Option Outside) (rows : List (Node × A)) where
  abbrev pub unit_refusal : (line : ℕ) → Input A → Option Refusal
  unit_refusal line input = work_refusal outside rows line (work_of a input)

  -- of more rows, the first of which stands on this line
  abbrev pub rows_refusal : (line : ℕ) → List (Node × A) → Option Refusal
  rows_refusal line [] = None
  rows_refusal line (row ∷ more) = or_else (first_of (unit_refusal line) (units_of a (exits_in rows) row)) (rows_refusal (line + 1) more)

  -- the first refusal of a table whose first row stands on this line, if there is one
  abbrev pub refusal_of : (first : ℕ) → Option Refusal
  refusal_of first =
      or_else (start_refusal outside a.first_node a.first_state (table_in rows a.first_node)) (rows_refusal first rows)

-- the error is the refusal; of refused memory nothing is said
abbrev pub Tells : Option Refusal → CheckError → Type 0
Tells refusal (errors.Refused why) = refusal ≡ Some why
Tells refusal errors.Memory = Unit {0}

-- a value is answered where nothing is refused, and else an error that tells the refusal
abbrev pub Decides : {A : Type 0} → Option Refusal → Result A CheckError → Type 0
Decides refusal (Ok value) = refusal ≡ None
Decides refusal (Err error) = Tells refusal error
