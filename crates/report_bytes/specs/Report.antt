-- The report of an analysis, made from the works of its units.
use Rattle.std.specs.Prelude.{ℕ, ◌&&◌, ◌||◌, if◌then◌else◌, Bool, true, false, Option, None, List, [], ◌∷◌, ◌++◌, map, count_by, codes, nat_eq, ◌==◌, ◌≡◌, ◌↔◌, IsTrue}
use Rattle.std.specs.List.{flat_map, starts_with, ends_with}
use Rattle.std.specs.Map.{values_of}
use Rattle.std.specs.Fmt.{decimal}
use Rattle.std.specs.Ordering.{nat_cmp}
use Rattle.std.specs.Cmp.Lexicographic.{slice_cmp}
use Rattle.std.specs.BTreeSet.{insert_key}
use Rattle.std.specs.declared.alloc.Global.{Global}
use Rattle.std.specs.declared.vec.Vec.{Vec}
use Rattle.call_context.specs.declared.node.Unit.{Unit as WorkUnit}
use Rattle.call_context.specs.declared.shown.Item.{Item}
use Rattle.chip_analysis.specs.declared.cause.Cause.{Cause}
use Rattle.chip_analysis.specs.Analysis.{Analysis}
use Rattle.chip_analysis.specs.declared.chip.Work.{Work}
use Rattle.item_lines.specs.Line.{item_line_of}
use Rattle.book_rules.specs.Kept.{live_works}
use Rattle.book_rules.specs.declared.event.Event.{Event}
use Rattle.book_rules.specs.Machine.{BookState, IsFinished, replay}
use Rattle.report_bytes.specs.Opens.{open_line_of}
use Rattle.report_bytes.specs.declared.deepest.Deepest.{Deepest}
use Rattle.report_bytes.specs.declared.lines.Counts.{Counts}
use Rattle.report_bytes.specs.Deepest.{deepest_of, deepest_text}

-- the bytes of lines
abbrev pub bytes_of : List (Vec ℕ Global) → List (List ℕ)
bytes_of lines = map (λ line. line.items) lines

-- a line begins with a letter
abbrev pub begins_with : ℕ → List ℕ → Bool
begins_with letter [] = false
begins_with letter (b ∷ bytes) = b == letter

-- lines put into a set that ascends by their bytes and has each line once
abbrev pub with_lines : List (List ℕ) → List (List ℕ) → List (List ℕ)
with_lines set [] = set
with_lines set (line ∷ lines) = with_lines (insert_key (slice_cmp nat_cmp) set line) lines

-- the lines of a work's items and opens, where instructions have these texts
abbrev pub lines_of : {A : Type 0} → (ℕ → List ℕ → List ℕ) → Work A → List (List ℕ)
lines_of text work = map (item_line_of text) work.items ++ map (λ o. open_line_of o.0 o.1) work.opens

-- the lines of a report of works
abbrev pub reported_lines : {A : Type 0} → (ℕ → List ℕ → List ℕ) → List (Work A) → List (List ℕ)
reported_lines text works = with_lines [] (flat_map (lines_of text) works)

-- what works show
abbrev pub items_of : {A : Type 0} → List (Work A) → List Item
items_of works = flat_map (λ work. work.items) works

abbrev pub is_empty : List (ℕ × Cause) → Bool
is_empty [] = true
is_empty (o ∷ os) = false

-- no work leaves a site open
abbrev pub are_closed : {A : Type 0} → List (Work A) → Bool
are_closed [] = true
are_closed (work ∷ works) = is_empty work.opens && are_closed works

-- a line that tells a whole set of stack pointers
abbrev pub is_whole_stack : List ℕ → Bool
is_whole_stack line =
    starts_with nat_eq line (codes "S ") && (ends_with nat_eq line (codes " *") || ends_with nat_eq line (codes " 0000/2/8000"))

-- how many lines begin with a letter
abbrev pub lines_with : ℕ → List (List ℕ) → ℕ
lines_with letter lines = count_by (begins_with letter) lines

-- how many lines begin with an E, an I, an M, an O and an S, and how many tell a whole set of stack pointers
abbrev pub counts_of : List (List ℕ) → Counts
counts_of lines = record {
  edges = lines_with 69 lines;
  instrs = lines_with 73 lines;
  accesses = lines_with 77 lines;
  opens = lines_with 79 lines;
  stacks = lines_with 83 lines;
  whole = count_by is_whole_stack lines;
}

-- the deepest stack pointer of the lines that don't tell a whole set, and the number of those that do
abbrev pub summary_line : Option Deepest → (whole : ℕ) → List ℕ
summary_line deepest whole = codes "T " ++ deepest_text deepest ++ codes " " ++ decimal whole ++ codes "\n"

abbrev pub summary_of : Option Deepest → List (List ℕ) → List ℕ
summary_of deepest lines = summary_line deepest (count_by is_whole_stack lines)

abbrev pub head_line : Bool → List ℕ
head_line closed = if closed then codes "CLOSED\n" else codes "OPEN\n"

-- a head, the lines with a line feed each, and the summary
abbrev pub report_text : Bool → List (List ℕ) → Option Deepest → List ℕ
report_text closed lines deepest = head_line closed ++ flat_map (λ line. line ++ 10 ∷ []) lines ++ summary_of deepest lines

-- the report of works, which is closed where the book that has them is finished and none leaves a site open
abbrev pub report_of : {A : Type 0} → (ℕ → List ℕ → List ℕ) → Bool → List (Work A) → List ℕ
report_of text finished works = report_text (finished && are_closed works) (reported_lines text works) (deepest_of None (items_of works))

-- the report of a book, and whether it says that it is closed
pub record IsReportOf {A : Type 0} (text : ℕ → List ℕ → List ℕ) (b : BookState A) (report : List ℕ) (closed : Bool) : Type 0 where
  pub finished : Bool
  pub is_finished : IsTrue finished ↔ IsFinished b
  pub bytes : report ≡ report_of text finished (live_works b)
  pub says : closed ≡ (finished && are_closed (live_works b))

-- the last works of the units of the book that a journal leads to
abbrev pub last_works : {A : Type 0} → Analysis A → List Event → List (Work A)
last_works analysis journal = live_works (replay analysis journal)

-- the report of the finished book that a journal leads to, where instructions have these texts
abbrev pub report_of_journal : {A : Type 0} → (ℕ → List ℕ → List ℕ) → Analysis A → List Event → List ℕ
report_of_journal text analysis journal = report_of text true (last_works analysis journal)

-- the text is the report of a book
abbrev pub IsReport : {A : Type 0} → (ℕ → List ℕ → List ℕ) → BookState A → List ℕ → Type 0
IsReport text b report = (closed : Bool) × IsReportOf text b report closed

-- the report of a closed book, whose works leave no site open
abbrev pub closed_report : {A : Type 0} → (ℕ → List ℕ → List ℕ) → List (WorkUnit × Work A) → List ℕ
closed_report text works = report_of text true (values_of works)
