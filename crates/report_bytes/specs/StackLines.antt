-- What the `T` line of a report says of its `S` lines.
use Rattle.std.specs.Prelude.{◌≡◌, ◌⊎◌, ℕ, ◌≤◌, true, false, Option, None, Some, IfSome, List, ◌++◌, codes, Contains}
use Rattle.call_context.specs.declared.shown.Item.TheVariants.{Stack}
use Rattle.call_context.specs.declared.shown.Set.{Set}
use Rattle.call_context.specs.declared.shown.Set.TheVariants.{B, W}
use Rattle.call_context.specs.Showing.{HasValue}
use Rattle.chip_analysis.specs.declared.chip.Work.{Work}
use Rattle.hex_digits.specs.Digits.{hex}
use Rattle.item_lines.specs.Line.{set_text}
use Rattle.value_set.specs.Form.{Has}
use Rattle.report_bytes.specs.declared.deepest.Deepest.{Deepest}
use Rattle.report_bytes.specs.declared.deepest.Deepest.TheVariants.{Least, Greatest}
use Rattle.report_bytes.specs.Deepest.{is_whole}
use Rattle.report_bytes.specs.Report.{are_closed, begins_with, is_whole_stack, items_of, report_text}

-- the `S` line of an address
abbrev pub stack_line : (pc : ℕ) → Set → List ℕ
stack_line pc set = codes "S " ++ hex 4 pc ++ codes " " ++ set_text set

-- A stack pointer is no deeper than the one that is named. Stacks of words grow downward, and stacks of bytes upward.
abbrev pub IsNoDeeper : Option Deepest → (sp : ℕ) → Type 0
IsNoDeeper None sp = ⊥
IsNoDeeper (Some (Least least)) sp = least ≤ sp
IsNoDeeper (Some (Greatest greatest)) sp = sp ≤ greatest

-- the set has the stack pointer that is named
abbrev pub HasDeepest : Set → Deepest → Type 0
HasDeepest (W values) (Least least) = Has 65536 values least
HasDeepest (B values) (Greatest greatest) = Has 256 values greatest
HasDeepest (W values) (Greatest greatest) = ⊥
HasDeepest (B values) (Least least) = ⊥

-- the set has all numbers, and its line is one of those that are counted
pub record IsCounted (pc : ℕ) (set : Set) : Type 0 where
  pub whole : is_whole set ≡ true
  pub counted : is_whole_stack (stack_line pc set) ≡ true

-- no number of the set is deeper, unless its line is counted
abbrev pub IsTold : Option Deepest → (pc : ℕ) → Set → Type 0
IsTold deepest pc set = IsCounted pc set ⊎ ((sp : ℕ) → HasValue set sp → IsNoDeeper deepest sp)

-- What is named is a number of an `S` line whose set hasn't all numbers, and of each `S` line no number is deeper, unless
-- the line is counted.
pub record IsDeepestOf (lines : List (List ℕ)) (deepest : Option Deepest) : Type 0 where
  pub named : IfSome deepest (λ d. (pc : ℕ) × (set : Set) × Contains lines (stack_line pc set)
      × (is_whole set ≡ false) × HasDeepest set d)
  pub told : (line : List ℕ) → Contains lines line → begins_with 83 line ≡ true
      → (pc : ℕ) × (set : Set) × (line ≡ stack_line pc set) × IsTold deepest pc set

-- The report of works is made of lines, and its `T` line is that of its `S` lines, of which each stack pointer that the works
-- show has one.
pub record TellsStacks {A : Type 0} (works : List (Work A)) (report : List ℕ) : Type 0 where
  pub lines : List (List ℕ)
  pub deepest : Option Deepest
  pub text : report ≡ report_text (are_closed works) lines deepest
  pub given : IsDeepestOf lines deepest
  pub shown : (pc : ℕ) (set : Set) → Contains (items_of works) (Stack pc set)
      → Contains lines (stack_line pc set) × IsTold deepest pc set
