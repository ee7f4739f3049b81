-- What assertions say of every step of a chip, and which of them the items of an analysis break.
use Rattle.std.specs.Prelude.{ℕ, zero, suc, ◌+◌, ◌%◌, nat_le, not, ◌&&◌, ◌||◌, if◌then◌else◌, Bool, true, false, Option, None, Some, List, [], ◌∷◌, ◌++◌, map, filter, fold}
use Rattle.std.specs.List.{list_any}
use Rattle.std.specs.Ordering.{nat_cmp, is_lt}
use Rattle.std.specs.Cmp.Lexicographic.{slice_cmp}
use Rattle.call_context.specs.declared.shown.Item.{Item}
use Rattle.call_context.specs.declared.shown.Item.TheVariants as sets
use Rattle.call_context.specs.declared.shown.Set.{Set}
use Rattle.call_context.specs.declared.shown.Set.TheVariants.{B, W}
use Rattle.chip_numbers.specs.Single.{Single}
use Rattle.chip_numbers.specs.Single.Single.{Instr, Edge, Access}
use Rattle.chip_numbers.specs.Single.Single.{Stack as StackAt}
use Rattle.chip_numbers.specs.declared.space.Space.{Space}
use Rattle.chip_numbers.specs.declared.space.Space.TheVariants.{Mem, Ram, Sfr, Xram, Code}
use Rattle.value_set.specs.Form.{members}
use Rattle.assert_check.specs.declared.assertion.Assertion.{Assertion}
use Rattle.assert_check.specs.declared.assertion.Assertion.TheVariants.{NoExec, NoRead, NoWrite, Stack}
use Rattle.assert_check.specs.declared.deciding.Broken.{Broken}

-- A STEP

abbrev pub is_between : (lo hi at : ℕ) → Bool
is_between lo hi at = nat_le lo at && nat_le at hi

-- one of so many bytes from an address on stands in the range; behind FFFFh comes 0000h
abbrev pub reaches : (lo hi size address : ℕ) → Bool
reaches lo hi zero address = false
reaches lo hi (suc size) address = reaches lo hi size address || is_between lo hi ((address + size) % 65536)

abbrev pub is_same : Space → Space → Bool
is_same Mem Mem = true
is_same Ram Ram = true
is_same Sfr Sfr = true
is_same Xram Xram = true
is_same Code Code = true
is_same one other = false

-- what a step does breaks the assertion
abbrev pub breaks : Assertion → Single → Bool
breaks (NoExec lo hi) (Instr pc bytes) = is_between lo hi pc
breaks (NoRead space lo hi) (Access pc its write size address) = not write && is_same space its && reaches lo hi size address
breaks (NoWrite space lo hi) (Access pc its write size address) = write && is_same space its && reaches lo hi size address
breaks (Stack from to lo hi) (StackAt pc sp) = is_between from to pc && not (is_between lo hi sp)
breaks assertion other = false

-- that no byte of the range is written, or read
abbrev pub no_access : (write : Bool) → Space → (lo hi : ℕ) → Assertion
no_access true space lo hi = NoWrite space lo hi
no_access false space lo hi = NoRead space lo hi

-- AN ITEM

abbrev pub numbers_in : Set → List ℕ
numbers_in (B values) = members 256 values
numbers_in (W values) = members 65536 values

-- all that an item shows
abbrev pub singles_of : Item → List Single
singles_of (sets.Instr pc bytes) = Instr pc bytes ∷ []
singles_of (sets.Edge origin target) = Edge origin target ∷ []
singles_of (sets.Access pc space write size set) = map (Access pc space write size) (numbers_in set)
singles_of (sets.Stack pc set) = map (StackAt pc) (numbers_in set)

-- some of what the item shows breaks the assertion
abbrev pub breaks_item : Assertion → Item → Bool
breaks_item assertion item = list_any (breaks assertion) (singles_of item)

-- ALL ITEMS

-- the held item, or another one whose line is less in the order of bytes
abbrev pub lesser : (line_of : Item → List ℕ) → Option Item → Item → Option Item
lesser line_of None item = Some item
lesser line_of (Some held) item = if is_lt (slice_cmp nat_cmp (line_of item) (line_of held)) then Some item else Some held

-- the first item whose line is the least, where there are any
abbrev pub least_of : (line_of : Item → List ℕ) → List Item → Option Item
least_of line_of items = fold (lesser line_of) None items

abbrev pub broken_by : (line : ℕ) → Option Item → List Broken
broken_by line None = []
broken_by line (Some item) = record { line = line; item = item } ∷ []

-- The assertions that some item breaks, in the order of the list: each with the number of its line and with that of the
-- items which break it whose line in a report is the least.
abbrev pub broken_of : (line_of : Item → List ℕ) → List (ℕ × Assertion) → List Item → List Broken
broken_of line_of [] items = []
broken_of line_of (a ∷ list) items =
    broken_by a.0 (least_of line_of (filter (breaks_item a.1) items)) ++ broken_of line_of list items
