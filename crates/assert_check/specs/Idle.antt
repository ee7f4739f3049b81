-- Assertions that hold for want of anything that could break them.
use Rattle.std.specs.Prelude.{ℕ, not, if◌then◌else◌, Bool, false, List, [], ◌∷◌, ◌++◌}
use Rattle.std.specs.List.{list_any}
use Rattle.call_context.specs.declared.shown.Item.{Item}
use Rattle.call_context.specs.declared.shown.Item.TheVariants.{Instr, Edge, Access, Stack as StackAt}
use Rattle.chip_numbers.specs.declared.space.Space.{Space}
use Rattle.assert_check.specs.declared.assertion.Assertion.{Assertion}
use Rattle.assert_check.specs.declared.assertion.Assertion.TheVariants.{NoExec, NoRead, NoWrite, Stack}
use Rattle.assert_check.specs.Assertions.{is_same}

abbrev pub is_access_in : Space → Item → Bool
is_access_in space (Access pc its write size at) = is_same space its
is_access_in space (Instr pc bytes) = false
is_access_in space (Edge origin target) = false
is_access_in space (StackAt pc at) = false

-- the assertion speaks of accesses to a space, and none of the items is one
abbrev pub is_idle : List Item → Assertion → Bool
is_idle items (NoRead space lo hi) = not (list_any (is_access_in space) items)
is_idle items (NoWrite space lo hi) = not (list_any (is_access_in space) items)
is_idle items (NoExec lo hi) = false
is_idle items (Stack from to lo hi) = false

-- the numbers of the lines of those, in the order of the list
abbrev pub idle_of : List (ℕ × Assertion) → List Item → List ℕ
idle_of [] items = []
idle_of (a ∷ list) items = (if is_idle items a.1 then a.0 ∷ [] else []) ++ idle_of list items
