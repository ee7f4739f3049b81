-- Which promise of a text a step breaks, and what a step shows by items.
use Rattle.std.specs.Prelude.{ℕ, if◌then◌else◌, Bool, Option, None, Some, option_map, List, slice_index}
use Rattle.std.specs.Option.{option_or}
use Rattle.call_context.specs.declared.shown.Item.{Item}
use Rattle.call_context.specs.declared.shown.Item.TheVariants as sets
use Rattle.call_context.specs.declared.shown.Set.{Set}
use Rattle.call_context.specs.declared.shown.Set.TheVariants.{B, W}
use Rattle.chip_numbers.specs.Single.{Single}
use Rattle.chip_numbers.specs.Single.Single.{Instr, Edge, Access, Stack}
use Rattle.value_set.specs.Form.{members}
use Rattle.promises.specs.declared.promise.Promise.{Promise}
use Rattle.promises.specs.declared.promise.Window.{Window}
use Rattle.promises.specs.Keeping.{first_of_all, is_store, keeps_targets, keeps_windows, pc_of, targets_for, windows_for, windows_for_all}
use Rattle.promises.specs.Spoken.{Spoken}
use Rattle.promises.specs.Text.{Numbered}

-- A PROMISE

-- with the number of the line that gives it
abbrev pub numbered : {A : Type 0} → (Promise → Option A) → ℕ × Promise → Option (ℕ × A)
numbered given line = option_map (λ found. (line.0, found)) (given line.1)

abbrev pub line_unless : {A : Type 0} → (Option A → Bool) → Option (ℕ × A) → Option ℕ
line_unless is_kept None = None
line_unless is_kept (Some line) = if is_kept (Some line.1) then None else Some line.0

abbrev pub numbered_windows : Spoken → Numbered → (pc : ℕ) → Option (ℕ × List Window)
numbered_windows spoken list pc =
    option_or (first_of_all (numbered (windows_for pc)) list)
    (if is_store (spoken.at pc) then first_of_all (numbered windows_for_all) list else None)

abbrev pub numbered_targets : Numbered → (pc : ℕ) → Option (ℕ × List ℕ)
numbered_targets list pc = first_of_all (numbered (targets_for pc)) list

abbrev pub broken_at : Spoken → Numbered → (pc : ℕ) → List Single → Option ℕ
broken_at spoken list pc step =
    option_or (line_unless (λ windows. keeps_windows spoken.growth windows step) (numbered_windows spoken list pc))
    (line_unless (λ targets. keeps_targets targets step) (numbered_targets list pc))

abbrev pub broken_from : Spoken → Numbered → (pc : Option ℕ) → List Single → Option ℕ
broken_from spoken list None step = None
broken_from spoken list (Some pc) step = broken_at spoken list pc step

-- the line of the promise that a step breaks, of two that of the windows
abbrev pub broken_by : Spoken → Numbered → List Single → Option ℕ
broken_by spoken list step = broken_from spoken list (pc_of step) step

-- ITEMS

-- the first number of a set
abbrev pub number_in : Set → ℕ
number_in (B values) = slice_index (members 256 values) 0
number_in (W values) = slice_index (members 65536 values) 0

-- what an item shows whose set has one number
abbrev pub single_of : Item → Single
single_of (sets.Instr pc bytes) = Instr pc bytes
single_of (sets.Edge origin target) = Edge origin target
single_of (sets.Access pc space write size set) = Access pc space write size (number_in set)
single_of (sets.Stack pc set) = Stack pc (number_in set)
