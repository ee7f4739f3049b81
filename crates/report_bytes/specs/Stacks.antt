-- Which way stacks grow. Of works that show both words and bytes as stack pointers a report tells the deepest of the kind that
-- comes first, and so it would tell in which order they stand.
use Rattle.std.specs.Prelude.{ℕ, ◌⊎◌, Option, List, Contains}
use Rattle.value_set.specs.declared.form.Form.{Form}
use Rattle.call_context.specs.declared.node.Unit.{Unit as WorkUnit}
use Rattle.call_context.specs.declared.shown.Item.{Item}
use Rattle.call_context.specs.declared.shown.Item.TheVariants.{Stack}
use Rattle.call_context.specs.declared.shown.Set.TheVariants.{B, W}
use Rattle.chip_analysis.specs.Analysis.{Analysis}

-- no item shows a byte as a stack pointer
abbrev pub HasNoByteStack : List Item → Type 0
HasNoByteStack items = (pc : ℕ) (values : Form) → Contains items (Stack pc (B values)) → ⊥

-- no item shows a word as one
abbrev pub HasNoWordStack : List Item → Type 0
HasNoWordStack items = (pc : ℕ) (values : Form) → Contains items (Stack pc (W values)) → ⊥

-- all items show words, or all bytes
abbrev pub GrowsOneWay : List Item → Type 0
GrowsOneWay items = HasNoByteStack items ⊎ HasNoWordStack items

-- so do all works of an analysis
abbrev pub HasOneStack : {A : Type 0} → Analysis A → Type 0
HasOneStack {A = A} a =
    ((unit : WorkUnit) (at : A) (exit : Option A) → HasNoByteStack (a.work unit at exit).items)
    ⊎ ((unit : WorkUnit) (at : A) (exit : Option A) → HasNoWordStack (a.work unit at exit).items)
