-- When an item of an analysis shows what a step of a chip does.
use Rattle.std.specs.Prelude.{◌≡◌, ℕ, List, Contains}
use Rattle.chip_numbers.specs.Single.{Single}
use Rattle.chip_numbers.specs.Single.Single.{Instr, Edge, Access, Stack}
use Rattle.call_context.specs.declared.shown.Item.{Item}
use Rattle.call_context.specs.declared.shown.Item.TheVariants as sets
use Rattle.call_context.specs.declared.shown.Set.{Set}
use Rattle.call_context.specs.declared.shown.Set.TheVariants.{B, W}
use Rattle.value_set.specs.Form.{Has}

-- a set has the value
abbrev pub HasValue : Set → ℕ → Type 0
HasValue (B values) value = Has 256 values value
HasValue (W values) value = Has 65536 values value

-- an item over sets has the numbers
abbrev pub Shows : Item → Single → Type 0
Shows (sets.Instr pc bytes) (Instr at these) = (at ≡ pc) × (these ≡ bytes)
Shows (sets.Edge origin target) (Edge o t) = (o ≡ origin) × (t ≡ target)
Shows (sets.Access pc space write size set) (Access at kind writes bytes address) =
    (at ≡ pc) × (kind ≡ space) × (writes ≡ write) × (bytes ≡ size) × HasValue set address
Shows (sets.Stack pc set) (Stack at sp) = (at ≡ pc) × HasValue set sp
Shows (sets.Instr pc bytes) other = ⊥
Shows (sets.Edge origin target) other = ⊥
Shows (sets.Access pc space write size set) other = ⊥
Shows (sets.Stack pc set) other = ⊥

-- one of the items shows it
abbrev pub AreShowing : List Item → Single → Type 0
AreShowing items single = (item : Item) × Contains items item × Shows item single
