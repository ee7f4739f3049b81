-- Returns that are no units of a book any more, in a list of units with their works.
use Rattle.std.specs.Prelude.{ℕ, zero, suc, Bool, true, false, if◌then◌else◌, List, [], ◌∷◌, filter}
use Rattle.call_context.specs.declared.node.Frame.TheVariants.{Base}
use Rattle.call_context.specs.declared.node.Node.TheVariants.{At, Exit}
use Rattle.call_context.specs.declared.node.Unit.{Unit as WorkUnit}
use Rattle.call_context.specs.declared.node.Unit.TheVariants.{One, Back}

-- what stands in the place of a unit that is none any more: an exit has no work of its own
abbrev pub no_unit : WorkUnit
no_unit = One (Exit 0 Base)

abbrev pub is_no_unit : WorkUnit → Bool
is_no_unit (One (At pc calls frame)) = false
is_no_unit (One (Exit pc frame)) = true
is_no_unit (Back node exit) = false

module _ {W : Type 0} (live : WorkUnit → Bool) where
  -- a pair whose unit is none where it isn't live
  abbrev pub marked_pair : WorkUnit × W → WorkUnit × W
  marked_pair pair = if live pair.0 then pair else (no_unit, pair.1)

  -- the pairs, of which so many are marked
  abbrev pub marked : ℕ → List (WorkUnit × W) → List (WorkUnit × W)
  marked zero pairs = pairs
  marked (suc count) [] = []
  marked (suc count) (pair ∷ pairs) = marked_pair pair ∷ marked count pairs

  -- the live ones
  abbrev pub live_among : List (WorkUnit × W) → List (WorkUnit × W)
  live_among pairs = filter (λ pair. live pair.0) pairs
