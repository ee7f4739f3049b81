-- What the analysis of a chip owes by itself, whatever the chip does: it keeps its form, is in order, and leaves a site open
-- only where a stated limit is broken.
use Rattle.std.specs.Prelude.{◌≡◌, ℕ, Option, Contains}
use Rattle.call_context.specs.declared.node.Node.{Node}
use Rattle.call_context.specs.declared.node.Unit.{Unit as WorkUnit}
use Rattle.call_context.specs.declared.node.Unit.TheVariants.{One, Back}
use Rattle.call_context.specs.Nodes.{pc_of, frame_of, HasEntry, IsLocation}
use Rattle.chip_analysis.specs.declared.cause.Cause.{Cause}
use Rattle.chip_analysis.specs.declared.chip.Work.{Work}
use Rattle.chip_analysis.specs.Analysis.{Analysis, AreFormed, KeepsForm, IsOrdered}

-- the location whose work a unit is, or to which it returns
abbrev pub location_of : WorkUnit → Node
location_of (One node) = node
location_of (Back node exit) = node

pub record IsOrderly {A : Type 0} (analysis : Analysis A) : Type 0 where
  pub keeps : KeepsForm analysis
  pub ordered : IsOrdered analysis
  pub exit_form : (exit : Node) (x : A) → ¬ IsLocation exit → analysis.HasForm exit x → HasEntry (frame_of exit)
  -- an open is at the address of its unit's location, where it breaks a stated limit by the location's state
  pub opens_break : (unit : WorkUnit) (at : A) (exit : Option A) (pc : ℕ) (cause : Cause) → AreFormed analysis unit at exit
      → Contains (analysis.work unit at exit).opens (pc, cause)
      → (pc_of (location_of unit) ≡ pc) × analysis.Breaks (location_of unit) at cause
