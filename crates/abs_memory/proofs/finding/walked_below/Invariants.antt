use Rattle.std.proofs.Common.{◌≡◌, ◌+◌, ◌-◌, ◌≤◌, length, drop}
use Rattle.abs_memory.specs.Finding.{places_below}
use Rattle.abs_memory.proofs.finding.walked_below.Given as goal

abbrev pub invariant-loop-below : goal.invariant-loop-below
invariant-loop-below l =
    (l.below ≤ length l.cells) × (l.below + places_below (drop l.below l.cells) l.place ≡ places_below l.cells l.place)

abbrev pub decreases-loop-below : goal.decreases-loop-below
decreases-loop-below l = length l.cells - l.below
