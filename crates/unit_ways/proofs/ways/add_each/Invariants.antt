use Rattle.std.proofs.Common.{◌≡◌, ◌++◌, take}
use Rattle.unit_ways.specs.Targets.{targets_of}
use Rattle.unit_ways.specs.Ways.{each_way, edges_of, posts_of}
use Rattle.unit_ways.proofs.ways.add_each.Given as goal

-- the ways to the addresses so far
abbrev pub invariant-loop-place : goal.invariant-loop-place
invariant-loop-place g l =
    (l.ways.items ≡ l.fn.ways.items ++ edges_of (g.S.Site.address l.site) (each_way (take l.place (targets_of l.targets)) l.fn.known))
    × (l.ways.posts ≡ l.fn.ways.posts ++ posts_of (g.S.Site.label l.site) (g.S.Site.frame_of l.site) (each_way (take l.place (targets_of l.targets)) l.fn.known))
    × (l.ways.opens ≡ l.fn.ways.opens)
