use Rattle.std.proofs.Common.{◌≡◌, ◌++◌, drop, map}
use Rattle.std.specs.List.{flat_map}
use Rattle.chip_flow.specs.Works.{entry_post, entry_waits}
use Rattle.chip_flow.proofs.entries.add_entries.Given as goal

-- what is there, with what the interrupts to come will add
abbrev pub invariant-loop-coming : goal.invariant-loop-coming
invariant-loop-coming g l =
    let flow = g.F.Flow.flow l.flow in
    (l.work.items ++ flat_map (flow.entry_items l.pc) (drop l.coming-index l.all) ≡ l.fn.work.items ++ flat_map (flow.entry_items l.pc) l.all)
    × (l.work.posts ++ map (entry_post flow l.pc l.at) (drop l.coming-index l.all) ≡ l.fn.work.posts ++ map (entry_post flow l.pc l.at) l.all)
    × (l.work.waits ++ flat_map (entry_waits flow) (drop l.coming-index l.all) ≡ l.fn.work.waits ++ flat_map (entry_waits flow) l.all)
    × (l.work.opens ++ flat_map (flow.entry_opens l.pc) (drop l.coming-index l.all) ≡ l.fn.work.opens ++ flat_map (flow.entry_opens l.pc) l.all)
