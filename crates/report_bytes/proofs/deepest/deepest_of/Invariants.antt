use Rattle.std.proofs.Common.{◌≡◌, drop}
use Rattle.report_bytes.specs.Deepest.{deepest_of}
use Rattle.report_bytes.proofs.deepest.deepest_of.Given as goal

abbrev pub invariant-loop-item : goal.invariant-loop-item
invariant-loop-item l = deepest_of l.deepest (drop l.item-index l.items) ≡ deepest_of l.fn.deepest l.items
