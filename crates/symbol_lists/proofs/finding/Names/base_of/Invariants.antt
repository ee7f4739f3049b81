use Rattle.std.proofs.Common.{◌≡◌, drop}
use Rattle.symbol_lists.specs.Finding.{base_of, later}
use Rattle.symbol_lists.proofs.finding.Names.base_of.Given as goal

abbrev pub invariant-loop-i : goal.invariant-loop-i
invariant-loop-i l = later l.base (base_of l.place l.address (drop l.i l.self.list.items)) ≡ base_of l.place l.address l.self.list.items
