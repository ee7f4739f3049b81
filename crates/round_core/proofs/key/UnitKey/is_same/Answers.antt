use Rattle.std.proofs.Common.{◌∙◌, sym}
use Rattle.round_core.proofs.DerivedTests.{unit_eq-same}
use Rattle.round_core.proofs.key.UnitKey.is_same.Goals as goal

pub returns : goal.returns
returns c = c.same_unit.ensures ∙ sym (unit_eq-same c.equal_nodes_are_one.ensures.units c.args.self.now c.args.other.now)
