use Rattle.std.proofs.Common.{◌∙◌, sym}
use Rattle.round_core.proofs.DerivedTests.{node_eq-same}
use Rattle.round_core.proofs.key.NodeKey.is_same.Goals as goal

pub returns : goal.returns
returns c = c.same_node.ensures ∙ sym (node_eq-same c.equal_nodes_are_one.ensures.nodes c.args.self.now c.args.other.now)
