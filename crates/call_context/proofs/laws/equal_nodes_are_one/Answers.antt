use Rattle.call_context.proofs.SameNodes.{frame_same, node_same, unit_same}
use Rattle.call_context.proofs.laws.equal_nodes_are_one.Goals as goal

pub returns : goal.returns
returns c = record { frames = frame_same; nodes = node_same; units = unit_same }
