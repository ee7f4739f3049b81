use Rattle.graph_rows.proofs.said.Goals as goal

pub answer-requires : goal.answer-requires
answer-requires c = c.is_graph.ensures.0 c.if-not-is_graph.false
