use Rattle.std.proofs.Common.{◌∙◌, ap, map}
use Rattle.round_core.specs.Nodes.{big_part}
use Rattle.round_core.proofs.NodesLemmas.{values-nodes}
use Rattle.round_core.proofs.nodes.Nodes.as_slice.Goals as goal

pub returns : goal.returns
returns g c = c.as_slice.ensures ∙ values-nodes c.self.inside.table.rows ∙ ap (λ v. map big_part v.rows) c.self.view_is
