use Rattle.std.proofs.Common.{◌∙◌, ap, sym, length}
use Rattle.round_core.specs.Nodes.{held_of}
use Rattle.round_core.proofs.Cases.{length-parts}
use Rattle.round_core.proofs.nodes.Nodes.len.Goals as goal

pub returns-clause-len : goal.returns-clause-len
returns-clause-len g c = c.len.ensures.len ∙ sym (length-parts held_of c.self.inside.table.rows) ∙ ap (λ v. length v.rows) c.self.view_is
