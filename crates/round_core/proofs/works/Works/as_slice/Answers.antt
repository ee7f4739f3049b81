use Rattle.std.proofs.Common.{◌∙◌, ap, map}
use Rattle.round_core.proofs.WorksLemmas.{values-works}
use Rattle.round_core.proofs.works.Works.as_slice.Goals as goal

pub returns : goal.returns
returns g c = c.as_slice.ensures ∙ values-works c.self.inside.table.rows ∙ ap (λ v. map (λ row. (row.unit, row.work)) v.rows) c.self.view_is
