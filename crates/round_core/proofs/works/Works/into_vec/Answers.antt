use Rattle.std.proofs.Common.{◌∙◌, ap, map}
use Rattle.round_core.proofs.WorksLemmas.{values-works}
use Rattle.round_core.proofs.works.Works.into_vec.Goals as goal

pub returns : goal.returns
returns g c = c.into_parts-works.ensures.values ∙ values-works c.self.inside.table.rows ∙ ap (λ v. map (λ row. (row.unit, row.work)) v.rows) c.self.view_is
