use Rattle.std.proofs.Common.{◌∙◌, ap, map, sym, subst}
use Rattle.std.specs.List.{AllByRecursion}
use Rattle.std.specs.Prelude.{◌≡◌, false, filter}
use Rattle.round_core.specs.Former.{is_no_unit}
use Rattle.book_rules.specs.Kept.{is_live}
use Rattle.round_core.specs.Works.{done_of}
use Rattle.round_core.proofs.FormerLemmas.{units-rows}
use Rattle.round_core.proofs.WorksLemmas.{values-works}
use Rattle.round_core.proofs.works.Works.into_live.Goals as goal

pub returns : goal.returns
returns g c =
    let rows = c.self.inside.table.rows in
    c.live_works.ensures rows c.into_parts-places.ensures.marks c.into_parts-places.ensures.values
    (units-rows rows (subst (λ v. AllByRecursion (λ row. is_no_unit row.unit ≡ false) v.rows) (sym c.self.view_is) c.requires))
    ∙ ap (filter (λ p. is_live (map done_of rows) p.0)) (values-works rows)
    ∙ ap (λ v. filter (λ p. is_live v.rows p.0) (map (λ row. (row.unit, row.work)) v.rows)) c.self.view_is
