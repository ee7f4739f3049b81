use Rattle.std.proofs.Common.{◌∙◌, ap, map}
use Rattle.book_rules.specs.Machine.{with_done}
use Rattle.round_core.specs.Works.{done_of}
use Rattle.round_core.proofs.DerivedTests.{unit_eq, unit_eq-same}
use Rattle.round_core.proofs.WorksLemmas.{set-works}
use Rattle.round_core.proofs.works.Works.set.Goals as goal

pub returns-clause-rows : goal.returns-clause-rows
returns-clause-rows g c =
    ap (map done_of) c.set_at.ensures.rows
    ∙ set-works unit_eq c.args.unit (unit_eq-same c.equal_nodes_are_one.ensures.units c.args.unit) c.args.work c.args.versions c.self.inside.table.rows
    ∙ ap (λ v. with_done v.rows (done_of (c.args.unit, (c.args.work, c.args.versions)))) c.self.view_is
