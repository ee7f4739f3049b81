use Rattle.std.proofs.Common.{◌≡◌, None, Some, subst}
use Rattle.std.specs.Prelude.{MatchOption}
use Rattle.book_rules.specs.Machine.{Done, done_at}
use Rattle.round_core.specs.Rows.{Rows}
use Rattle.round_core.proofs.DerivedTests.{unit_eq, unit_eq-same}
use Rattle.round_core.proofs.WorksLemmas.{found-done}
use Rattle.round_core.proofs.works.Works.find.Goals as goal

pub returns : goal.returns
returns g c =
    let unit = c.args.unit.now in
    subst (λ (v : Rows (Done _)). MatchOption c.find_near.result (done_at v.rows unit ≡ None) (λ found. done_at v.rows unit ≡ Some (record { unit = unit; work = found.1.now; versions = found.2 })))
    c.self.view_is
    (found-done unit (unit_eq unit) (unit_eq-same c.equal_nodes_are_one.ensures.units unit) c.self.inside.table.rows c.find_near.result c.find_near.ensures.row)
