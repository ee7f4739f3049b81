use Rattle.std.proofs.Common.{◌≡◌, ◌≤◌, Some, subst, length, slice_get}
use Rattle.std.specs.Prelude.{MatchOption, IfSome}
use Rattle.book_rules.specs.Machine.{Held, version_of}
use Rattle.round_core.specs.Nodes.{held_of}
use Rattle.round_core.specs.Rows.{Rows}
use Rattle.round_core.proofs.DerivedTests.{node_eq, node_eq-same}
use Rattle.round_core.proofs.NodesLemmas.{row-at, version-at}
use Rattle.round_core.proofs.nodes.Nodes.at.Goals as goal

pub returns-clause-row : goal.returns-clause-row
returns-clause-row g c =
    let place = c.args.place in
    subst (λ (v : Rows (Held _)). MatchOption c.at.result (length v.rows ≤ place) (λ found. slice_get v.rows place ≡ Some (held_of (found.0.now, (found.1.now, found.2)))))
    c.self.view_is
    (row-at c.self.inside.table.rows place c.at.result c.at.ensures.row)

pub returns-clause-version : goal.returns-clause-version
returns-clause-version g c =
    subst (λ (v : Rows (Held _)). IfSome c.at.result (λ found. version_of v.rows found.0.now ≡ found.2)) c.self.view_is
    (version-at node_eq (node_eq-same c.equal_nodes_are_one.ensures.nodes) c.self.inside.table.rows c.at.result c.at.ensures.mark)
