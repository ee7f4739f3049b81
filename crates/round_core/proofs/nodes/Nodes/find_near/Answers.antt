use Rattle.std.proofs.Common.{◌≡◌, ◌∙◌, ap, None, Some, subst}
use Rattle.std.specs.Prelude.{MatchOption}
use Rattle.book_rules.specs.Machine.{Held, held_at, place_of}
use Rattle.round_core.specs.Rows.{Rows}
use Rattle.round_core.proofs.DerivedTests.{node_eq, node_eq-same}
use Rattle.round_core.proofs.NodesLemmas.{found-held, position-nodes}
use Rattle.round_core.proofs.nodes.Nodes.find_near.Goals as goal

pub returns-clause-held : goal.returns-clause-held
returns-clause-held g c =
    let node = c.args.node.now in
    subst (λ (v : Rows (Held _)). MatchOption c.find_near.result (held_at v.rows node ≡ None) (λ found. held_at v.rows node ≡ Some (record { node = node; state = found.1.now; rises = found.2 })))
    c.self.view_is
    (found-held node (node_eq node) (node_eq-same c.equal_nodes_are_one.ensures.nodes node) c.self.inside.table.rows c.find_near.result c.find_near.ensures.row)

pub returns-clause-place : goal.returns-clause-place
returns-clause-place g c =
    let node = c.args.node.now in
    c.find_near.ensures.place
    ∙ position-nodes node (node_eq node) (node_eq-same c.equal_nodes_are_one.ensures.nodes node) c.self.inside.table.rows
    ∙ ap (λ v. place_of v.rows node) c.self.view_is
