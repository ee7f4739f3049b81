use Rattle.std.proofs.Common.{◌∙◌, ap, map, sym}
use Rattle.book_rules.specs.Machine.{place_of, with_held}
use Rattle.round_core.specs.Nodes.{held_of}
use Rattle.round_core.proofs.DerivedTests.{node_eq, node_eq-same}
use Rattle.round_core.proofs.NodesLemmas.{set-nodes, position-nodes}
use Rattle.round_core.proofs.RaisedLemmas.{known-place}
use Rattle.round_core.proofs.nodes.Nodes.set_at.Goals as goal

pub returns-clause-rows : goal.returns-clause-rows
returns-clause-rows g c =
    ap (map held_of) c.set_at.ensures.rows
    ∙ set-nodes node_eq c.args.node (node_eq-same c.equal_nodes_are_one.ensures.nodes c.args.node) c.args.state c.args.rises c.self.inside.table.rows
    ∙ ap (λ v. with_held v.rows (held_of (c.args.node, (c.args.state, c.args.rises)))) c.self.view_is

pub set_at-requires-clause-place : goal.set_at-requires-clause-place
set_at-requires-clause-place g c =
    let node = c.args.node in
    c.known_place-known.ensures ∙ known-place c.args.self.now.rows node c.args.place c.len.result c.requires.place c.len.ensures.len
    ∙ ap (λ v. place_of v.rows node) (sym c.self.view_is)
    ∙ sym (position-nodes node (node_eq node) (node_eq-same c.equal_nodes_are_one.ensures.nodes node) c.self.inside.table.rows)
