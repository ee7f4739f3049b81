use Rattle.std.proofs.Common.{◌≡◌, sym, ap, ◌∙◌, Some, get_or, arith}
use Rattle.std.specs.Prelude.{option_map}
use Rattle.std.specs.Map.{lookup}
use Rattle.cert_check.proofs.TableLemmas.{found_at, not_placed, same_test}
use Rattle.cert_check.proofs.table.Table.get.Goals as goal

pub returns-in_err-place : goal.returns-in_err-place
returns-in_err-place g c =
    let same = same_test _ c.equal_nodes_are_one.ensures.nodes c.tests_tell_which_are_one.ensures.nodes in
    let none = not_placed _ same c.self.inside.rows.items 0 c.args.node.now (ap (lookup _) (sym c.self.invariant) ∙ sym c.in_err-place.ensures.value) in
    rw (← c.self.view_is) (ap (option_map (λ held. held.now)) c.from_residual.ensures ∙ sym none)

pub index-requires : goal.index-requires
index-requires g c =
    let same = same_test _ c.equal_nodes_are_one.ensures.nodes c.tests_tell_which_are_one.ensures.nodes in
    let found = found_at _ same c.self.inside.rows.items 0 _ c.args.node.now (ap (lookup _) (sym c.self.invariant) ∙ sym c.in_ok-place.ensures.value) in
    omega (arith, found.1, found.2, c.self.inside.rows.ok.0)

pub returns : goal.returns
returns g c =
    let same = same_test _ c.equal_nodes_are_one.ensures.nodes c.tests_tell_which_are_one.ensures.nodes in
    let found = found_at _ same c.self.inside.rows.items 0 _ c.args.node.now (ap (lookup _) (sym c.self.invariant) ∙ sym c.in_ok-place.ensures.value) in
    let at : c.in_ok-place.field-0.now ≡ found.0 = omega (arith, found.1) in
    rw (← c.self.view_is) (ap (λ row. Some row.1) (c.index.ensures ∙ ap (λ k. get_or c.self.inside.rows.items k c.index.result.now) at) ∙ sym
    (found.3 c.index.result.now))
