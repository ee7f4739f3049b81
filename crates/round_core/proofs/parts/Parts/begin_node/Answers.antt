use Rattle.std.proofs.Common.{◌∙◌, ap, refl}
use Rattle.book_rules.specs.Machine.{with_held}
use Rattle.round_core.specs.Renewal.{first_rise}
use Rattle.round_core.proofs.BeginningLemmas.{node-begins}
use Rattle.round_core.proofs.parts.Parts.begin_node.Goals as goal

pub returns-clause-begins : goal.returns-clause-begins
returns-clause-begins g c =
    node-begins c.args.self.now _ c.args.node c.args.state c.place_for-place.result c.requires.begins c.place_for-place.ensures
    c.in_ok-expect_node.ensures.expected c.expect_node.ensures.grows
    (c.set_at.ensures.rows ∙ ap (λ hs. with_held hs (first_rise (c.args.node, c.args.state))) c.reserve.ensures.rows) c.requires.before refl
