use Rattle.std.proofs.Common.{◌≡◌, ◌∙◌, ap, sym, refl, true}
use Rattle.book_rules.specs.Machine.{held_at}
use Rattle.book_rules.specs.Same.{same_node}
use Rattle.book_rules.specs.SameTests.{same_node-eq}
use Rattle.round_core.proofs.ahead.looked_at.Goals as goal

pub returns : goal.returns
returns g c = λ nodes is.
    let met = c.args.met.now in
    let node = c.args.node.now in
    let own : same_node node met.node ≡ true = sym c.same_node.ensures ∙ c.if-not-same_node.false in
    record {
      held = record { node = met.node; state = met.state; rises = met.rises };
      held_is = ap (λ n. held_at nodes n) (same_node-eq node met.node own) ∙ is;
      rises = refl;
      row = c.in_ok-row.ensures;
    }
