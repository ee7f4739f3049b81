use Rattle.std.proofs.Common.{◌∙◌}
use Rattle.round_core.proofs.Cases.{test_true}
use Rattle.round_core.proofs.FormerLemmas.{waits-none, waits-some}
use Rattle.round_core.proofs.former.waits_in.Goals as goal

pub returns-in_default : goal.returns-in_default
returns-in_default g c = λ rows are values.
    waits-none c.equal_nodes_are_one.ensures.units rows c.args.places.now.entries are c.args.node.now c.args.frame.now c.in_default.ensures.index

pub returns-in-Some-get : goal.returns-in-Some-get
returns-in-Some-get g c = λ rows are values.
    let y = c.in-Some-get.ensures.lookup in
    c.waits.ensures
    ∙ waits-some c.equal_nodes_are_one.ensures.units rows c.args.places.now.entries are c.args.node.now c.args.frame.now c.args.works.now values
    c.in-Some.place c.in-Some.ensures.index c.in-Some-get.field-0.now (test_true _ _ y.0) y.1
