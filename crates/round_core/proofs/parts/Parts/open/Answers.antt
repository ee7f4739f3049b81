use Rattle.std.proofs.Common.{ap}
use Rattle.round_core.proofs.OpenLemmas.{open-shown}
use Rattle.round_core.proofs.parts.Parts.open.Goals as goal

pub returns-clause-shown : goal.returns-clause-shown
returns-clause-shown g c =
    open-shown c.args.node c.args.state
    (record { nodes = c.in_ok-nodes.nodes; works = c.new.result; turns = c.new-2.result; agenda = c.in_ok-agenda.agenda })
    c.in_ok-nodes.ensures c.new.ensures (ap (λ t. t.out) c.new-2.ensures) (ap (λ t. t.returned) c.new-2.ensures)
    c.in_ok-agenda.ensures
