use Rattle.cert_text.proofs.OrderLemmas.{rows_are_nodes}
use Rattle.cert_text.proofs.cert.Cert.nodes.Goals as goal

pub returns-clause-rows : goal.returns-clause-rows
returns-clause-rows g c = rw (← c.self.view_is) c.self.invariant.1.are_rows

pub returns-clause-forms : goal.returns-clause-forms
returns-clause-forms g c =
    let b = g.C.Chip.base c.self.inside.chip.value in
    rw (← c.self.view_is) (rows_are_nodes (g.C.Chip.analysis b)
    (g.C.StateText.texts b) c.tests_tell_which_are_one.ensures.nodes c.self.inside.rows.items c.self.invariant.1.are_rows)
