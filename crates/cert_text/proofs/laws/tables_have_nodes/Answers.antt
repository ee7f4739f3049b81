use Rattle.cert_text.proofs.OrderLemmas.{rows_are_nodes}
use Rattle.cert_text.proofs.laws.tables_have_nodes.Goals as goal

pub returns : goal.returns
returns g c = λ b text rows program read.
    rows_are_nodes (g.C.Chip.analysis b) (g.C.StateText.texts b) c.tests_tell_which_are_one.ensures.nodes rows
    ((c.certificates_are_tables.ensures b program text rows).0 read).0
