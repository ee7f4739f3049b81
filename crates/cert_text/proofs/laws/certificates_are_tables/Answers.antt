use Rattle.cert_text.proofs.CertLemmas.{certs_are_tables}
use Rattle.cert_text.proofs.laws.certificates_are_tables.Goals as goal

pub returns : goal.returns
returns g c = λ b program text rows. certs_are_tables (g.C.Chip.analysis b) (g.C.StateText.texts b) (c.texts_are_exact.ensures b program) text rows
