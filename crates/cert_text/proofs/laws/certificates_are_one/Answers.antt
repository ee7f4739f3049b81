use Rattle.cert_text.proofs.OneLemmas.{one_text}
use Rattle.cert_text.proofs.laws.certificates_are_one.Goals as goal

pub returns : goal.returns
returns g c = λ b nodes one other is so. one_text (g.C.Chip.analysis b) (g.C.StateText.texts b) nodes one other is so
