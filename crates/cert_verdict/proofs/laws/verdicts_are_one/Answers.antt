use Rattle.cert_verdict.proofs.VerdictLemmas.{one_verdict}
use Rattle.cert_verdict.proofs.laws.verdicts_are_one.Goals as goal

pub returns : goal.returns
returns g c = λ base text_of text one other told also. one_verdict text_of (g.C.Chip.analysis base) (g.C.StateText.texts base) text one other told also
