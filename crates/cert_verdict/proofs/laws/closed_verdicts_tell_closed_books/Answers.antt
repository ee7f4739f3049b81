use Rattle.cert_verdict.proofs.VerdictLemmas.{closed_told}
use Rattle.cert_verdict.proofs.laws.closed_verdicts_tell_closed_books.Goals as goal

pub returns : goal.returns
returns g c = λ base text_of text told verdict. closed_told text_of (g.C.Chip.analysis base) (g.C.StateText.texts base) text told verdict
