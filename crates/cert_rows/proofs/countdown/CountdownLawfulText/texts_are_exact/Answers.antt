use Rattle.cert_rows.proofs.CountdownLemmas.{exact}
use Rattle.cert_rows.proofs.countdown.CountdownLawfulText.texts_are_exact.Goals as goal

pub returns : goal.returns
returns c = λ b program. exact
