use Rattle.cert_rows.proofs.CountdownLemmas.{orderly}
use Rattle.cert_rows.proofs.countdown.CountdownOrderlyChip.order_laws.Goals as goal

pub returns : goal.returns
returns c = λ b program. orderly
