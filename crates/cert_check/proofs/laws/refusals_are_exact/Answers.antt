use Rattle.cert_check.proofs.ClosedLemmas.{refusal_is_exact}
use Rattle.cert_check.proofs.laws.refusals_are_exact.Goals as goal

pub returns : goal.returns
returns g c = λ b program rows first nodes_are.
    refusal_is_exact (g.C.Chip.analysis b) (g.C.StateText.texts b) rows (c.tables_are_known.ensures b program rows nodes_are) first
