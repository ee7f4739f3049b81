use Rattle.report_bytes.proofs.OrderLemmas.{one_report}
use Rattle.report_bytes.proofs.laws.reports_have_no_order.Goals as goal

pub returns : goal.returns
returns g c = λ text finished works others same one_way. one_report text finished works others same one_way
