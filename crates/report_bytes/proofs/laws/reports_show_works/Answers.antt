use Rattle.report_bytes.proofs.ShowsLemmas.{shows_works}
use Rattle.report_bytes.proofs.laws.reports_show_works.Goals as goal

pub returns : goal.returns
returns g c = λ text works. shows_works text works
