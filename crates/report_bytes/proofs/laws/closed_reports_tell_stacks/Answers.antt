use Rattle.std.specs.Map.{values_of}
use Rattle.report_bytes.proofs.OrderLemmas.{grows_one_way}
use Rattle.report_bytes.proofs.laws.closed_reports_tell_stacks.Goals as goal

pub returns : goal.returns
returns g c = λ base text nodes works one_stack closed.
    c.reports_tell_stacks.ensures text (values_of works) (grows_one_way (g.C.Chip.analysis base) nodes works closed one_stack)
