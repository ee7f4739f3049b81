use Rattle.std.specs.Prelude.{true}
use Rattle.std.specs.Map.{values_of}
use Rattle.report_bytes.proofs.OrderLemmas.{grows_one_way, same_values}
use Rattle.report_bytes.proofs.laws.closed_reports_are_of_tables.Goals as goal

pub returns : goal.returns
returns g c = λ base text one_stack nodes others works more same closed closed'.
    c.reports_have_no_order.ensures text true (values_of works) (values_of more)
    (same_values works more (c.tables_have_no_order.ensures.works base nodes others works more same closed closed'))
    (grows_one_way (g.C.Chip.analysis base) nodes works closed one_stack)
