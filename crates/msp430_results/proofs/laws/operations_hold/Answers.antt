use Rattle.msp430_results.proofs.Rows.{double_holds, double_form, twice_row, twice_form, single_holds, single_form}
use Rattle.msp430_results.proofs.laws.operations_hold.Goals as goal

pub returns : goal.returns
returns c =
    let laws = c.known_laws.ensures in
    record {
      double = double_holds laws;
      double_normal = double_form laws;
      twice = twice_row laws;
      twice_normal = twice_form laws;
      single = single_holds laws;
      single_normal = single_form laws;
    }
