use Rattle.mcs51_results.proofs.Accumulations.{accumulated_holds, accumulated_form, twice_holds, twice_form, changed_holds, changed_form}
use Rattle.mcs51_results.proofs.laws.accumulations_hold.Goals as goal

pub returns : goal.returns
returns c =
    let laws = c.known_laws.ensures in
    record {
      two = accumulated_holds laws;
      two_form = accumulated_form laws;
      twice = twice_holds laws;
      twice_form = twice_form laws;
      alone = changed_holds laws;
      alone_form = changed_form laws;
    }
