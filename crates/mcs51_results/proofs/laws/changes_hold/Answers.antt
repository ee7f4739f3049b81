use Rattle.mcs51_results.proofs.Accumulations.{masked_holds, masked_form}
use Rattle.mcs51_results.proofs.Changes.{increased_holds, increased_form, decreased_holds, decreased_form, pointer_holds, pointer_form}
use Rattle.mcs51_results.proofs.laws.changes_hold.Goals as goal

pub returns : goal.returns
returns c =
    let laws = c.known_laws.ensures in
    record {
      masked = masked_holds laws;
      masked_form = masked_form laws;
      increased = increased_holds laws;
      increased_form = increased_form laws;
      decreased = decreased_holds laws;
      decreased_form = decreased_form laws;
      pointer = pointer_holds laws;
      pointer_form = pointer_form laws;
    }
