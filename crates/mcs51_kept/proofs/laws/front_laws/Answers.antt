use Rattle.mcs51_kept.proofs.InFront.{Laws, front_form, front_holds, front_same, none_kept}
use Rattle.mcs51_kept.proofs.laws.front_laws.Goals as goal

pub returns : goal.returns
returns c =
    let laws : Laws = record {
      known = c.known_laws.ensures;
      operands = c.operand_laws.ensures;
      formats = c.formats_lead.ensures;
      jumps = c.jumps_hold.ensures;
    } in
    record { form = front_form laws; same = front_same; holds = front_holds laws; none = none_kept }
