use Rattle.mcs51_branch.proofs.Ways.{condition_way, condition_way_form, comparison_way, comparison_way_form, byte_way, lowered_way, lowered_form}
use Rattle.mcs51_branch.proofs.PlaceWays.{place_way, place_way_form, with_set_form, with_set_under}
use Rattle.mcs51_branch.proofs.laws.jumps_hold.Goals as goal

pub returns : goal.returns
returns c =
    let laws = c.known_laws.ensures in
    record {
      condition = condition_way laws;
      condition_form = condition_way_form laws;
      comparison = comparison_way laws;
      comparison_form = comparison_way_form laws;
      with_byte = byte_way laws;
      lowered = lowered_way laws;
      lowered_form = lowered_form laws;
      place = with_set_under laws;
      place_form = with_set_form laws;
      cut = place_way laws;
      cut_form = place_way_form laws;
    }
