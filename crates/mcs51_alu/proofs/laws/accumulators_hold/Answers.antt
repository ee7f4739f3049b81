use Rattle.mcs51_alu.proofs.Changes.{change_form, change_so}
use Rattle.mcs51_alu.proofs.Moves.{count_form, count_so, immediate_form, immediate_so, load_form, load_so}
use Rattle.mcs51_alu.proofs.Sums.{accumulate_form, accumulate_so}
use Rattle.mcs51_alu.proofs.laws.accumulators_hold.Goals as goal

pub returns : goal.returns
returns c =
    let laws = c.instruction_laws.ensures in
    record {
      load = load_so laws;
      load_form = load_form laws;
      immediate = immediate_so laws;
      immediate_form = immediate_form laws;
      count = count_so laws;
      count_form = count_form laws;
      accumulate = accumulate_so laws;
      accumulate_form = accumulate_form laws;
      change = change_so laws;
      change_form = change_form laws;
    }
