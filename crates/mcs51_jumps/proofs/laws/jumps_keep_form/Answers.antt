use Rattle.mcs51_jumps.proofs.ByBit.{bit_form}
use Rattle.mcs51_jumps.proofs.ByComparison.{comparison_form}
use Rattle.mcs51_jumps.proofs.ByCondition.{condition_form}
use Rattle.mcs51_jumps.proofs.PartLaws.{PartLaws}
use Rattle.mcs51_jumps.proofs.ByCounter.{counter_form}
use Rattle.mcs51_jumps.proofs.laws.jumps_keep_form.Goals as goal

pub returns : goal.returns
returns c =
    let laws : PartLaws = record {
      instructions = c.instruction_laws.ensures;
      bits = c.bits_do.ensures;
      bit_forms = c.bits_keep_form.ensures;
      branch = c.branch_laws.ensures;
    } in
    record {
      on_condition = condition_form laws;
      on_bit = bit_form laws;
      by_comparison = comparison_form laws;
      by_counter = counter_form laws;
    }
