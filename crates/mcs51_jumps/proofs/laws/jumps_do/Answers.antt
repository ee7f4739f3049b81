use Rattle.mcs51_jumps.proofs.ByBit.{bit_does}
use Rattle.mcs51_jumps.proofs.ByComparison.{comparison_does}
use Rattle.mcs51_jumps.proofs.ByCondition.{condition_does}
use Rattle.mcs51_jumps.proofs.PartLaws.{PartLaws}
use Rattle.mcs51_jumps.proofs.ByCounter.{counter_does}
use Rattle.mcs51_jumps.proofs.laws.jumps_do.Goals as goal

pub returns : goal.returns
returns c =
    let laws : PartLaws = record {
      instructions = c.instruction_laws.ensures;
      bits = c.bits_do.ensures;
      bit_forms = c.bits_keep_form.ensures;
      branch = c.branch_laws.ensures;
    } in
    record {
      on_condition = condition_does laws;
      on_bit = bit_does laws;
      by_comparison = comparison_does laws;
      by_counter = counter_does laws;
    }
