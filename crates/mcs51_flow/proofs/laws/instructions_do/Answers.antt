use Rattle.mcs51_flow.proofs.KindLaws.{KindLaws}
use Rattle.mcs51_flow.proofs.RanForms.{instruction_form}
use Rattle.mcs51_flow.proofs.Instructions.{instruction_runs}
use Rattle.mcs51_flow.proofs.laws.instructions_do.Goals as goal

pub returns : goal.returns
returns c =
    let laws : KindLaws = record {
      known = c.known_laws.ensures;
      operands = c.operand_laws.ensures;
      stores = c.store_laws.ensures;
      accumulators = c.accumulators_do.ensures;
      accumulator_forms = c.accumulators_hold.ensures;
      transfers = c.transfers_do.ensures;
      returns = c.return_laws.ensures;
      moves = c.moves_do.ensures;
      move_forms = c.moves_keep_form.ensures;
      memories = c.memories_do.ensures;
      memory_forms = c.memories_keep_form.ensures;
      bits = c.bits_do.ensures;
      bit_forms = c.bits_keep_form.ensures;
      jumps = c.jumps_do.ensures;
      jump_forms = c.jumps_keep_form.ensures;
    } in
    record { runs = instruction_runs laws; form = instruction_form laws }
