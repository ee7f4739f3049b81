use Rattle.mcs51_memories.proofs.CodeReads.{code_form}
use Rattle.mcs51_memories.proofs.ExternalReads.{external_form}
use Rattle.mcs51_memories.proofs.Products.{divide_form, load_form, multiply_form, raise_form}
use Rattle.mcs51_memories.proofs.Stacks.{pop_form, push_form}
use Rattle.mcs51_memories.proofs.laws.memories_keep_form.Goals as goal

pub returns : goal.returns
returns c =
    let laws = c.instruction_laws.ensures in
    record {
      push = push_form laws;
      pop = pop_form laws;
      load_data_pointer = load_form laws;
      increment_data_pointer = raise_form laws;
      multiply = multiply_form laws;
      divide = divide_form laws;
      move_code = code_form laws;
      read_external = external_form laws;
    }
