use Rattle.mcs51_memories.proofs.CodeReads.{code_does}
use Rattle.mcs51_memories.proofs.ExternalReads.{external_read_does, external_write_does}
use Rattle.mcs51_memories.proofs.Products.{divide_does, load_does, multiply_does, raise_does}
use Rattle.mcs51_memories.proofs.Stacks.{pop_does, push_does}
use Rattle.mcs51_memories.proofs.laws.memories_do.Goals as goal

pub returns : goal.returns
returns c =
    let laws = c.instruction_laws.ensures in
    record {
      push = push_does laws;
      pop = pop_does laws;
      load_data_pointer = load_does laws;
      increment_data_pointer = raise_does laws;
      multiply = multiply_does laws;
      divide = divide_does laws;
      move_code = code_does laws;
      read_external = external_read_does laws;
      write_external = external_write_does laws;
    }
