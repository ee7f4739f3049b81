use Rattle.mcs51_flow.proofs.StackLemmas.{no_word_stack}
use Rattle.mcs51_flow.proofs.stacks.stacks_grow_by_bytes.Goals as goal

pub returns : goal.returns
returns c = no_word_stack
