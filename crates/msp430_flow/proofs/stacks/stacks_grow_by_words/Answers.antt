use Rattle.msp430_flow.proofs.StackLemmas.{no_byte_stack}
use Rattle.msp430_flow.proofs.stacks.stacks_grow_by_words.Goals as goal

pub returns : goal.returns
returns c = no_byte_stack
