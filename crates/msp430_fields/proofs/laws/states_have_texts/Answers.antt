use Rattle.call_context.specs.Nodes.{frame_of}
use Rattle.msp430_state.specs.Known.{is_interrupt}
use Rattle.msp430_fields.specs.Nodes.{node_fits}
use Rattle.msp430_fields.specs.Outside.{outside_none}
use Rattle.msp430_fields.specs.States.{known_line, state_back, state_only}
use Rattle.msp430_fields.proofs.laws.states_have_texts.Goals as goal

pub returns-clause-again : goal.returns-clause-again
returns-clause-again c = state_back

pub returns-clause-takes : goal.returns-clause-takes
returns-clause-takes c = state_only

pub returns-clause-one_line : goal.returns-clause-one_line
returns-clause-one_line c = λ lo hi node a top form. (known_line (is_interrupt (frame_of node)) lo hi top).no_feed a form.1

pub returns-clause-nodes : goal.returns-clause-nodes
returns-clause-nodes c = λ lo hi node a form. node_fits node form.0

pub returns-clause-included : goal.returns-clause-included
returns-clause-included c = outside_none
