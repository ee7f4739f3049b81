use Rattle.call_context.specs.Nodes.{frame_of}
use Rattle.mcs51_state.specs.Known.{is_interrupt}
use Rattle.mcs51_fields.specs.Nodes.{node_fits}
use Rattle.mcs51_fields.specs.Outside.{outside_none}
use Rattle.mcs51_fields.specs.States.{known_line, state_back, state_only}
use Rattle.mcs51_fields.proofs.laws.states_have_texts.Goals as goal

pub returns-clause-again : goal.returns-clause-again
returns-clause-again c = state_back

pub returns-clause-takes : goal.returns-clause-takes
returns-clause-takes c = state_only

pub returns-clause-one_line : goal.returns-clause-one_line
returns-clause-one_line c = λ node a form. (known_line (is_interrupt (frame_of node))).no_feed a form.1

pub returns-clause-nodes : goal.returns-clause-nodes
returns-clause-nodes c = λ node a form. node_fits node form.0

pub returns-clause-included : goal.returns-clause-included
returns-clause-included c = outside_none
