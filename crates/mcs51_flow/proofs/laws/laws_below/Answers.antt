use Rattle.mcs51_flow.proofs.laws.laws_below.Goals as goal

pub returns : goal.returns
returns c = record {
  known = c.known_laws.ensures;
  ways = c.ways_hold.ensures;
  decoding = c.decoding_laws.ensures;
  steps = c.step_laws.ensures;
  states = c.state_laws.ensures;
  entries = c.interrupt_laws.ensures;
  returns = c.return_laws.ensures;
  resumptions = c.resumption_laws.ensures;
  fronts = c.front_laws.ensures;
  instructions = c.instructions_do.ensures;
}
