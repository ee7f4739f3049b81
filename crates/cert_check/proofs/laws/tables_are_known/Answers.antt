use Rattle.cert_check.proofs.laws.tables_are_known.Goals as goal

pub returns : goal.returns
returns g c = λ b program rows nodes_are. record {
  are = c.texts_are_exact.ensures b program;
  keeps = (c.order_laws.ensures b program).keeps;
  nodes_are = nodes_are;
  one = c.tests_tell_which_are_one.ensures.nodes;
  frames = c.tests_tell_which_are_one.ensures.frames;
  units = c.tests_tell_which_are_one.ensures.units;
}
