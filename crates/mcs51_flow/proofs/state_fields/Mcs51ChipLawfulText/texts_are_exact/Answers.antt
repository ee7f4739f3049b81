use Rattle.mcs51_flow.proofs.Texts.{texts_exact}
use Rattle.mcs51_flow.proofs.state_fields.Mcs51ChipLawfulText.texts_are_exact.Goals as goal

pub returns : goal.returns
returns c = texts_exact c.states_have_texts.ensures.again c.states_have_texts.ensures.takes c.states_have_texts.ensures.one_line c.states_have_texts.ensures.nodes
    c.states_have_texts.ensures.included
