use Rattle.mcs51_state.proofs.WrittenForms.{accumulator_form, address_form, byte_form, carry_set_form, data_pointer_form, flags_set_form, pair_form, pop_form, push_form, status_form}
use Rattle.mcs51_state.proofs.laws.stores_keep_form.Goals as goal

pub returns : goal.returns
returns c =
    let laws = c.known_laws.ensures in
    assumption (byte_form laws, accumulator_form, data_pointer_form, status_form, carry_set_form, flags_set_form, push_form laws, pair_form laws, address_form laws, pop_form laws)
