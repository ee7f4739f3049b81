use Rattle.value_bits.proofs.w16.swap_bytes.Goals as goal

pub returns-clause-holds : goal.returns-clause-holds
returns-clause-holds c = λ x has. rw c.from_form.ensures (c.exchange.ensures.holds x (rw c.form.ensures.value has))
