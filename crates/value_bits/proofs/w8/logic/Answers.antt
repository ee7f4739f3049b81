use Rattle.value_bits.proofs.w8.logic.Goals as goal

pub returns-clause-holds : goal.returns-clause-holds
returns-clause-holds c = λ x y has too. rw c.from_form.ensures (c.logic.ensures.holds x y (rw c.form.ensures.value has) (rw c.form-2.ensures.value too))
