use Rattle.value_bits.proofs.w16.decimal_add.Goals as goal

pub returns-clause-holds : goal.returns-clause-holds
returns-clause-holds c = λ x y bit has too is first second.
    rw c.from_form.ensures (c.decimal_add.ensures.holds x y bit (rw c.form.ensures.value has) (rw c.form-2.ensures.value too) is first second)

pub returns-clause-free : goal.returns-clause-free
returns-clause-free c = λ x y v has too unclear below.
    rw c.from_form.ensures (c.decimal_add.ensures.free x y v (rw c.form.ensures.value has) (rw c.form-2.ensures.value too) unclear below)
