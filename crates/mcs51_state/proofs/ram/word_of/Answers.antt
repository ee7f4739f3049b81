use Rattle.mcs51_state.proofs.ram.word_of.Goals as goal

pub returns-clause-small : goal.returns-clause-small
returns-clause-small c n has = c.bytes_stay_bytes.ensures.pair c.args.byte.now.set n c.form.ensures.normal (rw (c.pair.ensures.value, c.one.ensures.value) at has)
