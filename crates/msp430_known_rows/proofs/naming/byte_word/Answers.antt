use Rattle.msp430_known_rows.proofs.naming.byte_word.Goals as goal

pub returns : goal.returns
returns c n has = c.bytes_stay_bytes.ensures.pair c.low-byte.result n c.form.ensures.normal (rw (c.pair.ensures.value, c.one.ensures.value) at has)
