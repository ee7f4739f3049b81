use Rattle.cell_rows.proofs.cells.word_of.Goals as goal

pub returns : goal.returns
returns c n has = c.bytes_stay_bytes.ensures.pair c.args.byte.now.set n c.form.ensures.normal (rw (c.pair.ensures.value, c.one.ensures.value) at has)
