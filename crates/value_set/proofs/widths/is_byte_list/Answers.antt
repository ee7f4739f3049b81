use Rattle.value_set.proofs.widths.is_byte_list.Goals as goal

pub returns-in-Values : goal.returns-in-Values
returns-in-Values c = rw c.in-Values.is (rw (← c.as_slice.ensures.numbers) c.are_bytes.ensures)
