use Rattle.mcs51_decode.proofs.RowLemmas.{row_made}
use Rattle.mcs51_decode.proofs.laws.one_row_an_opcode.Goals as goal

pub returns-clause-row : goal.returns-clause-row
returns-clause-row c = λ opcode x y h allowed hx hy. let m = row_made opcode x y h allowed hx hy in rw m.same at m.bytes

pub returns-clause-length : goal.returns-clause-length
returns-clause-length c = λ opcode x y h allowed hx hy. (row_made opcode x y h allowed hx hy).same
