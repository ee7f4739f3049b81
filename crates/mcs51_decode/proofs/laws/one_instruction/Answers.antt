use Rattle.std.proofs.Common.{sym}
use Rattle.mcs51_decode.proofs.BytesLemmas.{one_row, row_bytes, row_length, rows_end}
use Rattle.mcs51_decode.proofs.laws.one_instruction.Goals as goal

pub returns-clause-same : goal.returns-clause-same
returns-clause-same c = one_row

pub returns-clause-bytes : goal.returns-clause-bytes
returns-clause-bytes c = λ bytes instr row. sym (row_bytes bytes instr row)

pub returns-clause-length : goal.returns-clause-length
returns-clause-length c = row_length

pub returns-clause-whole : goal.returns-clause-whole
returns-clause-whole c = rows_end
