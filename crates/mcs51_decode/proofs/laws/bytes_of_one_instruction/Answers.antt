use Rattle.mcs51_decode.proofs.BytesLemmas.{found_row, row_found}
use Rattle.mcs51_decode.specs.Encoding.{bytes_of}
use Rattle.mcs51_decode.proofs.AgainLemmas.{row_again}
use Rattle.mcs51_decode.proofs.laws.bytes_of_one_instruction.Goals as goal

pub returns-clause-row : goal.returns-clause-row
returns-clause-row c = found_row

pub returns-clause-every : goal.returns-clause-every
returns-clause-every c = row_found

pub returns-clause-again : goal.returns-clause-again
returns-clause-again c = λ instr h. row_found (bytes_of instr) instr (row_again instr h)
