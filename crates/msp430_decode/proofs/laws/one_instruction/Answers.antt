use Rattle.msp430_decode.proofs.UniqueLemmas.{one_row, length_row, rows_end}
use Rattle.msp430_decode.proofs.laws.one_instruction.Goals as goal

pub returns : goal.returns
returns c = record { same = one_row; length = length_row; whole = rows_end }
