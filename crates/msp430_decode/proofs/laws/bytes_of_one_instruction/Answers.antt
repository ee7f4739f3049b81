use Rattle.msp430_decode.proofs.BytesLemmas.{found_row, row_found, instr_again_of_bytes}
use Rattle.msp430_decode.proofs.laws.bytes_of_one_instruction.Goals as goal

pub returns : goal.returns
returns c = record { row = found_row; every = row_found; again = instr_again_of_bytes }
