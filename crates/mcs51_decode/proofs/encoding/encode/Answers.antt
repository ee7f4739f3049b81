use Rattle.std.proofs.Common.{◌∙◌}
use Rattle.mcs51_decode.proofs.BytesLemmas.{row_bytes}
use Rattle.mcs51_decode.proofs.encoding.encode.Goals as goal

pub returns-clause-row : goal.returns-clause-row
returns-clause-row c = λ bytes row. c.code_and_operands.ensures ∙ row_bytes bytes c.args.instr.now row
