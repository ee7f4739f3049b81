use Rattle.std.proofs.Common.{◌∙◌, ◌<◌}
use Rattle.std.proofs.lemmas.List.Elements.{All-from_get_or}
use Rattle.mcs51_decode.proofs.BytesLemmas.{found_rows, row_found}
use Rattle.mcs51_decode.proofs.decoding.from_bytes.Goals as goal

pub returns-clause-row : goal.returns-clause-row
returns-clause-row c = found_rows c.args.bytes.now c.instr_of_slice.result (All-from_get_or (λ byte. byte < 256) c.args.bytes.now 0 (λ k _. (c.type_inv.bytes k).fits)) c.instr_of_slice.ensures

pub returns-clause-every : goal.returns-clause-every
returns-clause-every c = λ instr row. c.instr_of_slice.ensures ∙ row_found c.args.bytes.now instr row
