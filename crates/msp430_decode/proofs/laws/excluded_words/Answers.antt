use Rattle.msp430_decode.proofs.LawLemmas.{excluded_row, other_row}
use Rattle.msp430_decode.proofs.laws.excluded_words.Goals as goal

pub returns-clause-excluded : goal.returns-clause-excluded
returns-clause-excluded c = λ low high more instr hl hh e row. excluded_row low high more instr hl hh e row

pub returns-clause-others : goal.returns-clause-others
returns-clause-others c = other_row
