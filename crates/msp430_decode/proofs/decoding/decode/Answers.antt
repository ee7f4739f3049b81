use Rattle.std.proofs.Common.{sym}
use Rattle.msp430_decode.proofs.UniqueLemmas.{one_answer, answer_in_table}
use Rattle.msp430_decode.proofs.decoding.decode.Goals as goal

pub returns-clause-exact : goal.returns-clause-exact
returns-clause-exact c = sym c.answer_at.ensures.1

pub returns-clause-only : goal.returns-clause-only
returns-clause-only c = λ other h. one_answer c.args.image.now c.args.pc other c.answer_at.result h c.answer_at.ensures.0

pub returns-clause-in_table : goal.returns-clause-in_table
returns-clause-in_table c = answer_in_table c.args.image.now c.args.pc c.answer_at.result c.answer_at.ensures.0
