use Rattle.std.proofs.Common.{sym}
use Rattle.mcs51_decode.proofs.UniqueLemmas.{one_answer}
use Rattle.mcs51_decode.proofs.decoding.decode.Goals as goal

pub returns-clause-exact : goal.returns-clause-exact
returns-clause-exact c = sym c.answer_at.ensures.1

pub returns-clause-only : goal.returns-clause-only
returns-clause-only c = λ other h. one_answer c.args.image.now c.args.pc other c.answer_at.result h c.answer_at.ensures.0
