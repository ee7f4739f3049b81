use Rattle.msp430_decode.proofs.UniqueLemmas.{one_answer}
use Rattle.msp430_decode.specs.Decoding.{decoded}
use Rattle.msp430_decode.proofs.LawLemmas.{decoded_decodes}
use Rattle.msp430_decode.proofs.laws.one_of_three.Goals as goal

pub returns-clause-some : goal.returns-clause-some
returns-clause-some c = λ image pc size bytes. (decoded image pc, decoded_decodes image pc size bytes)

pub returns-clause-one : goal.returns-clause-one
returns-clause-one c = one_answer
