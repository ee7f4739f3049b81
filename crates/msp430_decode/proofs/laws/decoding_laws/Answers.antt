use Rattle.msp430_decode.specs.Decoding.{decoded}
use Rattle.msp430_decode.proofs.UniqueLemmas.{one_answer}
use Rattle.msp430_decode.proofs.LawLemmas.{decoded_decodes, decoded_stands, stands_bytes}
use Rattle.msp430_decode.proofs.laws.decoding_laws.Goals as goal

pub returns : goal.returns
returns c = record {
  answer = decoded_decodes;
  one = λ image pc answer size bytes h. one_answer image pc answer (decoded image pc) h (decoded_decodes image pc size bytes);
  instruction = λ image pc len instr size bytes e. stands_bytes image pc len instr (decoded_stands image pc len instr size bytes e);
}
