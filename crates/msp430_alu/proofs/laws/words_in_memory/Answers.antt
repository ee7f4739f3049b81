use Rattle.msp430_decode.specs.declared.instr.Width.TheVariants.{Word}
use Rattle.msp430_alu.proofs.StatusWord.{status_set_is}
use Rattle.msp430_alu.proofs.Storing.{stored_ram}
use Rattle.msp430_alu.proofs.WordsInMemory.{status_word_form, word_located, word_read, word_read_form, word_stored, word_stored_form}
use Rattle.msp430_alu.proofs.laws.words_in_memory.Goals as goal

pub returns : goal.returns
returns c =
    let laws = c.instruction_laws.ensures in
    record {
      located = word_located laws;
      stored = word_stored laws;
      stored_form = word_stored_form laws;
      ram = λ device ram at v small is. stored_ram device ram Word at v small is;
      read = word_read laws;
      read_form = word_read_form laws;
      status = λ framed first status sr bits long form small few holds. (status_set_is laws framed first status sr bits long form small few holds).1;
      status_form = status_word_form laws;
    }
