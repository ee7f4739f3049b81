use Rattle.mcs51_alu.proofs.Doing.{accumulate_does, change_does, decrement_does, immediate_does, increment_does, load_does}
use Rattle.mcs51_alu.proofs.laws.accumulators_do.Goals as goal

pub returns : goal.returns
returns c =
    let laws = c.instruction_laws.ensures in
    record {
      load = load_does laws;
      immediate = immediate_does laws;
      increment = increment_does laws;
      decrement = decrement_does laws;
      accumulate = accumulate_does laws;
      change = change_does laws;
    }
