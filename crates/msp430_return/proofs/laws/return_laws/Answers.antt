use Rattle.msp430_return.specs.Return.{return_accesses}
use Rattle.msp430_return.proofs.ReturnLaw.{return_law, return_made, return_shown}
use Rattle.msp430_return.proofs.BackLaw.{back_law, back_base}
use Rattle.msp430_return.proofs.laws.return_laws.Goals as goal

pub returns : goal.returns
returns c =
    let laws = c.memory_laws.ensures in
    record {
      comes = λ here outcome under may. record {
        accesses = return_accesses here.device here.state;
        outcome_is = may.outcome_is;
        left_so = return_law laws under may;
        shown = return_shown laws under;
        hit = λ at none. absurd (cc);
      };
      made = return_made laws;
      back = λ here t. back_law laws here.device here.framed here.known here.state t here.first;
      base = back_base;
    }
