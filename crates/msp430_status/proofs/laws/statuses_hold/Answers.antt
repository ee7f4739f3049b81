use Rattle.msp430_alu.specs.Doing.{counter_of}
use Rattle.msp430_chip.specs.Leading.{origin_of, place_of}
use Rattle.msp430_chip.specs.Step.{double_accesses}
use Rattle.msp430_decode.specs.declared.instr.Destination.TheVariants.{Register}
use Rattle.msp430_decode.specs.declared.instr.Register.TheVariants.{Sr}
use Rattle.msp430_status.proofs.Moves.{StatusLaws}
use Rattle.msp430_status.proofs.StatusLaw.{leaves_hit, status_law, status_made, status_shown}
use Rattle.msp430_status.proofs.laws.statuses_hold.Goals as goal

pub returns : goal.returns
returns c =
    let laws : StatusLaws = record {
      known = c.memory_laws.ensures.known;
      words = c.memory_laws.ensures.words;
      doubles = c.doubles_hold.ensures;
      places = c.place_laws.ensures;
    } in
    record {
      comes = λ here len done width origin outcome under from_so may. record {
        accesses = double_accesses here.device (counter_of here) done width (origin_of here.state may.counted origin)
            (place_of here.state len may.counted width origin (Register Sr));
        outcome_is = may.outcome_is;
        left_so = status_law laws under from_so may;
        shown = status_shown laws under from_so may;
        hit = λ at hits. let none = leaves_hit may.leaves in absurd (cc);
      };
      made = status_made laws;
    }
