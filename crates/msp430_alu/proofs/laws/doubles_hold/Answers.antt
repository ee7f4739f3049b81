use Rattle.msp430_alu.specs.Doing.{counter_of}
use Rattle.msp430_alu.proofs.DoubleLaw.{double_law}
use Rattle.msp430_alu.proofs.Showing.{double_hit, double_shown}
use Rattle.msp430_alu.proofs.WorkedForms.{double_well_made}
use Rattle.msp430_alu.proofs.laws.doubles_hold.Goals as goal
use Rattle.msp430_chip.specs.Leading.{origin_of, place_of}
use Rattle.msp430_chip.specs.Step.{double_accesses}

pub returns : goal.returns
returns c =
    let laws = c.instruction_laws.ensures in
    record {
      comes = λ here len done width origin target outcome under from_so to_so leaves may. record {
        accesses = double_accesses here.device (counter_of here) done width (origin_of here.state may.counted origin)
            (place_of here.state len may.counted width origin target);
        outcome_is = may.outcome_is;
        left_so = double_law laws under from_so to_so leaves may;
        shown = double_shown laws under from_so to_so may;
        hit = λ at hits. double_hit laws at under from_so to_so may hits;
      };
      shown = λ here len done width origin target outcome under from_so to_so may.
          double_shown laws under from_so to_so may;
      made = double_well_made laws;
    }
