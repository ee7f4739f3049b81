use Rattle.std.specs.Prelude.{true, false, ◌++◌}
use Rattle.msp430_alu.specs.Doing.{counter_of}
use Rattle.msp430_alu.proofs.Showing.{single_hit, single_shown}
use Rattle.msp430_alu.proofs.SingleLaw.{single_law}
use Rattle.msp430_alu.proofs.WorkedForms.{single_well_made}
use Rattle.msp430_alu.proofs.laws.singles_hold.Goals as goal
use Rattle.msp430_chip.specs.Leading.{origin_of}
use Rattle.msp430_chip.specs.Operands.{access_to}
use Rattle.msp430_chip.specs.Step.{behind}

pub returns : goal.returns
returns c =
    let laws = c.instruction_laws.ensures in
    record {
      comes = λ here len done width operand outcome under from_so leaves fits may.
          let place = origin_of here.state (behind here.state len) operand in
          record {
            accesses = access_to here.device (counter_of here) false width place
                ++ access_to here.device (counter_of here) true width place;
            outcome_is = may.outcome_is;
            left_so = single_law laws under from_so leaves fits may;
            shown = single_shown laws here.device here.framed here.known here.state here.first len done width operand
                under from_so;
            hit = λ at hits. single_hit laws at under from_so may hits;
          };
      made = single_well_made laws;
    }
