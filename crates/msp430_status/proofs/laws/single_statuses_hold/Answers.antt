use Rattle.std.specs.Prelude.{true, false, ◌++◌}
use Rattle.msp430_alu.specs.Doing.{counter_of}
use Rattle.msp430_chip.specs.Leading.{origin_of}
use Rattle.msp430_chip.specs.Operands.{access_to}
use Rattle.msp430_chip.specs.Step.{behind}
use Rattle.msp430_decode.specs.declared.instr.Register.TheVariants.{Sr}
use Rattle.msp430_decode.specs.declared.instr.Source.TheVariants.{Register}
use Rattle.msp430_status.proofs.SingleLaw.{leaves_no_hit, single_status_law, single_status_made, single_status_shown}
use Rattle.msp430_status.proofs.laws.single_statuses_hold.Goals as goal

pub returns : goal.returns
returns c =
    let sets = c.known_laws.ensures.sets in
    record {
      comes = λ here len done width outcome under fits may.
          let place = origin_of here.state (behind here.state len) (Register Sr) in
          record {
            accesses = access_to here.device (counter_of here) false width place
                ++ access_to here.device (counter_of here) true width place;
            outcome_is = may.outcome_is;
            left_so = single_status_law sets.single under fits may;
            shown = single_status_shown here.device here.framed here.known here.state len done width;
            hit = λ at hits. let none = leaves_no_hit may.leaves in absurd (cc);
          };
      made = single_status_made sets;
    }
