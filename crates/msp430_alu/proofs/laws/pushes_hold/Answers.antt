use Rattle.std.specs.Prelude.{true, false, slice_index, ◌++◌}
use Rattle.msp430_alu.specs.Doing.{counter_of}
use Rattle.msp430_alu.proofs.PushLaw.{push_law}
use Rattle.msp430_alu.proofs.Showing.{push_hit, push_shown}
use Rattle.msp430_alu.proofs.WorkedForms.{push_well_made}
use Rattle.msp430_alu.proofs.laws.pushes_hold.Goals as goal
use Rattle.msp430_chip.specs.Leading.{behind_source, pushed_place}
use Rattle.msp430_chip.specs.Operands.{access_to}
use Rattle.msp430_chip.specs.Step.{behind, lowered}
use Rattle.msp430_chip.specs.declared.place.Place.TheVariants.{InMemory}
use Rattle.msp430_decode.specs.declared.instr.Width.TheVariants.{Word}

pub returns : goal.returns
returns c =
    let laws = c.instruction_laws.ensures in
    record {
      comes = λ here len done width operand outcome under from_so may.
          let slot = slice_index (behind_source here.state (behind here.state len) width operand) 1 in
          record {
            accesses = access_to here.device (counter_of here) false width (pushed_place here.state len may.option operand)
                ++ access_to here.device (counter_of here) true Word (InMemory (lowered slot));
            outcome_is = may.outcome_is;
            left_so = push_law laws under from_so may;
            shown = push_shown laws under from_so may;
            hit = λ at hits. push_hit laws at under from_so may hits;
          };
      made = push_well_made laws;
    }
