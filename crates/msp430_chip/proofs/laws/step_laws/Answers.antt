use Rattle.std.proofs.Common.{arith}
use Rattle.choosing.specs.Fronts.{whole_front, onward, one_front_of}
use Rattle.msp430_chip.specs.State.{register_of}
use Rattle.msp430_chip.specs.Step.{step_of}
use Rattle.msp430_chip.proofs.Leads.{executed_leads, step_leads}
use Rattle.msp430_chip.proofs.StepForms.{AreInstrs, step_keeps}
use Rattle.msp430_chip.proofs.StepFronts.{step_asks}
use Rattle.msp430_chip.proofs.laws.step_laws.Goals as goal

pub returns : goal.returns
returns c =
    let decoding = c.decoding_laws.ensures in
    record {
      format = executed_leads;
      lead = λ device s whole image. step_leads device s (decoding.answer device.image (register_of s 0) whole image);
      front = λ device s. whole_front 7 (step_of device s) (step_asks device s);
      onward = λ device s. onward 7 (step_of device s) (step_asks device s);
      one = λ device s. one_front_of 7 (step_of device s) (step_asks device s);
      keep = λ device s t choices items whole image is e.
          let instrs : AreInstrs device = λ pc len instr found.
          let (form, count, there) = decoding.instruction device.image pc len instr whole image found in
          (form, omega (arith, count)) in
          step_keeps device s t choices items image instrs is e;
    }
