use Rattle.choosing.specs.Fronts.{whole_front, onward, one_front_of}
use Rattle.mcs51_chip.specs.Step.{step_of}
use Rattle.mcs51_chip.proofs.Forms.{step_keeps}
use Rattle.mcs51_chip.proofs.Fronts.{step_asks}
use Rattle.mcs51_chip.proofs.Leads.{step_leads}
use Rattle.mcs51_chip.proofs.laws.step_laws.Goals as goal

pub returns : goal.returns
returns c =
    let decoding = c.decoding_laws.ensures in
    record {
      lead = λ image s whole bytes. step_leads image s (decoding.answer image s.pc whole bytes);
      front = λ image s. whole_front 3 (step_of image s) (step_asks image s);
      onward = λ image s. onward 3 (step_of image s) (step_asks image s);
      one = λ image s. one_front_of 3 (step_of image s) (step_asks image s);
      keep = λ image s t choices items whole bytes is e.
          step_keeps image s t choices items bytes (λ instr len found. (decoding.instruction image s.pc len instr whole bytes found).0) is e;
    }
