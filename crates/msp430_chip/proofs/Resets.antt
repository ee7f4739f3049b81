-- A state behind a reset.
use Rattle.std.proofs.Common.{◌<◌, replicate, refl, arith}
use Rattle.std.specs.Prelude.{All}
use Rattle.std.proofs.lemmas.Grind.{common_steps}
use Rattle.std.proofs.lemmas.List.Elements.{All-cons, All-replicate}
use Rattle.image.specs.Image.{IsByte}
use Rattle.msp430_chip.specs.declared.device.Device.{Device}
use Rattle.msp430_chip.specs.State.{IsChipState, IsResetOf, first_state, image_word, ram_size, reset_address}
use Rattle.msp430_chip.proofs.MemoryForm.{image_word_below}
use Rattle.msp430_chip.proofs.RegisterForms.{even_below, even_is}

first_is_state : (device : Device) → All IsByte device.image → IsChipState device (first_state device)
first_is_state device image = record {
  registers = grind (arith, common_steps);
  words = All-cons (λ r. r < 65536) (reset_address device) (replicate 15 0) (even_below (image_word device 0xFFFE) (image_word_below device 0xFFFE image)) (All-replicate (λ r. r < 65536) 15 0 (omega arith));
  even_pc = even_is (image_word device 0xFFFE);
  even_sp = refl;
  status = omega arith;
  nothing = refl;
  ram = grind (arith, common_steps);
  bytes = All-replicate (λ b. b < 256) (ram_size device) 0 (omega arith);
}

pub first_is_reset : (device : Device) → All IsByte device.image → IsResetOf device (first_state device)
first_is_reset device image = record { state = first_is_state device image; starts = refl; status = refl; not_late = refl }
