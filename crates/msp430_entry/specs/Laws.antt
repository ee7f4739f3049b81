-- What holds of the entry of an interrupt over what is known of a state. Proofs above take these laws from one record.
use Rattle.call_context.specs.declared.node.Node.TheVariants.{At}
use Rattle.chip_numbers.specs.Single.{Single}
use Rattle.choosing.specs.Outcome.Outcome.{Next}
use Rattle.msp430_alu.specs.Formats.{AreShown, IsHit, IsUnder}
use Rattle.msp430_alu.specs.Memory.{IsDevice}
use Rattle.msp430_chip.specs.Interrupts.{coming, entry, first_hit, handler_of, may_come}
use Rattle.msp430_chip.specs.Memory.{program_hit}
use Rattle.msp430_chip.specs.State.{IsChipState, register_of}
use Rattle.msp430_chip.specs.declared.device.Device.{Device}
use Rattle.msp430_chip.specs.declared.state.ChipState.{ChipState}
use Rattle.msp430_decode.specs.declared.instr.Width.TheVariants.{Word}
use Rattle.msp430_entry.specs.Entry.{ComesSo, comings_of, counter_slot, entered_known, entry_items, entry_shows, frame_of_coming, status_slot}
use Rattle.msp430_entry.specs.declared.coming.Coming.{Coming}
use Rattle.msp430_state.specs.Forms.{IsEvenWord, IsFrame, IsKnown}
use Rattle.msp430_state.specs.Holding.{Covers}
use Rattle.msp430_state.specs.Known.{Known}
use Rattle.std.specs.Prelude.{Bool, Contains, List, Option, Some, [], true, ℕ, ◌%◌, ◌+◌, ◌<◌, ◌≡◌, ◌⊎◌}

-- Each interrupt that comes in a single state is listed. The state that its handler begins with stands under what `entered_known`
-- says, over the state that it suspends. Each push and the edge are shown, and a push that hits the program is at one of the
-- addresses of its slot. What is said is in form.
pub record InterruptLaws : Type 0 where
  pub comes : (device : Device) (framed : Bool) (a : Known) (s : ChipState) (first : Option ChipState) (vector : ℕ)
      → IsUnder device framed a s first → Contains (coming device s) vector
      → (coming_so : Coming) × (coming_so.vector ≡ vector) × ComesSo device a s coming_so
  pub covered : (device : Device) (framed : Bool) (a : Known) (s t : ChipState) (first : Option ChipState)
      (coming_so : Coming) (bits : ℕ) (items : List Single)
      → IsUnder device framed a s first → ComesSo device a s coming_so → bits < 128
      → entry device s coming_so.vector bits ≡ Next items t → IsChipState device t
      → Covers device (At (handler_of device coming_so.vector) [] (frame_of_coming coming_so))
      (entered_known device a (register_of s 0) coming_so.sp) t (Some s)
  pub shown : (device : Device) (framed : Bool) (a : Known) (s : ChipState) (first : Option ChipState)
      (coming_so : Coming)
      → IsUnder device framed a s first → ComesSo device a s coming_so
      → AreShown (entry_items device (register_of s 0) coming_so) (entry_shows device s coming_so.vector)
  pub hit : (device : Device) (framed : Bool) (a : Known) (s : ChipState) (first : Option ChipState)
      (coming_so : Coming) (at : ℕ)
      → IsUnder device framed a s first → ComesSo device a s coming_so
      → first_hit (program_hit device Word ((register_of s 1 + 65534) % 65536))
      (program_hit device Word ((register_of s 1 + 65532) % 65536)) ≡ Some at
      → IsHit device Word (Some (counter_slot device coming_so.sp)) at ⊎ IsHit device Word
      (Some (status_slot device coming_so.sp)) at
  pub form : (device : Device) (framed : Bool) (a : Known) (pc : ℕ) (coming_so : Coming) → IsDevice device
      → IsKnown device.ram.lo device.ram.hi framed a → IsEvenWord pc → Contains (comings_of device a) coming_so
      → IsKnown device.ram.lo device.ram.hi true (entered_known device a pc coming_so.sp)
  pub frame : (device : Device) (framed : Bool) (a : Known) (coming_so : Coming)
      → IsKnown device.ram.lo device.ram.hi framed a → Contains (comings_of device a) coming_so
      → IsFrame (frame_of_coming coming_so) × (may_come device coming_so.vector ≡ true)
  pub handler : (device : Device) (vector : ℕ) → IsDevice device → IsEvenWord (handler_of device vector)
  pub below : (device : Device) (a : Known) (coming_so : Coming) → Contains (comings_of device a) coming_so
      → coming_so.vector < 14
