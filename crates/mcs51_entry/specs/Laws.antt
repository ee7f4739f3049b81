-- What holds of the entry of an interrupt. Proofs above take these laws from one record.
use Rattle.std.specs.Prelude.{◌≡◌, ◌<◌, ℕ, Bool, true, Option, Some, [], Contains}
use Rattle.call_context.specs.declared.node.Node.TheVariants.{At}
use Rattle.mcs51_chip.specs.declared.state.ChipState.{ChipState}
use Rattle.mcs51_chip.specs.Interrupts.{coming, is_high, serving, vector_of}
use Rattle.mcs51_chip.specs.Memory.{push_writes}
use Rattle.mcs51_chip.specs.Step.{called}
use Rattle.mcs51_state.specs.Forms.{IsFrame, IsKnown}
use Rattle.mcs51_state.specs.Holding.{Covers}
use Rattle.mcs51_state.specs.Known.{Known}
use Rattle.mcs51_state.specs.Under.{IsUnder}
use Rattle.mcs51_state.specs.Showing.{AreShown}
use Rattle.mcs51_entry.specs.declared.coming.Coming.{Coming}
use Rattle.mcs51_entry.specs.Coming.{ComesSo, comings_of, frame_of_coming}
use Rattle.mcs51_entry.specs.Entering.{entered_known, entry_accesses}

-- Each interrupt that comes in a single state is listed. The state that its handler begins with stands under what `entered_known`
-- says, over the state that it suspends, and its pushes are shown. What is said is in form, and so is the frame.
pub record InterruptLaws : Type 0 where
  pub comes : (framed : Bool) (a : Known) (s : ChipState) (first : Option ChipState) (source : ℕ)
      → IsUnder framed a s first → Contains (coming s) source
      → (coming_so : Coming) × (coming_so.source ≡ source) × ComesSo a s coming_so
  pub covered : (framed : Bool) (a : Known) (s : ChipState) (first : Option ChipState) (coming_so : Coming)
      → IsUnder framed a s first → ComesSo a s coming_so
      → Covers (At (vector_of coming_so.source) [] (frame_of_coming coming_so)) (entered_known a s.pc coming_so)
      (serving (is_high s coming_so.source) (called (vector_of coming_so.source) s)) (Some s)
  pub shown : (framed : Bool) (a : Known) (s : ChipState) (first : Option ChipState) (coming_so : Coming)
      → IsUnder framed a s first → ComesSo a s coming_so
      → AreShown (entry_accesses s.pc coming_so) s.pc (push_writes s)
  pub form : (framed : Bool) (a : Known) (pc : ℕ) (coming_so : Coming) → IsKnown framed a → pc < 65536
      → Contains (comings_of a) coming_so → IsKnown true (entered_known a pc coming_so)
  pub frame : (framed : Bool) (a : Known) (coming_so : Coming) → IsKnown framed a → Contains (comings_of a) coming_so
      → IsFrame (frame_of_coming coming_so)
  pub below : (a : Known) (coming_so : Coming) → Contains (comings_of a) coming_so → coming_so.source < 6
