-- What holds of all that is known of states. Proofs above take these laws from one record.
use Rattle.std.specs.Prelude.{◌≡◌, ℕ, Bool, false, true, [], List, None, Option}
use Rattle.value_set.specs.Laws.{AreMarks}
use Rattle.call_context.specs.declared.node.Frame.TheVariants.{Base}
use Rattle.call_context.specs.declared.node.Node.{Node}
use Rattle.call_context.specs.declared.node.Node.TheVariants.{At}
use Rattle.mcs51_chip.specs.declared.state.ChipState.{ChipState}
use Rattle.mcs51_chip.specs.State.{IsChipState, IsReset}
use Rattle.mcs51_state.specs.Forms.{IsKnown}
use Rattle.mcs51_state.specs.Holding.{Covers, HoldsOf, HoldsOfParts, IsSuspendedState}
use Rattle.mcs51_state.specs.Known.{Known, first_known, known_joined, known_widened, known_within, top_known}

-- Being within another is an order, in which two states are within their join, within the first one widened by the second, and
-- within the greatest. The first state and the greatest have the form, and joins and widenings keep it. What stands under a
-- state stands under all that this is within, each state of the chip behind a reset under the first one, and each state of the
-- chip under the greatest, in an interrupt's frame over any state that was suspended first.
pub record StateLaws : Type 0 where
  pub itself : (framed : Bool) (a : Known) → IsKnown framed a → known_within a a ≡ true
  pub along : (a b c : Known) → known_within a b ≡ true → known_within b c ≡ true → known_within a c ≡ true
  pub join_held : (framed : Bool) (a b : Known) → IsKnown framed a → IsKnown framed b
      → known_within a (known_joined a b) ≡ true
  pub join_new : (framed : Bool) (a b : Known) → IsKnown framed a → IsKnown framed b
      → known_within b (known_joined a b) ≡ true
  pub widen_held : (framed : Bool) (marks : List ℕ) → AreMarks 256 marks → (a b : Known) → IsKnown framed a
      → IsKnown framed b → known_within a (known_widened marks a b) ≡ true
  pub widen_new : (framed : Bool) (marks : List ℕ) → AreMarks 256 marks → (a b : Known) → IsKnown framed a
      → IsKnown framed b → known_within b (known_widened marks a b) ≡ true
  pub greatest : (framed : Bool) (a : Known) → IsKnown framed a → known_within a (top_known framed) ≡ true
  pub first_form : (framed : Bool) → IsKnown framed first_known
  pub top_form : (framed : Bool) → IsKnown framed (top_known framed)
  pub join_form : (framed : Bool) (a b : Known) → IsKnown framed a → IsKnown framed b → IsKnown framed (known_joined a b)
  pub widen_form : (framed : Bool) (marks : List ℕ) → AreMarks 256 marks → (a b : Known) → IsKnown framed a
      → IsKnown framed b → IsKnown framed (known_widened marks a b)
  pub parts : (a b : Known) (s : ChipState) (first : Option ChipState) → known_within a b ≡ true
      → HoldsOfParts a s first → HoldsOfParts b s first
  pub more : (node : Node) (a b : Known) (s : ChipState) (first : Option ChipState) → known_within a b ≡ true
      → Covers node a s first → Covers node b s first
  pub reset : (s : ChipState) → IsReset s → Covers (At 0 [] Base) first_known s None
  pub top : (framed : Bool) (s : ChipState) (first : Option ChipState) → IsChipState s → IsSuspendedState first
      → (framed ≡ false → first ≡ None) → HoldsOf (top_known framed) s first
