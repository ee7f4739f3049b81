-- What holds of all that is known of states. Proofs above take these laws from one record.
use Rattle.std.specs.Prelude.{◌≡◌, ◌≤◌, ℕ, Bool, true, [], List, None, Option}
use Rattle.value_set.specs.Laws.{AreMarks}
use Rattle.call_context.specs.declared.node.Frame.TheVariants.{Base}
use Rattle.call_context.specs.declared.node.Node.{Node}
use Rattle.call_context.specs.declared.node.Node.TheVariants.{At}
use Rattle.msp430_chip.specs.declared.device.Device.{Device}
use Rattle.msp430_chip.specs.declared.state.ChipState.{ChipState}
use Rattle.msp430_chip.specs.State.{IsResetOf, reset_address}
use Rattle.msp430_state.specs.Forms.{IsKnown}
use Rattle.msp430_state.specs.Holding.{Covers, HoldsOfParts}
use Rattle.msp430_state.specs.Known.{Known, first_known, known_joined, known_widened, known_within, top_known}

-- Being within another is an order, in which two states are within their join, within the first one widened by the second, and
-- within the greatest. The first state and the greatest have the form, and joins and widenings keep it. What stands under a
-- state stands under all that this is within, and each state of the chip behind a reset under the first one.
pub record StateLaws : Type 0 where
  pub itself : (lo hi : ℕ) (framed : Bool) (a : Known) → IsKnown lo hi framed a → known_within a a ≡ true
  pub along : (a b c : Known) → known_within a b ≡ true → known_within b c ≡ true → known_within a c ≡ true
  pub join_held : (lo hi : ℕ) (framed : Bool) (a b : Known) → IsKnown lo hi framed a → IsKnown lo hi framed b
      → known_within a (known_joined a b) ≡ true
  pub join_new : (lo hi : ℕ) (framed : Bool) (a b : Known) → IsKnown lo hi framed a → IsKnown lo hi framed b
      → known_within b (known_joined a b) ≡ true
  pub widen_held : (lo hi : ℕ) (framed : Bool) (marks : List ℕ) → AreMarks 65536 marks → (a b : Known)
      → IsKnown lo hi framed a → IsKnown lo hi framed b → known_within a (known_widened marks a b) ≡ true
  pub widen_new : (lo hi : ℕ) (framed : Bool) (marks : List ℕ) → AreMarks 65536 marks → (a b : Known)
      → IsKnown lo hi framed a → IsKnown lo hi framed b → known_within b (known_widened marks a b) ≡ true
  pub greatest : (lo hi : ℕ) (framed : Bool) (a : Known) → IsKnown lo hi framed a
      → known_within a (top_known lo hi framed) ≡ true
  pub first_form : (lo hi : ℕ) (framed : Bool) → IsKnown lo hi framed (first_known lo hi)
  pub top_form : (lo hi : ℕ) (framed : Bool) → lo ≤ hi → IsKnown lo hi framed (top_known lo hi framed)
  pub join_form : (lo hi : ℕ) (framed : Bool) (a b : Known) → IsKnown lo hi framed a → IsKnown lo hi framed b
      → IsKnown lo hi framed (known_joined a b)
  pub widen_form : (lo hi : ℕ) (framed : Bool) (marks : List ℕ) → AreMarks 65536 marks → (a b : Known)
      → IsKnown lo hi framed a → IsKnown lo hi framed b → IsKnown lo hi framed (known_widened marks a b)
  pub parts : (device : Device) (lo hi : ℕ) (framed : Bool) (a b : Known) (first : Option ChipState)
      (registers ram : List ℕ)
      → IsKnown lo hi framed a → known_within a b ≡ true → HoldsOfParts device a first registers ram
      → HoldsOfParts device b first registers ram
  pub more : (device : Device) (lo hi : ℕ) (framed : Bool) (node : Node) (a b : Known) (s : ChipState)
      (first : Option ChipState)
      → IsKnown lo hi framed a → known_within a b ≡ true → Covers device node a s first → Covers device node b s first
  pub reset : (device : Device) (s : ChipState) → IsResetOf device s
      → Covers device (At (reset_address device) [] Base) (first_known device.ram.lo device.ram.hi) s None
