-- What holds of conditional jumps.
use Rattle.std.specs.Prelude.{◌<◌, ℕ, Bool, List, [], Option}
use Rattle.choosing.specs.Gives.{Gives}
use Rattle.mcs51_decode.specs.declared.instr.BitTest.{BitTest}
use Rattle.mcs51_decode.specs.declared.instr.Comparison.{Comparison}
use Rattle.mcs51_decode.specs.declared.instr.Condition.{Condition}
use Rattle.mcs51_decode.specs.declared.instr.Counter.{Counter}
use Rattle.mcs51_decode.specs.declared.instr.Instr.TheVariants.{CompareJump, DecrementJump, JumpOn, JumpOnBit}
use Rattle.mcs51_decode.specs.Fitting.{IsComparison, IsCounter}
use Rattle.mcs51_decode.specs.Targets.{relative_target}
use Rattle.mcs51_chip.specs.declared.state.ChipState.{ChipState}
use Rattle.mcs51_chip.specs.Step.{effect_of}
use Rattle.mcs51_state.specs.Forms.{IsKnown}
use Rattle.mcs51_state.specs.Known.{Known}
use Rattle.mcs51_state.specs.Under.{IsUnder}
use Rattle.mcs51_state.specs.Doing.{GoesSo}
use Rattle.mcs51_jumps.specs.Jumps.{AreWays, bit_items, comparison_items, counter_items, ways_by_comparison, ways_by_counter, ways_on_bit, ways_on_condition}

-- Where a state stands under what is known, the chip takes a conditional jump or goes on behind it, the state that it comes to
-- stands under what is known on that way, and its accesses are shown.
pub record JumpsDo : Type 0 where
  pub on_condition : (framed : Bool) (a : Known) (s : ChipState) (first : Option ChipState) (image : List (Option ℕ))
      (pc : ℕ) (condition : Condition) (rel : ℕ)
      → IsUnder framed a s first
      → Gives (GoesSo framed first [] pc (relative_target s.pc rel) (ways_on_condition condition a).on (ways_on_condition condition a).jumped s)
      (effect_of image s (JumpOn condition rel))
  pub on_bit : (framed : Bool) (a : Known) (s : ChipState) (first : Option ChipState) (image : List (Option ℕ)) (pc : ℕ)
      (test : BitTest) (bit rel : ℕ)
      → IsUnder framed a s first → bit < 256
      → Gives (GoesSo framed first (bit_items pc test bit (ways_on_bit framed test bit a).jumped) pc (relative_target s.pc rel) (ways_on_bit framed test bit a).on (ways_on_bit framed test bit a).jumped s)
      (effect_of image s (JumpOnBit test bit rel))
  pub by_comparison : (framed : Bool) (a : Known) (s : ChipState) (first : Option ChipState) (image : List (Option ℕ))
      (pc : ℕ) (comparison : Comparison) (rel : ℕ)
      → IsUnder framed a s first → IsComparison comparison
      → Gives (GoesSo framed first (comparison_items pc comparison a) pc (relative_target s.pc rel) (ways_by_comparison framed comparison a).on (ways_by_comparison framed comparison a).jumped s)
      (effect_of image s (CompareJump comparison rel))
  pub by_counter : (framed : Bool) (a : Known) (s : ChipState) (first : Option ChipState) (image : List (Option ℕ))
      (pc : ℕ) (counter : Counter) (rel : ℕ)
      → IsUnder framed a s first → IsCounter counter
      → Gives (GoesSo framed first (counter_items pc counter a) pc (relative_target s.pc rel) (ways_by_counter framed counter a).on (ways_by_counter framed counter a).jumped s)
      (effect_of image s (DecrementJump counter rel))

-- What is known on each way of a conditional jump is in form.
pub record JumpsKeepForm : Type 0 where
  pub on_condition : (framed : Bool) (a : Known) (condition : Condition) → IsKnown framed a
      → AreWays framed (ways_on_condition condition a)
  pub on_bit : (framed : Bool) (a : Known) (test : BitTest) (bit : ℕ) → IsKnown framed a → bit < 256
      → AreWays framed (ways_on_bit framed test bit a)
  pub by_comparison : (framed : Bool) (a : Known) (comparison : Comparison) → IsKnown framed a
      → IsComparison comparison → AreWays framed (ways_by_comparison framed comparison a)
  pub by_counter : (framed : Bool) (a : Known) (counter : Counter) → IsKnown framed a → IsCounter counter
      → AreWays framed (ways_by_counter framed counter a)
