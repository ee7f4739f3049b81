-- What holds of instructions on the accumulator.
use Rattle.std.specs.Prelude.{◌+◌, ◌%◌, ◌<◌, ℕ, Bool, true, false, List, [], Option, if◌then◌else◌}
use Rattle.choosing.specs.Gives.{Gives}
use Rattle.mcs51_decode.specs.declared.instr.AccumulatorOperation.{AccumulatorOperation}
use Rattle.mcs51_decode.specs.declared.instr.Instr.TheVariants.{Accumulate, ChangeAccumulator, Decrement, Increment, Load, MoveImmediate}
use Rattle.mcs51_decode.specs.declared.instr.Memory.{Memory}
use Rattle.mcs51_decode.specs.declared.instr.Operation.{Operation}
use Rattle.mcs51_decode.specs.declared.instr.Place.TheVariants.{Accumulator}
use Rattle.mcs51_decode.specs.declared.instr.Source.{Source}
use Rattle.mcs51_decode.specs.Fitting.{IsMemory, IsSource}
use Rattle.mcs51_chip.specs.declared.state.ChipState.{ChipState}
use Rattle.mcs51_chip.specs.Arithmetic.{accumulated, changed}
use Rattle.mcs51_chip.specs.Leading.{MayRead}
use Rattle.mcs51_chip.specs.Memory.{address_of}
use Rattle.mcs51_chip.specs.Registers.{with_accumulator}
use Rattle.mcs51_chip.specs.Step.{effect_of}
use Rattle.mcs51_state.specs.Forms.{IsKnown}
use Rattle.mcs51_state.specs.Known.{Known}
use Rattle.mcs51_state.specs.Under.{IsUnder}
use Rattle.mcs51_state.specs.Doing.{DoesSo}
use Rattle.mcs51_state.specs.Accesses.{read_items}
use Rattle.mcs51_alu.specs.Accumulator as accumulator
use Rattle.mcs51_alu.specs.Accumulator.{MayBe, accumulated_known, changed_known, counted, loaded, source_items}

-- An instruction that writes the accumulator does what is said of it: it shows its accesses, goes on behind itself, and the state
-- that it leads to stands under what is said.
pub record AccumulatorsDo : Type 0 where
  pub load : (framed : Bool) (a : Known) (s : ChipState) (first : Option ChipState) (image : List (Option ℕ)) (pc : ℕ)
      (m : Memory)
      → IsUnder framed a s first → IsMemory m
      → Gives (DoesSo framed first (read_items pc a m) pc (loaded framed m a) s) (effect_of image s (Load m))
  pub immediate : (framed : Bool) (a : Known) (s : ChipState) (first : Option ChipState) (image : List (Option ℕ))
      (pc value : ℕ)
      → IsUnder framed a s first → value < 256
      → Gives (DoesSo framed first [] pc (accumulator.immediate value a) s) (effect_of image s (MoveImmediate Accumulator value))
  pub increment : (framed : Bool) (a : Known) (s : ChipState) (first : Option ChipState) (image : List (Option ℕ)) (pc : ℕ)
      → IsUnder framed a s first
      → Gives (DoesSo framed first [] pc (counted true a) s) (effect_of image s (Increment Accumulator))
  pub decrement : (framed : Bool) (a : Known) (s : ChipState) (first : Option ChipState) (image : List (Option ℕ)) (pc : ℕ)
      → IsUnder framed a s first
      → Gives (DoesSo framed first [] pc (counted false a) s) (effect_of image s (Decrement Accumulator))
  pub accumulate : (framed : Bool) (a : Known) (s : ChipState) (first : Option ChipState) (image : List (Option ℕ))
      (pc : ℕ) (done : Operation) (origin : Source)
      → IsUnder framed a s first → IsSource origin
      → Gives (DoesSo framed first (source_items pc a origin) pc (accumulated_known framed done origin a) s)
      (effect_of image s (Accumulate done origin))
  pub change : (framed : Bool) (a : Known) (s : ChipState) (first : Option ChipState) (image : List (Option ℕ)) (pc : ℕ)
      (done : AccumulatorOperation)
      → IsUnder framed a s first
      → Gives (DoesSo framed first [] pc (changed_known done a) s) (effect_of image s (ChangeAccumulator done))

-- The state that the chip comes to by an instruction that writes the accumulator stands under what is said, whatever number the
-- chip reads. What is said is in form.
pub record AccumulatorsHold : Type 0 where
  pub load : (framed : Bool) (a : Known) (s : ChipState) (first : Option ChipState) (m : Memory) (x : ℕ)
      → IsUnder framed a s first → IsMemory m → MayRead s (address_of s m) x
      → IsUnder framed (loaded framed m a) (with_accumulator x s) first
  pub load_form : (framed : Bool) (a : Known) (m : Memory) → IsKnown framed a → IsMemory m
      → IsKnown framed (loaded framed m a)
  pub immediate : (framed : Bool) (a : Known) (s : ChipState) (first : Option ChipState) (value : ℕ)
      → IsUnder framed a s first → value < 256 → IsUnder framed (accumulator.immediate value a) (with_accumulator value s) first
  pub immediate_form : (framed : Bool) (a : Known) (value : ℕ) → IsKnown framed a → value < 256
      → IsKnown framed (accumulator.immediate value a)
  pub count : (framed : Bool) (a : Known) (s : ChipState) (first : Option ChipState) (up : Bool)
      → IsUnder framed a s first
      → IsUnder framed (counted up a) (with_accumulator (if up then (s.a + 1) % 256 else (s.a + 255) % 256) s) first
  pub count_form : (framed : Bool) (a : Known) (up : Bool) → IsKnown framed a → IsKnown framed (counted up a)
  pub accumulate : (framed : Bool) (a : Known) (s : ChipState) (first : Option ChipState) (done : Operation)
      (origin : Source) (x : ℕ)
      → IsUnder framed a s first → IsSource origin → MayBe s origin x
      → IsUnder framed (accumulated_known framed done origin a) (accumulated done x s) first
  pub accumulate_form : (framed : Bool) (a : Known) (done : Operation) (origin : Source) → IsKnown framed a
      → IsSource origin → IsKnown framed (accumulated_known framed done origin a)
  pub change : (framed : Bool) (a : Known) (s : ChipState) (first : Option ChipState) (done : AccumulatorOperation)
      → IsUnder framed a s first → IsUnder framed (changed_known done a) (changed done s) first
  pub change_form : (framed : Bool) (a : Known) (done : AccumulatorOperation) → IsKnown framed a
      → IsKnown framed (changed_known done a)
