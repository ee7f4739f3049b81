-- What holds of instructions on CY and on bits.
use Rattle.std.specs.Prelude.{◌<◌, ◌%◌, ℕ, Bool, [], List, Option}
use Rattle.std.specs.Int.{bit_at}
use Rattle.choosing.specs.Gives.{Gives}
use Rattle.mcs51_decode.specs.declared.instr.BitOperation.{BitOperation}
use Rattle.mcs51_decode.specs.declared.instr.CarryByBit.{CarryByBit}
use Rattle.mcs51_decode.specs.declared.instr.CarryOperation.{CarryOperation}
use Rattle.mcs51_decode.specs.declared.instr.Instr.TheVariants.{CarryBit, ChangeBit, ChangeCarry}
use Rattle.mcs51_chip.specs.declared.state.ChipState.{ChipState}
use Rattle.mcs51_chip.specs.Arithmetic.{bit_after}
use Rattle.mcs51_chip.specs.Leading.{MayRead}
use Rattle.mcs51_chip.specs.Memory.{bit_address, write}
use Rattle.mcs51_chip.specs.Registers.{carry_of, with_bit}
use Rattle.mcs51_chip.specs.Step.{effect_of}
use Rattle.mcs51_state.specs.Forms.{IsKnown}
use Rattle.mcs51_state.specs.Known.{Known}
use Rattle.mcs51_state.specs.Under.{IsUnder}
use Rattle.mcs51_state.specs.Operands.{bit_addresses}
use Rattle.mcs51_state.specs.Doing.{DoesSo, LeadsSo}
use Rattle.mcs51_state.specs.Accesses.{read_at, update_at}
use Rattle.mcs51_jumps.specs.Bits.{bit_changed, carry_changed, carry_joined}

-- An instruction on CY or on a bit does what is said, whatever number the chip reads.
pub record BitsDo : Type 0 where
  pub change_carry : (framed : Bool) (a : Known) (s : ChipState) (first : Option ChipState) (image : List (Option ℕ))
      (pc : ℕ) (operation : CarryOperation)
      → IsUnder framed a s first
      → Gives (DoesSo framed first [] pc (carry_changed operation a) s) (effect_of image s (ChangeCarry operation))
  pub carry_bit : (framed : Bool) (a : Known) (s : ChipState) (first : Option ChipState) (image : List (Option ℕ))
      (pc : ℕ) (operation : CarryByBit) (bit : ℕ)
      → IsUnder framed a s first → bit < 256
      → Gives (DoesSo framed first (read_at pc (bit_addresses bit)) pc (carry_joined operation bit a) s)
      (effect_of image s (CarryBit operation bit))
  pub change_bit : (framed : Bool) (a : Known) (s : ChipState) (first : Option ChipState) (image : List (Option ℕ))
      (pc : ℕ) (operation : BitOperation) (bit : ℕ)
      → IsUnder framed a s first → bit < 256
      → Gives (DoesSo framed first (update_at pc (bit_addresses bit)) pc (bit_changed framed operation bit a) s)
      (effect_of image s (ChangeBit operation bit))
  -- whichever of the numbers that it may read the chip reads
  pub changed : (framed : Bool) (a : Known) (s : ChipState) (first : Option ChipState) (operation : BitOperation)
      (bit x : ℕ)
      → IsUnder framed a s first → bit < 256 → MayRead s (bit_address bit) x
      → LeadsSo framed first (bit_changed framed operation bit a) s
      (write (bit_address bit) (with_bit x (bit % 8) (bit_after operation (carry_of s) (bit_at x (bit % 8)))) s)

-- What is said behind an instruction on CY or on a bit is in form.
pub record BitsKeepForm : Type 0 where
  pub change_carry : (framed : Bool) (a : Known) (operation : CarryOperation) → IsKnown framed a
      → IsKnown framed (carry_changed operation a)
  pub carry_bit : (framed : Bool) (a : Known) (operation : CarryByBit) (bit : ℕ) → IsKnown framed a
      → IsKnown framed (carry_joined operation bit a)
  pub change_bit : (framed : Bool) (a : Known) (operation : BitOperation) (bit : ℕ) → IsKnown framed a → bit < 256
      → IsKnown framed (bit_changed framed operation bit a)
