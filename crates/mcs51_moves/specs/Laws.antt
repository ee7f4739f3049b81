-- What holds of moves.
use Rattle.std.specs.Prelude.{◌<◌, ℕ, Bool, List, Option}
use Rattle.choosing.specs.Gives.{Gives}
use Rattle.mcs51_decode.specs.declared.instr.Instr.TheVariants.{Decrement, DirectLogic, Exchange, ExchangeDigit, Increment, MoveFromDirect, MoveImmediate, MoveToDirect, Store}
use Rattle.mcs51_decode.specs.declared.instr.Logic.{Logic}
use Rattle.mcs51_decode.specs.declared.instr.Mask.{Mask}
use Rattle.mcs51_decode.specs.declared.instr.Memory.{Memory as AMemory}
use Rattle.mcs51_decode.specs.declared.instr.Place.TheVariants.{Memory as InMemory}
use Rattle.mcs51_decode.specs.declared.instr.Pointer.{Pointer}
use Rattle.mcs51_decode.specs.declared.instr.Working.{Working}
use Rattle.mcs51_decode.specs.Fitting.{IsMask, IsMemory}
use Rattle.mcs51_chip.specs.declared.state.ChipState.{ChipState}
use Rattle.mcs51_chip.specs.Step.{effect_of}
use Rattle.mcs51_state.specs.Forms.{IsKnown}
use Rattle.mcs51_state.specs.Known.{Known}
use Rattle.mcs51_state.specs.Under.{IsUnder}
use Rattle.mcs51_state.specs.Operands.{direct_addresses}
use Rattle.mcs51_state.specs.Doing.{DoesSo}
use Rattle.mcs51_state.specs.Accesses.{update_at, update_items, write_items}
use Rattle.mcs51_moves.specs.Moves.{decremented, digit_exchanged, direct_masked, exchanged, from_direct_items, immediate_moved, incremented, moved_from_direct, moved_to_direct, pointed, stored, to_direct_items}

-- The instruction of the chip does what is said of it, whatever number it reads: its accesses are shown, it goes on behind
-- itself, and the state behind it stands under what is known there.
pub record MovesDo : Type 0 where
  pub increment : (framed : Bool) (a : Known) (s : ChipState) (first : Option ChipState) (image : List (Option ℕ))
      (pc : ℕ) (m : AMemory)
      → IsUnder framed a s first → IsMemory m
      → Gives (DoesSo framed first (update_items pc a m) pc (incremented framed m a) s)
      (effect_of image s (Increment (InMemory m)))
  pub decrement : (framed : Bool) (a : Known) (s : ChipState) (first : Option ChipState) (image : List (Option ℕ))
      (pc : ℕ) (m : AMemory)
      → IsUnder framed a s first → IsMemory m
      → Gives (DoesSo framed first (update_items pc a m) pc (decremented framed m a) s)
      (effect_of image s (Decrement (InMemory m)))
  pub mask_direct : (framed : Bool) (a : Known) (s : ChipState) (first : Option ChipState) (image : List (Option ℕ))
      (pc : ℕ) (done : Logic) (direct : ℕ) (by : Mask)
      → IsUnder framed a s first → direct < 256 → IsMask by
      → Gives (DoesSo framed first (update_at pc (direct_addresses direct)) pc (direct_masked framed done direct by a) s)
      (effect_of image s (DirectLogic done direct by))
  pub immediate : (framed : Bool) (a : Known) (s : ChipState) (first : Option ChipState) (image : List (Option ℕ))
      (pc : ℕ) (m : AMemory) (value : ℕ)
      → IsUnder framed a s first → IsMemory m → value < 256
      → Gives (DoesSo framed first (write_items pc a m) pc (immediate_moved framed m value a) s)
      (effect_of image s (MoveImmediate (InMemory m) value))
  pub to_direct : (framed : Bool) (a : Known) (s : ChipState) (first : Option ChipState) (image : List (Option ℕ))
      (pc to : ℕ) (from : AMemory)
      → IsUnder framed a s first → to < 256 → IsMemory from
      → Gives (DoesSo framed first (to_direct_items pc a to from) pc (moved_to_direct framed to from a) s)
      (effect_of image s (MoveToDirect to from))
  pub from_direct : (framed : Bool) (a : Known) (s : ChipState) (first : Option ChipState) (image : List (Option ℕ))
      (pc : ℕ) (to : Working) (from : ℕ)
      → IsUnder framed a s first → from < 256
      → Gives (DoesSo framed first (from_direct_items pc a to from) pc (moved_from_direct framed to from a) s)
      (effect_of image s (MoveFromDirect to from))
  pub store : (framed : Bool) (a : Known) (s : ChipState) (first : Option ChipState) (image : List (Option ℕ)) (pc : ℕ)
      (m : AMemory)
      → IsUnder framed a s first → IsMemory m
      → Gives (DoesSo framed first (write_items pc a m) pc (stored framed m a) s) (effect_of image s (Store m))
  pub exchange : (framed : Bool) (a : Known) (s : ChipState) (first : Option ChipState) (image : List (Option ℕ))
      (pc : ℕ) (m : AMemory)
      → IsUnder framed a s first → IsMemory m
      → Gives (DoesSo framed first (update_items pc a m) pc (exchanged framed m a) s) (effect_of image s (Exchange m))
  pub exchange_digit : (framed : Bool) (a : Known) (s : ChipState) (first : Option ChipState) (image : List (Option ℕ))
      (pc : ℕ) (i : Pointer)
      → IsUnder framed a s first
      → Gives (DoesSo framed first (update_items pc a (pointed i)) pc (digit_exchanged framed i a) s)
      (effect_of image s (ExchangeDigit i))

-- What is said of the state behind the instruction is in form.
pub record MovesKeepForm : Type 0 where
  pub increment : (framed : Bool) (a : Known) (m : AMemory) → IsKnown framed a → IsMemory m
      → IsKnown framed (incremented framed m a)
  pub decrement : (framed : Bool) (a : Known) (m : AMemory) → IsKnown framed a → IsMemory m
      → IsKnown framed (decremented framed m a)
  pub mask_direct : (framed : Bool) (a : Known) (done : Logic) (direct : ℕ) (by : Mask) → IsKnown framed a
      → direct < 256 → IsMask by → IsKnown framed (direct_masked framed done direct by a)
  pub immediate : (framed : Bool) (a : Known) (m : AMemory) (value : ℕ) → IsKnown framed a → IsMemory m → value < 256
      → IsKnown framed (immediate_moved framed m value a)
  pub to_direct : (framed : Bool) (a : Known) (to : ℕ) (from : AMemory) → IsKnown framed a → to < 256 → IsMemory from
      → IsKnown framed (moved_to_direct framed to from a)
  pub from_direct : (framed : Bool) (a : Known) (to : Working) (from : ℕ) → IsKnown framed a → from < 256
      → IsKnown framed (moved_from_direct framed to from a)
  pub store : (framed : Bool) (a : Known) (m : AMemory) → IsKnown framed a → IsMemory m
      → IsKnown framed (stored framed m a)
  pub exchange : (framed : Bool) (a : Known) (m : AMemory) → IsKnown framed a → IsMemory m
      → IsKnown framed (exchanged framed m a)
  pub exchange_digit : (framed : Bool) (a : Known) (i : Pointer) → IsKnown framed a
      → IsKnown framed (digit_exchanged framed i a)
