-- What holds of instructions that reach other memories or write two registers.
use Rattle.std.specs.Prelude.{◌<◌, ℕ, All, Bool, [], false, List, Option, true}
use Rattle.image.specs.Image.{IsByte}
use Rattle.choosing.specs.Gives.{Gives}
use Rattle.mcs51_decode.specs.declared.instr.CodeBase.{CodeBase}
use Rattle.mcs51_decode.specs.declared.instr.External.{External}
use Rattle.mcs51_decode.specs.declared.instr.Instr.TheVariants.{Divide, IncrementDataPointer, LoadDataPointer, MoveCode, Multiply, Pop, Push, ReadExternal, WriteExternal}
use Rattle.mcs51_chip.specs.declared.state.ChipState.{ChipState}
use Rattle.mcs51_chip.specs.Step.{effect_of}
use Rattle.mcs51_state.specs.Forms.{IsKnown}
use Rattle.mcs51_state.specs.Known.{Known}
use Rattle.mcs51_state.specs.Under.{IsUnder}
use Rattle.mcs51_state.specs.Doing.{DoesSo}
use Rattle.mcs51_memories.specs.Codes.{code_items, code_loaded}
use Rattle.mcs51_memories.specs.Externals.{external_items, external_loaded}
use Rattle.mcs51_memories.specs.Pairs.{divided_known, multiplied_known, pointer_loaded, pointer_raised}
use Rattle.mcs51_memories.specs.Stacking.{pop_items, popped_known, push_items, pushed_known}

-- PUSH, POP, MOV and INC of DPTR, MUL, DIV, MOVC and MOVX do what is said, whatever number the chip reads. An image has bytes.
pub record MemoriesDo : Type 0 where
  pub push : (framed : Bool) (a : Known) (s : ChipState) (first : Option ChipState) (image : List (Option ℕ))
      (pc direct : ℕ)
      → IsUnder framed a s first → direct < 256
      → Gives (DoesSo framed first (push_items pc direct a) pc (pushed_known framed direct a) s)
      (effect_of image s (Push direct))
  pub pop : (framed : Bool) (a : Known) (s : ChipState) (first : Option ChipState) (image : List (Option ℕ))
      (pc direct : ℕ)
      → IsUnder framed a s first → direct < 256
      → Gives (DoesSo framed first (pop_items pc direct a) pc (popped_known framed direct a) s)
      (effect_of image s (Pop direct))
  pub load_data_pointer : (framed : Bool) (a : Known) (s : ChipState) (first : Option ChipState)
      (image : List (Option ℕ)) (pc value : ℕ)
      → IsUnder framed a s first → value < 65536
      → Gives (DoesSo framed first [] pc (pointer_loaded value a) s) (effect_of image s (LoadDataPointer value))
  pub increment_data_pointer : (framed : Bool) (a : Known) (s : ChipState) (first : Option ChipState)
      (image : List (Option ℕ)) (pc : ℕ)
      → IsUnder framed a s first
      → Gives (DoesSo framed first [] pc (pointer_raised a) s) (effect_of image s IncrementDataPointer)
  pub multiply : (framed : Bool) (a : Known) (s : ChipState) (first : Option ChipState) (image : List (Option ℕ))
      (pc : ℕ)
      → IsUnder framed a s first
      → Gives (DoesSo framed first [] pc (multiplied_known a) s) (effect_of image s Multiply)
  pub divide : (framed : Bool) (a : Known) (s : ChipState) (first : Option ChipState) (image : List (Option ℕ)) (pc : ℕ)
      → IsUnder framed a s first → Gives (DoesSo framed first [] pc (divided_known a) s) (effect_of image s Divide)
  pub move_code : (framed : Bool) (a : Known) (s : ChipState) (first : Option ChipState) (image : List (Option ℕ))
      (pc : ℕ) (base : CodeBase)
      → IsUnder framed a s first → All IsByte image
      → Gives (DoesSo framed first (code_items pc base s.pc a) pc (code_loaded image base s.pc a) s)
      (effect_of image s (MoveCode base))
  pub read_external : (framed : Bool) (a : Known) (s : ChipState) (first : Option ChipState) (image : List (Option ℕ))
      (pc : ℕ) (external : External)
      → IsUnder framed a s first
      → Gives (DoesSo framed first (external_items pc false external a) pc (external_loaded a) s)
      (effect_of image s (ReadExternal external))
  pub write_external : (framed : Bool) (a : Known) (s : ChipState) (first : Option ChipState) (image : List (Option ℕ))
      (pc : ℕ) (external : External)
      → IsUnder framed a s first
      → Gives (DoesSo framed first (external_items pc true external a) pc a s)
      (effect_of image s (WriteExternal external))

-- What is said behind such an instruction is in form. Behind MOVX to memory it is what was said before.
pub record MemoriesKeepForm : Type 0 where
  pub push : (framed : Bool) (a : Known) (direct : ℕ) → IsKnown framed a → direct < 256
      → IsKnown framed (pushed_known framed direct a)
  pub pop : (framed : Bool) (a : Known) (direct : ℕ) → IsKnown framed a → direct < 256
      → IsKnown framed (popped_known framed direct a)
  pub load_data_pointer : (framed : Bool) (a : Known) (value : ℕ) → IsKnown framed a → value < 65536
      → IsKnown framed (pointer_loaded value a)
  pub increment_data_pointer : (framed : Bool) (a : Known) → IsKnown framed a → IsKnown framed (pointer_raised a)
  pub multiply : (framed : Bool) (a : Known) → IsKnown framed a → IsKnown framed (multiplied_known a)
  pub divide : (framed : Bool) (a : Known) → IsKnown framed a → IsKnown framed (divided_known a)
  pub move_code : (framed : Bool) (a : Known) (image : List (Option ℕ)) (base : CodeBase) (next : ℕ)
      → IsKnown framed a → All IsByte image → IsKnown framed (code_loaded image base next a)
  pub read_external : (framed : Bool) (a : Known) → IsKnown framed a → IsKnown framed (external_loaded a)
