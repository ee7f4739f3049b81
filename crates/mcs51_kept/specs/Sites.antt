-- The instructions of an image that promises may name: those that store through R0 or R1, and those that go on where a value
-- says (Intel, MCS-51 Programmer's Guide and Instruction Set, "Addressing Modes" and "Instruction Definitions").
use Rattle.std.specs.Prelude.{ℕ, Option, None, Some, Result, Ok, Err, List}
use Rattle.mcs51_decode.specs.declared.instr.Instr.{Instr}
use Rattle.mcs51_decode.specs.declared.instr.Instr.TheVariants.{Decrement, Exchange, ExchangeDigit, Increment, JumpIndirect, MoveFromDirect, MoveImmediate, Return, Store as MoveAccumulator}
use Rattle.mcs51_decode.specs.declared.instr.Memory.{Memory}
use Rattle.mcs51_decode.specs.declared.instr.Memory.TheVariants.{Direct, Working as InWorking}
use Rattle.mcs51_decode.specs.declared.instr.Place.{Place}
use Rattle.mcs51_decode.specs.declared.instr.Place.TheVariants.{Accumulator, Memory as InMemory}
use Rattle.mcs51_decode.specs.declared.instr.Pointer.{Pointer}
use Rattle.mcs51_decode.specs.declared.instr.Working.{Working}
use Rattle.mcs51_decode.specs.declared.instr.Working.TheVariants.{Indirect, Register}
use Rattle.mcs51_decode.specs.declared.refusal.NoInstr.{NoInstr}
use Rattle.mcs51_decode.specs.Decoding.{decoded}
use Rattle.promises.specs.Spoken.{Spoken}
use Rattle.promises.specs.declared.spoken.Growth.TheVariants.{Up}
use Rattle.promises.specs.declared.spoken.Site.{Site}
use Rattle.promises.specs.declared.spoken.Site.TheVariants.{Nothing, Store, Way}

-- POINTERS

abbrev pub working_pointer : Working → Option Pointer
working_pointer (Indirect pointer) = Some pointer
working_pointer (Register register) = None

abbrev pub memory_pointer : Memory → Option Pointer
memory_pointer (Direct direct) = None
memory_pointer (InWorking working) = working_pointer working

abbrev pub place_pointer : Place → Option Pointer
place_pointer Accumulator = None
place_pointer (InMemory memory) = memory_pointer memory

-- R0 or R1, where an instruction stores in RAM through it; MOVX stores in external memory
unfoldable pub pointer_of : Instr → Option Pointer
pointer_of (Increment place) = place_pointer place
pointer_of (Decrement place) = place_pointer place
pointer_of (MoveImmediate to value) = place_pointer to
pointer_of (MoveFromDirect to from) = working_pointer to
pointer_of (MoveAccumulator to) = memory_pointer to
pointer_of (Exchange with) = memory_pointer with
pointer_of (ExchangeDigit pointer) = Some pointer
pointer_of other = None

-- SITES

-- a store through a pointer, or else something other
abbrev pub store_or : Option Pointer → (other : Site) → Site
store_or None other = other
store_or (Some pointer) other = Store 1

-- RETI goes back to where an interrupt came, and no promise speaks of that
unfoldable pub way_of : Instr → Site
way_of Return = Way
way_of JumpIndirect = Way
way_of other = Nothing

abbrev pub site_of : Instr → Site
site_of instr = store_or (pointer_of instr) (way_of instr)

abbrev pub site_found : Result (Instr × ℕ) NoInstr → Site
site_found (Ok found) = site_of found.0
site_found (Err refusal) = Nothing

abbrev pub site_at : (image : List (Option ℕ)) → (pc : ℕ) → Site
site_at image pc = site_found (decoded image pc)

-- what an image says of its instructions
abbrev pub spoken : (image : List (Option ℕ)) → Spoken
spoken image = record { growth = Up; at = site_at image }
