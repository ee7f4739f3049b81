-- What an analysis of the MSP430 says of a single state, and of the one that an interrupt suspended first (G. Balakrishnan
-- and T. Reps, "WYSINWYX: What You See Is Not What You eXecute", 2010: value sets under call strings; the interrupts of
-- SLAU049, chapter 2).
use Rattle.std.specs.Prelude.{◌≡◌, ℕ, ◌+◌, ◌-◌, ◌%◌, ◌<◌, ◌==◌, if◌then◌else◌, false, Option, option_map, None, Some, List, slice_index}
use Rattle.call_context.specs.declared.node.Frame.{Frame}
use Rattle.call_context.specs.declared.node.Frame.TheVariants.{Base, Irq}
use Rattle.call_context.specs.declared.node.Node.{Node}
use Rattle.call_context.specs.declared.node.Node.TheVariants.{At, Exit}
use Rattle.entry_value.specs.Words.{Suspended, IsFromEntry, HoldsOfWord}
use Rattle.entry_value.specs.Cells.{StandsUnder}
use Rattle.value_bits.specs.Bits.{Agrees}
use Rattle.value_bits.specs.Flags.{IsFlag}
use Rattle.value_set.specs.Form.{Has}
use Rattle.msp430_decode.specs.declared.instr.Width.{Width}
use Rattle.msp430_decode.specs.declared.instr.Width.TheVariants.{Byte}
use Rattle.msp430_chip.specs.declared.device.Device.{Device}
use Rattle.msp430_chip.specs.declared.state.ChipState.{ChipState}
use Rattle.msp430_chip.specs.Arithmetic.{modulus, complement, sum, with_made_flags}
use Rattle.msp430_chip.specs.Memory.{is_ram}
use Rattle.msp430_chip.specs.State.{register_of, IsChipState}
use Rattle.msp430_state.specs.declared.fact.FlagFact.{FlagFact}
use Rattle.msp430_state.specs.declared.status.Status.{Status}
use Rattle.msp430_state.specs.Known.{Known, word_of}
use Rattle.irq_frames.specs.Ranges.{has_address}

-- THE SUSPENDED STATE

-- SR holds its bits 8 to 0, and each other register all of its bits
abbrev pub held_bits : ℕ → ℕ
held_bits register = if register == 2 then 511 else 65535

-- what a relation to a suspended state may name: its registers by number, PC being 0
abbrev pub suspended_of : ChipState → Suspended
suspended_of f = record { number = register_of f; held = held_bits }

-- THE PARTS OF A STATE

-- the byte of RAM at an address, and 0 elsewhere
abbrev pub ram_byte : Device → List ℕ → ℕ → ℕ
ram_byte device ram at = if is_ram device at then slice_index ram (at - device.ram.lo) else 0

pub record HoldsOfStatus (first : Option Suspended) (status : Status) (sr : ℕ) : Type 0 where
  pub bits : Agrees status.bits sr
  pub entry : IsFromEntry first status.entry sr

-- the flags of SR are those of comparing x with n, which CMP sets by the sum of x, the complement of n and 1
abbrev pub HasFlagsOf : Width → (x n sr : ℕ) → Type 0
HasFlagsOf width x n sr = with_made_flags sr (sum width x (complement width n) 1).1 ≡ sr

abbrev pub HoldsOfFact : Option FlagFact → List ℕ → Type 0
HoldsOfFact None registers = Unit {0}
HoldsOfFact (Some fact) registers = let value = slice_index registers fact.register in
    HasFlagsOf fact.width ((value + fact.added) % modulus fact.width) fact.compared (slice_index registers 2)
    × (fact.width ≡ Byte → value < 256)

-- each byte of RAM outside the touched ranges is what it was when the interrupt came
abbrev pub KeepsUntouched : Device → List (ℕ × ℕ) → List ℕ → Option ChipState → Type 0
KeepsUntouched device touched ram None = Unit {0}
KeepsUntouched device touched ram (Some f) =
    (at : ℕ) → has_address touched at ≡ false → ram_byte device ram at ≡ ram_byte device f.ram at

-- of the registers and the bytes of RAM, and of the state that an interrupt suspended first
pub record HoldsOfParts (device : Device) (a : Known) (first : Option ChipState) (registers ram : List ℕ) : Type 0 where
  pub sp : Has 65536 a.sp (slice_index registers 1)
  pub status : HoldsOfStatus (option_map suspended_of first) a.status (slice_index registers 2)
  pub words : (register : ℕ) → 3 < register → register < 16
      → HoldsOfWord (option_map suspended_of first) (word_of a register) (slice_index registers register)
  pub fact : HoldsOfFact a.fact registers
  pub cells : StandsUnder (option_map suspended_of first) a.cells.cells (ram_byte device ram)
  pub untouched : KeepsUntouched device a.touched ram first

-- STATES AT NODES

-- an interrupt suspends a state of the chip
abbrev pub IsSuspendedState : Device → Option ChipState → Type 0
IsSuspendedState device None = Unit {0}
IsSuspendedState device (Some f) = IsChipState device f

pub record HoldsOf (device : Device) (a : Known) (s : ChipState) (first : Option ChipState) : Type 0 where
  pub state : IsChipState device s
  pub suspended : IsSuspendedState device first
  pub late : IsFlag a.late s.late
  pub parts : HoldsOfParts device a first s.registers s.ram

-- the interrupt came at the frame's stack pointer, where that is known
abbrev pub CameAt : Option ℕ → ChipState → Type 0
CameAt None f = Unit {0}
CameAt (Some sp) f = register_of f 1 ≡ sp

-- which state was suspended first: none is in the base frame
abbrev pub StandsIn : Frame → Option ChipState → Type 0
StandsIn Base first = first ≡ None
StandsIn (Irq vector sp level) None = ⊥
StandsIn (Irq vector sp level) (Some f) = CameAt sp f

-- a state that an exit left goes on where the interrupt came, with the stack pointer of its frame
abbrev pub GoesOn : Frame → ChipState → Option ChipState → Type 0
GoesOn (Irq vector (Some sp) level) s (Some f) = (register_of s 0 ≡ register_of f 0) × (register_of s 1 ≡ sp)
GoesOn (Irq vector (Some sp) level) s None = ⊥
GoesOn (Irq vector None level) s first = ⊥
GoesOn Base s first = ⊥

-- what is known of the states at a node stands for a state of the chip, over the one that was suspended first
abbrev pub Covers : Device → Node → Known → ChipState → Option ChipState → Type 0
Covers device (At pc calls frame) a s first = (register_of s 0 ≡ pc) × HoldsOf device a s first × StandsIn frame first
Covers device (Exit pc frame) a s first = GoesOn frame s first × HoldsOf device a s first × StandsIn frame first
