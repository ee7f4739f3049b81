-- What the formats of instructions and steps may lead to, as relations in which no choices stand: each point that is free is
-- any number that it may be. A step of `Step.antt` by any choices leads to what these say (`formats_lead`, `step_laws`).
use Rattle.std.specs.Prelude.{◌≡◌, ℕ, ◌+◌, ◌-◌, ◌*◌, ◌%◌, ◌<◌, Bool, true, false, Option, None, Some, Err, List, [], ◌∷◌, ◌++◌, Contains, slice_index}
use Rattle.mcs51_decode.specs.declared.instr.Instr.{Instr}
use Rattle.mcs51_decode.specs.declared.instr.External.{External as AnExternal}
use Rattle.mcs51_decode.specs.declared.instr.External.TheVariants.{DataPointer, Indirect}
use Rattle.mcs51_decode.specs.declared.refusal.NoInstr.{NoInstr}
use Rattle.mcs51_decode.specs.Encoding.{bytes_of}
use Rattle.mcs51_decode.specs.Standing.{Decodes, Stands}
use Rattle.mcs51_decode.specs.Targets.{following}
use Rattle.chip_numbers.specs.Single.Single.{Instr as Ran}
use Rattle.choosing.specs.Outcome.Outcome.{Wild}
use Rattle.mcs51_chip.specs.declared.place.Access.TheVariants.{External}
use Rattle.mcs51_chip.specs.declared.place.Address.{Address}
use Rattle.mcs51_chip.specs.declared.place.Address.TheVariants.{InRam, InSfr}
use Rattle.mcs51_chip.specs.declared.place.Sfr.{Sfr}
use Rattle.mcs51_chip.specs.declared.place.Sfr.TheVariants.{Sp, Dpl, Dph, Ie, Ip, Psw, Acc, B, Other}
use Rattle.mcs51_chip.specs.declared.state.ChipState.{ChipState}
use Rattle.mcs51_chip.specs.Arithmetic.{divided, divided_by_zero}
use Rattle.mcs51_chip.specs.Interrupts.{coming}
use Rattle.mcs51_chip.specs.Memory.{direct_address, pointed_by, write, pushed, top_of, popped, reads, writes}
use Rattle.mcs51_chip.specs.Registers.{parity, sfr_at, data_pointer, with_accumulator}
use Rattle.mcs51_chip.specs.Step.{Effect, Outcome, going_to, external_reads, effect_of, stepped, entered}

-- BYTES

-- what a register may read as
abbrev pub MayReadSfr : ChipState → Sfr → ℕ → Type 0
MayReadSfr s Sp x = x ≡ s.sp
MayReadSfr s Dpl x = x ≡ s.dpl
MayReadSfr s Dph x = x ≡ s.dph
MayReadSfr s Ie x = (bit : ℕ) × (bit < 2) × (x ≡ s.ie + 64 * bit)
MayReadSfr s Ip x = (bits : ℕ) × (bits < 4) × (x ≡ s.ip + 64 * bits)
MayReadSfr s Psw x = (bit : ℕ) × (bit < 2) × (x ≡ s.psw + 2 * bit + parity s.a)
MayReadSfr s Acc x = x ≡ s.a
MayReadSfr s B x = x ≡ s.b
MayReadSfr s Other x = x < 256

abbrev pub MayRead : ChipState → Address → ℕ → Type 0
MayRead s (InRam at) x = x ≡ slice_index s.ram at
MayRead s (InSfr at) x = MayReadSfr s (sfr_at at) x

-- a byte of the program, or any
abbrev pub MayReadCode : Option ℕ → ℕ → Type 0
MayReadCode (Some byte) x = x ≡ byte
MayReadCode None x = x < 256

-- SP as PUSH SP stores it, and a direct byte else
abbrev pub MayPush : Bool → ChipState → (direct x : ℕ) → Type 0
MayPush true s direct x = (option : ℕ) × (option < 2) × (x ≡ (s.sp + option) % 256)
MayPush false s direct x = MayRead s (direct_address direct) x

-- by @Ri the high byte is any
abbrev pub MayBeAt : ChipState → AnExternal → ℕ → Type 0
MayBeAt s DataPointer at = at ≡ data_pointer s
MayBeAt s (Indirect i) at = (high : ℕ) × (high < 256) × (at ≡ pointed_by s i + 256 * high)

-- FORMATS

-- the effect is that of one of these numbers
abbrev pub IsOfOne : (ℕ → Type 0) → (ℕ → Effect) → Effect → Type 0
IsOfOne May leads effect = (x : ℕ) × May x × (effect ≡ leads x)

-- PUSH of a byte, and POP with 0 or 1 less
abbrev pub pushed_from : ChipState → (direct x : ℕ) → Effect
pushed_from s direct x = (reads (direct_address direct) ++ writes (InRam ((s.sp + 1) % 256)), pushed x s)

abbrev pub popped_into : ChipState → (direct option : ℕ) → Effect
popped_into s direct option =
    (reads (InRam s.sp) ++ writes (direct_address direct), write (direct_address direct) ((top_of s + 256 - option) % 256) (popped s))

-- MOVX to A
abbrev pub MayReadExternal : ChipState → AnExternal → Effect → Type 0
MayReadExternal s external effect = (at : ℕ) × MayBeAt s external at
    × IsOfOne (λ x. x < 256) (λ x. (external_reads s external ++ External false at ∷ [], with_accumulator x s)) effect

-- DIV AB
abbrev pub MayDivide : Bool → ChipState → Effect → Type 0
MayDivide true s effect = (a : ℕ) × (b : ℕ) × (a < 256) × (b < 256) × (effect ≡ ([], divided_by_zero a b s))
MayDivide false s effect = effect ≡ ([], divided s)

-- STEPS

-- an instruction comes to an effect by some choices; the formats say which these are
abbrev pub MayDo : List (Option ℕ) → ChipState → Instr → Effect → Type 0
MayDo image s instr effect =
    (choices : List ℕ) × (rest : List ℕ) × (effect_of image (going_to (following s.pc instr) s) instr choices ≡ Some (effect, rest))

-- an interrupt that may come is entered, the instruction that stands at PC runs, or none stands there
pub data MayLead (image : List (Option ℕ)) (s : ChipState) (outcome : Outcome) : Type 0 where
  Enters : (source : ℕ) → Contains (coming s) source → outcome ≡ entered s source → MayLead image s outcome
  Runs : (instr : Instr) (len : ℕ) (effect : Effect) → Stands image s.pc instr len → MayDo image s instr effect
      → outcome ≡ stepped s (Ran s.pc (bytes_of instr) ∷ []) effect → MayLead image s outcome
  NoneStands : (none : NoInstr) → Decodes image s.pc (Err none) → outcome ≡ Wild none → MayLead image s outcome
