-- The kinds of registers: PC, SP, SR and R3 behave each in their own way, and R4 to R15 alike.
use Rattle.std.specs.Prelude.{◌≡◌, ℕ, ◌<◌, false, List, slice_set}
use Rattle.msp430_decode.specs.declared.instr.Register.{Register}
use Rattle.msp430_decode.specs.declared.instr.Register.TheVariants.{Pc, Sp, Sr, R3}
use Rattle.msp430_decode.specs.declared.instr.Width.{Width}
use Rattle.msp430_decode.specs.declared.instr.Source.TheVariants as source
use Rattle.msp430_decode.specs.declared.instr.Destination.{Destination}
use Rattle.msp430_decode.specs.Codes.{number}
use Rattle.msp430_chip.specs.declared.place.Place.TheVariants.{InRegister}
use Rattle.msp430_chip.specs.Memory.{size_of}
use Rattle.msp430_chip.specs.Operands.{growth, is_status, with_register}
use Rattle.msp430_chip.specs.Step.{is_formed_by_stack, reads_counter}

-- R4 to R15 hold each word as it is
pub record IsGeneral (register : Register) : Type 0 where
  pub above : 3 < number register
  pub below : number register < 16
  pub set : (registers : List ℕ) (value : ℕ) → with_register registers register value ≡ slice_set registers (number register) value
  pub grows : (width : Width) → growth width register ≡ size_of width
  pub no_status : is_status (InRegister register) ≡ false
  pub no_counter : (target : Destination) → reads_counter (source.Register register) target ≡ false
  pub no_stack : is_formed_by_stack (source.Register register) ≡ false
  pub no_stack_indexed : (offset : ℕ) → is_formed_by_stack (source.Indexed register offset) ≡ false
  pub no_stack_indirect : is_formed_by_stack (source.Indirect register) ≡ false

pub data Kind (register : Register) : Type 0 where
  Counter : register ≡ Pc → Kind register
  Stack : register ≡ Sp → Kind register
  Status : register ≡ Sr → Kind register
  Empty : register ≡ R3 → Kind register
  General : IsGeneral register → Kind register
