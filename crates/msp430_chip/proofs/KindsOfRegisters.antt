-- Each register is of one of five kinds.
use Rattle.std.proofs.Common.{◌≡◌, ℕ, ◌<◌, false, List, slice_set, refl, arith}
use Rattle.msp430_decode.specs.declared.instr.Register.{Register}
use Rattle.msp430_decode.specs.declared.instr.Register.TheVariants.{Pc, Sp, Sr, R3}
use Rattle.msp430_decode.specs.declared.instr.Width.{Width}
use Rattle.msp430_decode.specs.declared.instr.Width.TheVariants.{Word, Byte}
use Rattle.msp430_decode.specs.declared.instr.Source.TheVariants as source
use Rattle.msp430_decode.specs.declared.instr.Destination.{Destination}
use Rattle.msp430_decode.specs.Codes.{number}
use Rattle.msp430_chip.specs.declared.place.Place.TheVariants.{InRegister}
use Rattle.msp430_chip.specs.Memory.{size_of}
use Rattle.msp430_chip.specs.Operands.{growth, is_status, with_register}
use Rattle.msp430_chip.specs.Step.{is_formed_by_stack, reads_counter}
use Rattle.msp430_chip.specs.Kinds.{Kind}
use Rattle.msp430_chip.specs.Kinds.Kind.{Counter, Stack, Status, Empty, General}

grows_alike : (register : Register) → growth Byte register ≡ 1 → (width : Width) → growth width register ≡ size_of width
grows_alike register one Word = refl
grows_alike register one Byte = one

general : (register : Register) → 3 < number register → number register < 16
    → ((registers : List ℕ) (value : ℕ) → with_register registers register value ≡ slice_set registers (number register) value)
    → growth Byte register ≡ 1 → is_status (InRegister register) ≡ false
    → ((target : Destination) → reads_counter (source.Register register) target ≡ false)
    → is_formed_by_stack (source.Register register) ≡ false
    → ((offset : ℕ) → is_formed_by_stack (source.Indexed register offset) ≡ false)
    → is_formed_by_stack (source.Indirect register) ≡ false → Kind register
general register above below set one status counter stack indexed indirect = General (record {
  above = above;
  below = below;
  set = set;
  grows = grows_alike register one;
  no_status = status;
  no_counter = counter;
  no_stack = stack;
  no_stack_indexed = indexed;
  no_stack_indirect = indirect;
})

pub kind_of : (register : Register) → Kind register
kind_of Pc = Counter refl
kind_of Sp = Stack refl
kind_of Sr = Status refl
kind_of R3 = Empty refl
kind_of other = general other (omega arith) (omega arith) (λ registers value. refl) refl refl (λ target. refl) refl (λ offset. refl) refl
