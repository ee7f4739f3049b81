-- An operand and its fields name each other.
use Rattle.std.proofs.Common.{◌≡◌, ℕ, zero, suc, ◌<◌, refl, arith, List, [], ◌∷◌, ◌++◌, false, ◌==◌, ◌&&◌, if◌then◌else◌}
use Rattle.msp430_decode.specs.declared.instr.Register.{Register}
use Rattle.msp430_decode.specs.declared.instr.Register.TheVariants.{Pc, Sr, R3}
use Rattle.msp430_decode.specs.declared.instr.Constant.TheVariants.{Zero, One, Two, Four, Eight, MinusOne}
use Rattle.msp430_decode.specs.declared.instr.Source.{Source}
use Rattle.msp430_decode.specs.declared.instr.Source.TheVariants as source
use Rattle.msp430_decode.specs.declared.instr.Destination.{Destination}
use Rattle.msp430_decode.specs.declared.instr.Destination.TheVariants as destination
use Rattle.msp430_decode.specs.Codes.{number}
use Rattle.msp430_decode.specs.Operands.{IsSource, IsDestination, source_register, source_mode, source_words, destination_register, destination_mode, destination_words}
use Rattle.msp430_decode.specs.Table.{IsWritable}
use Rattle.msp430_decode.specs.Excluded.{is_constant_operand}
use Rattle.msp430_decode.specs.Fields.{source_of, takes_word, destination_of}

-- the first and the second word of some, 0 where there is none
abbrev pub first_of : List ℕ → ℕ
first_of [] = 0
first_of (x ∷ xs) = x

abbrev pub second_of : List ℕ → ℕ
second_of [] = 0
second_of (x ∷ xs) = first_of xs

-- a source is that of its fields
pub source_again : (s : Source) (rest : List ℕ) → IsSource s
    → source_of (source_mode s) (source_register s) (first_of (source_words s ++ rest)) ≡ s
source_again (source.Register R3) rest h = absurd h
source_again (source.Register register) rest h = refl
source_again (source.Indexed Pc offset) rest h = absurd h.0
source_again (source.Indexed Sr offset) rest h = absurd h.0
source_again (source.Indexed R3 offset) rest h = absurd h.0
source_again (source.Indexed register offset) rest h = refl
source_again (source.Indirect Pc) rest h = absurd h
source_again (source.Indirect Sr) rest h = absurd h
source_again (source.Indirect R3) rest h = absurd h
source_again (source.Indirect register) rest h = refl
source_again (source.IndirectIncrement Pc) rest h = absurd h
source_again (source.IndirectIncrement Sr) rest h = absurd h
source_again (source.IndirectIncrement R3) rest h = absurd h
source_again (source.IndirectIncrement register) rest h = refl
source_again (source.Immediate value) rest h = refl
source_again (source.Symbolic offset) rest h = refl
source_again (source.Absolute address) rest h = refl
source_again (source.Constant Zero) rest h = refl
source_again (source.Constant One) rest h = refl
source_again (source.Constant Two) rest h = refl
source_again (source.Constant Four) rest h = refl
source_again (source.Constant Eight) rest h = refl
source_again (source.Constant MinusOne) rest h = refl

-- what is left of the extension words behind a source
pub rest_again : (s : Source) (rest : List ℕ) →
    (if takes_word s then second_of (source_words s ++ rest) else first_of (source_words s ++ rest)) ≡ first_of rest
rest_again (source.Register register) rest = refl
rest_again (source.Indexed register offset) rest = refl
rest_again (source.Indirect register) rest = refl
rest_again (source.IndirectIncrement register) rest = refl
rest_again (source.Immediate value) rest = refl
rest_again (source.Symbolic offset) rest = refl
rest_again (source.Absolute address) rest = refl
rest_again (source.Constant constant) rest = refl

pub destination_again : (d : Destination) → IsDestination d →
    destination_of (destination_mode d) (destination_register d) (first_of (destination_words d)) ≡ d
destination_again (destination.Register register) h = refl
destination_again (destination.Indexed Pc offset) h = absurd h.0
destination_again (destination.Indexed Sr offset) h = absurd h.0
destination_again (destination.Indexed R3 offset) h = absurd h.0
destination_again (destination.Indexed register offset) h = refl
destination_again (destination.Symbolic offset) h = refl
destination_again (destination.Absolute address) h = refl

pub mode_below : (s : Source) → source_mode s < 4
mode_below (source.Register register) = omega arith
mode_below (source.Indexed register offset) = omega arith
mode_below (source.Indirect register) = omega arith
mode_below (source.IndirectIncrement register) = omega arith
mode_below (source.Immediate value) = omega arith
mode_below (source.Symbolic offset) = omega arith
mode_below (source.Absolute address) = omega arith
mode_below (source.Constant Zero) = omega arith
mode_below (source.Constant One) = omega arith
mode_below (source.Constant Two) = omega arith
mode_below (source.Constant Four) = omega arith
mode_below (source.Constant Eight) = omega arith
mode_below (source.Constant MinusOne) = omega arith

pub destination_mode_below : (d : Destination) → destination_mode d < 2
destination_mode_below (destination.Register register) = omega arith
destination_mode_below (destination.Indexed register offset) = omega arith
destination_mode_below (destination.Symbolic offset) = omega arith
destination_mode_below (destination.Absolute address) = omega arith

-- no source is @PC
pub no_indirect_pc : (s : Source) → IsSource s → ((source_mode s == 2) && (number (source_register s) == 0)) ≡ false
no_indirect_pc (source.Register register) h = refl
no_indirect_pc (source.Indexed register offset) h = refl
no_indirect_pc (source.Indirect Pc) h = absurd h
no_indirect_pc (source.Indirect register) h = refl
no_indirect_pc (source.IndirectIncrement register) h = refl
no_indirect_pc (source.Immediate value) h = refl
no_indirect_pc (source.Symbolic offset) h = refl
no_indirect_pc (source.Absolute address) h = refl
no_indirect_pc (source.Constant Zero) h = refl
no_indirect_pc (source.Constant One) h = refl
no_indirect_pc (source.Constant Two) h = refl
no_indirect_pc (source.Constant Four) h = refl
no_indirect_pc (source.Constant Eight) h = refl
no_indirect_pc (source.Constant MinusOne) h = refl

-- what is written back is no constant
pub not_constant : (s : Source) → IsSource s → IsWritable s → is_constant_operand (source_mode s) (number (source_register s)) ≡ false
not_constant (source.Register R3) h writable = absurd h
not_constant (source.Register register) h writable = refl
not_constant (source.Indexed R3 offset) h writable = absurd h.0
not_constant (source.Indexed register offset) h writable = refl
not_constant (source.Indirect Sr) h writable = absurd h
not_constant (source.Indirect R3) h writable = absurd h
not_constant (source.Indirect register) h writable = refl
not_constant (source.IndirectIncrement Pc) h writable = absurd h
not_constant (source.IndirectIncrement Sr) h writable = absurd h
not_constant (source.IndirectIncrement R3) h writable = absurd h
not_constant (source.IndirectIncrement register) h writable = refl
not_constant (source.Immediate value) h writable = absurd writable
not_constant (source.Symbolic offset) h writable = refl
not_constant (source.Absolute address) h writable = refl
not_constant (source.Constant constant) h writable = absurd writable

-- no destination is R3 with Ad 1
pub no_indexed_r3 : (d : Destination) → IsDestination d → ((destination_mode d == 1) && (number (destination_register d) == 3)) ≡ false
no_indexed_r3 (destination.Register register) h = refl
no_indexed_r3 (destination.Indexed R3 offset) h = absurd h.0
no_indexed_r3 (destination.Indexed register offset) h = refl
no_indexed_r3 (destination.Symbolic offset) h = refl
no_indexed_r3 (destination.Absolute address) h = refl

-- The fields of the source of two fields.
pub record FieldsOfSource (mode : ℕ) (register : Register) (s : Source) : Type 0 where
  pub is_source : IsSource s
  pub mode_is : source_mode s ≡ mode
  pub register_is : source_register s ≡ register

pub source_fields : (mode : ℕ) (register : Register) (word : ℕ) → mode < 4 → word < 65536 →
    ((mode == 2) && (number register == 0)) ≡ false → FieldsOfSource mode register (source_of mode register word)
source_fields zero R3 word h fits allowed = record { is_source = tt; mode_is = refl; register_is = refl }
source_fields zero register word h fits allowed = record { is_source = tt; mode_is = refl; register_is = refl }
source_fields (suc zero) Pc word h fits allowed = record { is_source = fits; mode_is = refl; register_is = refl }
source_fields (suc zero) Sr word h fits allowed = record { is_source = fits; mode_is = refl; register_is = refl }
source_fields (suc zero) R3 word h fits allowed = record { is_source = tt; mode_is = refl; register_is = refl }
source_fields (suc zero) register word h fits allowed = record { is_source = (tt, fits); mode_is = refl; register_is = refl }
source_fields (suc (suc zero)) Pc word h fits allowed = absurd (cc)
source_fields (suc (suc zero)) Sr word h fits allowed = record { is_source = tt; mode_is = refl; register_is = refl }
source_fields (suc (suc zero)) R3 word h fits allowed = record { is_source = tt; mode_is = refl; register_is = refl }
source_fields (suc (suc zero)) register word h fits allowed = record { is_source = tt; mode_is = refl; register_is = refl }
source_fields (suc (suc (suc zero))) Pc word h fits allowed = record { is_source = fits; mode_is = refl; register_is = refl }
source_fields (suc (suc (suc zero))) Sr word h fits allowed = record { is_source = tt; mode_is = refl; register_is = refl }
source_fields (suc (suc (suc zero))) R3 word h fits allowed = record { is_source = tt; mode_is = refl; register_is = refl }
source_fields (suc (suc (suc zero))) register word h fits allowed = record { is_source = tt; mode_is = refl; register_is = refl }
source_fields (suc (suc (suc (suc mode)))) register word h fits allowed = absurd (omega arith)

pub record FieldsOfDestination (mode : ℕ) (register : Register) (d : Destination) : Type 0 where
  pub is_destination : IsDestination d
  pub mode_is : destination_mode d ≡ mode
  pub register_is : destination_register d ≡ register

pub destination_fields : (mode : ℕ) (register : Register) (word : ℕ) → mode < 2 → word < 65536 →
    ((mode == 1) && (number register == 3)) ≡ false → FieldsOfDestination mode register (destination_of mode register word)
destination_fields zero register word h fits allowed = record { is_destination = tt; mode_is = refl; register_is = refl }
destination_fields (suc zero) Pc word h fits allowed = record { is_destination = fits; mode_is = refl; register_is = refl }
destination_fields (suc zero) Sr word h fits allowed = record { is_destination = fits; mode_is = refl; register_is = refl }
destination_fields (suc zero) R3 word h fits allowed = absurd (cc)
destination_fields (suc zero) register word h fits allowed = record { is_destination = (tt, fits); mode_is = refl; register_is = refl }
destination_fields (suc (suc mode)) register word h fits allowed = absurd (omega arith)

-- The extension word of a source is the word that it was made with, and whether it has one isn't up to the word.
pub source_word : (mode : ℕ) (register : Register) (word : ℕ) → mode < 4 →
    source_words (source_of mode register word) ≡ (if takes_word (source_of mode register 0) then word ∷ [] else [])
source_word zero R3 word h = refl
source_word zero register word h = refl
source_word (suc zero) Pc word h = refl
source_word (suc zero) Sr word h = refl
source_word (suc zero) R3 word h = refl
source_word (suc zero) register word h = refl
source_word (suc (suc zero)) Sr word h = refl
source_word (suc (suc zero)) R3 word h = refl
source_word (suc (suc zero)) register word h = refl
source_word (suc (suc (suc zero))) Pc word h = refl
source_word (suc (suc (suc zero))) Sr word h = refl
source_word (suc (suc (suc zero))) R3 word h = refl
source_word (suc (suc (suc zero))) register word h = refl
source_word (suc (suc (suc (suc mode)))) register word h = absurd (omega arith)

pub takes_again : (mode : ℕ) (register : Register) (word : ℕ) → mode < 4 →
    takes_word (source_of mode register word) ≡ takes_word (source_of mode register 0)
takes_again zero R3 word h = refl
takes_again zero register word h = refl
takes_again (suc zero) Pc word h = refl
takes_again (suc zero) Sr word h = refl
takes_again (suc zero) R3 word h = refl
takes_again (suc zero) register word h = refl
takes_again (suc (suc zero)) Sr word h = refl
takes_again (suc (suc zero)) R3 word h = refl
takes_again (suc (suc zero)) register word h = refl
takes_again (suc (suc (suc zero))) Pc word h = refl
takes_again (suc (suc (suc zero))) Sr word h = refl
takes_again (suc (suc (suc zero))) R3 word h = refl
takes_again (suc (suc (suc zero))) register word h = refl
takes_again (suc (suc (suc (suc mode)))) register word h = absurd (omega arith)

pub destination_word : (mode : ℕ) (register : Register) (word : ℕ) → mode < 2 →
    destination_words (destination_of mode register word) ≡ (if mode == 1 then word ∷ [] else [])
destination_word zero register word h = refl
destination_word (suc zero) Pc word h = refl
destination_word (suc zero) Sr word h = refl
destination_word (suc zero) register word h = refl
destination_word (suc (suc mode)) register word h = absurd (omega arith)

-- what is no constant can be written back
pub made_writable : (mode : ℕ) (register : Register) (word : ℕ) → mode < 4 →
    is_constant_operand mode (number register) ≡ false → IsWritable (source_of mode register word)
made_writable zero R3 word h other = absurd (cc)
made_writable zero register word h other = tt
made_writable (suc zero) R3 word h other = absurd (cc)
made_writable (suc zero) register word h other = tt
made_writable (suc (suc zero)) Sr word h other = absurd (cc)
made_writable (suc (suc zero)) R3 word h other = absurd (cc)
made_writable (suc (suc zero)) register word h other = tt
made_writable (suc (suc (suc zero))) Pc word h other = absurd (cc)
made_writable (suc (suc (suc zero))) Sr word h other = absurd (cc)
made_writable (suc (suc (suc zero))) R3 word h other = absurd (cc)
made_writable (suc (suc (suc zero))) register word h other = tt
made_writable (suc (suc (suc (suc mode)))) register word h other = absurd (omega arith)
