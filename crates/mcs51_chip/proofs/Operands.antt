-- The operands of an instruction of the table fit their places.
use Rattle.std.proofs.Common.{ℕ, ◌/◌, ◌%◌, ◌<◌, [], ◌∷◌, ◌++◌, arith}
use Rattle.std.specs.Prelude.{All}
use Rattle.std.proofs.lemmas.List.Elements.{All-head, All-tail}
use Rattle.mcs51_decode.specs.declared.instr.Memory.TheVariants.{Direct, Working as InWorking}
use Rattle.mcs51_decode.specs.declared.instr.Source.TheVariants as source
use Rattle.mcs51_decode.specs.declared.instr.Place.{Place}
use Rattle.mcs51_decode.specs.declared.instr.Place.TheVariants.{Accumulator, Memory as InMemory}
use Rattle.mcs51_decode.specs.declared.instr.Mask.TheVariants as mask
use Rattle.mcs51_decode.specs.declared.instr.Instr.{Instr}
use Rattle.mcs51_decode.specs.declared.instr.Instr.TheVariants.{LongJump, LongCall, Accumulate, DirectLogic, MoveImmediate, LoadDataPointer}
use Rattle.mcs51_decode.specs.Encoding.{place_operands, word_bytes, opcode_of, operand_bytes, bytes_of}
use Rattle.mcs51_decode.specs.Table.{Row}

-- immediate bytes are bytes, and words are words
abbrev pub AreFitting : Instr → Type 0
AreFitting (LongJump target) = target < 65536
AreFitting (LongCall target) = target < 65536
AreFitting (Accumulate operation (source.Immediate value)) = value < 256
AreFitting (DirectLogic operation direct (mask.Immediate value)) = value < 256
AreFitting (MoveImmediate place value) = value < 256
AreFitting (LoadDataPointer value) = value < 65536
AreFitting other = Unit {0}

word_fits : (word : ℕ) → All (λ b. b < 256) (word_bytes word) → word < 65536
word_fits word are = omega (arith, All-head (λ b. b < 256) (word / 256) (word % 256 ∷ []) are)

second_fits : (first value : ℕ) → All (λ b. b < 256) (first ∷ value ∷ []) → value < 256
second_fits first value are = All-head (λ b. b < 256) value [] (All-tail (λ b. b < 256) first (value ∷ []) are)

last_fits : (place : Place) (value : ℕ) → All (λ b. b < 256) (place_operands place ++ value ∷ []) → value < 256
last_fits Accumulator value are = All-head (λ b. b < 256) value [] are
last_fits (InMemory (Direct direct)) value are = second_fits direct value are
last_fits (InMemory (InWorking w)) value are = All-head (λ b. b < 256) value [] are

bytes_fit : (instr : Instr) → All (λ b. b < 256) (operand_bytes instr) → AreFitting instr
bytes_fit (LongJump target) are = word_fits target are
bytes_fit (LongCall target) are = word_fits target are
bytes_fit (Accumulate operation (source.Immediate value)) are = All-head (λ b. b < 256) value [] are
bytes_fit (DirectLogic operation direct (mask.Immediate value)) are = second_fits direct value are
bytes_fit (MoveImmediate place value) are = last_fits place value are
bytes_fit (LoadDataPointer value) are = word_fits value are
bytes_fit other are = tt

pub operands_fit : (instr : Instr) → Row (bytes_of instr) instr → AreFitting instr
operands_fit instr row = bytes_fit instr (All-tail (λ b. b < 256) (opcode_of instr) (operand_bytes instr) row.are_bytes)
