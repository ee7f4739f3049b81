-- What holds of all bytes and images. Proofs above take these laws from records.
use Rattle.std.specs.Prelude.{ℕ, ◌≡◌, ◌<◌, ◌++◌, All, List, Ok, Option, Result, Some, length}
use Rattle.image.specs.Image.{IsByte}
use Rattle.msp430_decode.specs.declared.instr.Instr.{Instr}
use Rattle.msp430_decode.specs.declared.refusal.NoInstr.{NoInstr}
use Rattle.msp430_decode.specs.Table.{IsInstr, Row, bytes_of, length_of}
use Rattle.msp430_decode.specs.Decoding.{decoded, instr_of_bytes}
use Rattle.msp430_decode.specs.Standing.{AreThere, Decodes, upward}

-- bytes are at most one instruction, and none goes on behind another
pub record OneInstruction : Type 0 where
  pub same : (bytes : List ℕ) (instr other : Instr) → Row bytes instr → Row bytes other → instr ≡ other
  pub whole : (bytes more : List ℕ) (instr other : Instr) → Row bytes instr → Row (bytes ++ more) other → length more ≡ 0
  pub length : (bytes : List ℕ) (instr : Instr) → Row bytes instr → length bytes ≡ length_of instr

-- the instruction of some bytes is the one whose row they are
pub record BytesOfOneInstruction : Type 0 where
  pub row : (bytes : List ℕ) (instr : Instr) → All (λ byte. byte < 256) bytes → instr_of_bytes bytes ≡ Some instr → Row bytes instr
  pub every : (bytes : List ℕ) (instr : Instr) → Row bytes instr → instr_of_bytes bytes ≡ Some instr
  pub again : (instr : Instr) → IsInstr instr → instr_of_bytes (bytes_of instr) ≡ Some instr

-- the decoder's answer as a function is the answer at each address, and no other is: an instruction of the table with its
-- length and its bytes, or a refusal
pub record DecodingLaws : Type 0 where
  pub answer : (image : List (Option ℕ)) (pc : ℕ) → length image ≡ 65536 → All IsByte image
      → Decodes image pc (decoded image pc)
  pub one : (image : List (Option ℕ)) (pc : ℕ) (answer : Result (Instr × ℕ) NoInstr) → length image ≡ 65536
      → All IsByte image → Decodes image pc answer → answer ≡ decoded image pc
  pub instruction : (image : List (Option ℕ)) (pc len : ℕ) (instr : Instr) → length image ≡ 65536 → All IsByte image
      → decoded image pc ≡ Ok (instr, len)
      → IsInstr instr × (len ≡ length_of instr) × AreThere (upward image pc) 0 (bytes_of instr)
