-- What holds of the decoder's answer. Proofs above take these laws from one record.
use Rattle.std.specs.Prelude.{◌≡◌, ℕ, All, List, Option, Result, Ok, length}
use Rattle.image.specs.Image.{IsByte}
use Rattle.mcs51_decode.specs.declared.instr.Instr.{Instr}
use Rattle.mcs51_decode.specs.declared.refusal.NoInstr.{NoInstr}
use Rattle.mcs51_decode.specs.Decoding.{decoded}
use Rattle.mcs51_decode.specs.Encoding.{bytes_of, length_of}
use Rattle.mcs51_decode.specs.Standing.{AreThere, Decodes, upward}
use Rattle.mcs51_decode.specs.Table.{Row}

-- The decoder's answer as a function is the answer at each address, and no other is: an instruction of the table with
-- its length and its bytes, or a refusal.
pub record DecodingLaws : Type 0 where
  pub answer : (image : List (Option ℕ)) (pc : ℕ) → length image ≡ 65536 → All IsByte image
      → Decodes image pc (decoded image pc)
  pub one : (image : List (Option ℕ)) (pc : ℕ) (answer : Result (Instr × ℕ) NoInstr) → length image ≡ 65536
      → All IsByte image → Decodes image pc answer → answer ≡ decoded image pc
  pub instruction : (image : List (Option ℕ)) (pc len : ℕ) (instr : Instr) → length image ≡ 65536 → All IsByte image
      → decoded image pc ≡ Ok (instr, len)
      → Row (bytes_of instr) instr × (len ≡ length_of instr) × AreThere (upward image pc) 0 (bytes_of instr)
