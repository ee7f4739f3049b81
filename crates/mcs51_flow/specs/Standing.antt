-- The instructions of the MCS-51 that stand in an image, and their texts.
use Rattle.std.specs.Prelude.{ℕ, Option, None, Some, List, []}
use Rattle.chip_flow.specs.Standing.{found_by}
use Rattle.mcs51_decode.specs.declared.instr.Instr.{Instr}
use Rattle.mcs51_decode.specs.Decoding.{decoded, instr_of_bytes}
use Rattle.mcs51_text.specs.Text.{text_of}

-- WHAT STANDS AT AN ADDRESS

unfoldable pub fetched : List (Option ℕ) → ℕ → Option Instr
fetched image pc = found_by (decoded image pc)

-- TEXTS

abbrev pub text_where : ℕ → Option Instr → List ℕ
text_where pc None = []
text_where pc (Some instr) = text_of pc instr

-- the text of the instruction of these bytes at an address
abbrev pub instr_text : ℕ → List ℕ → List ℕ
instr_text pc bytes = text_where pc (instr_of_bytes bytes)
