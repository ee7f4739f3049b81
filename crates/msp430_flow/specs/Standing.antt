-- The instructions of the MSP430 that stand in an image, and their texts.
use Rattle.std.specs.Prelude.{ℕ, ◌%◌, ◌==◌, if◌then◌else◌, Option, None, Some, List, []}
use Rattle.chip_flow.specs.Standing.{found_by}
use Rattle.msp430_decode.specs.declared.instr.Instr.{Instr}
use Rattle.msp430_decode.specs.Decoding.{decoded, instr_of_bytes}
use Rattle.msp430_text.specs.Text.{text_of}

-- WHAT STANDS AT AN ADDRESS

-- instructions stand at even addresses
unfoldable pub fetched : List (Option ℕ) → ℕ → Option Instr
fetched image pc = if pc % 2 == 0 then found_by (decoded image pc) else None

-- TEXTS

abbrev pub text_where : ℕ → Option Instr → List ℕ
text_where pc None = []
text_where pc (Some instr) = text_of pc instr

-- the text of the instruction of these bytes at an address
abbrev pub instr_text : ℕ → List ℕ → List ℕ
instr_text pc bytes = text_where pc (instr_of_bytes bytes)
