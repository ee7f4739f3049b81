-- The disassembly of an image: a line for each instruction, and for each unit that is none.
use Rattle.std.specs.Prelude.{ℕ, zero, suc, ◌≡◌, ◌<◌, ◌≤◌, ◌⊎◌, ◌+◌, ◌/◌, ◌==◌, if◌then◌else◌, Option, None, Some, List, [], ◌∷◌, ◌++◌, codes, length}
use Rattle.hex_digits.specs.Digits.{hex, hex_bytes}
use Rattle.image.specs.Image.{byte_at}
use Rattle.disassembly.specs.declared.code.Line.{Line}

-- the bytes and the text of an instruction
abbrev pub Found : Type 0
Found = Option (List ℕ × List ℕ)

abbrev pub shown : Option Line → Found
shown None = None
shown (Some line) = Some (line.bytes.items, line.text.bytes)

-- what stands at an address of an image
abbrev pub Reads : Type 1
Reads = List (Option ℕ) → ℕ → Found → Type 0

-- an address, the bytes from there on, and what they are, with a line feed
abbrev pub disassembly_line : ℕ → List ℕ → List ℕ → List ℕ
disassembly_line at bytes text = hex 4 at ++ codes " " ++ hex_bytes bytes ++ codes " " ++ text ++ codes "\n"

-- A unit that is no instruction: both bytes of a word, or the one that is there with its own address, or nothing where none
-- is.
abbrev pub unknown_lines : ℕ → Option ℕ → Option ℕ → List ℕ
unknown_lines at (Some low) (Some high) = disassembly_line at (low ∷ high ∷ []) (codes "?")
unknown_lines at (Some low) None = disassembly_line at (low ∷ []) (codes "?")
unknown_lines at None (Some high) = disassembly_line (at + 1) (high ∷ []) (codes "?")
unknown_lines at None None = []

-- the second byte of a unit, if it has one
abbrev pub second_at : (unit : ℕ) → List (Option ℕ) → ℕ → Option ℕ
second_at unit image at = if unit == 2 then byte_at image (at + 1) else None

-- what is told of a unit, by what stands at its address
abbrev pub lines_at : (unit : ℕ) → List (Option ℕ) → ℕ → Found → List ℕ
lines_at unit image at (Some (bytes, text)) = disassembly_line at bytes text
lines_at unit image at None = unknown_lines at (byte_at image at) (second_at unit image at)

-- The address up to which that passes: an instruction's bytes, or the unit. An instruction whose bytes go on at 0000h after
-- FFFFh passes to the end: the addresses from 0000h on were told at the start.
abbrev pub passed_at : (unit at : ℕ) → Found → ℕ
passed_at unit at (Some (bytes, text)) = at + length bytes
passed_at unit at None = at + unit

-- The text of so many units, upward from the one at an address, where all below `passed` was told. A unit below that is
-- passed over, and of another one it is told what stands there.
unfoldable pub IsWalk : (unit : ℕ) → Reads → List (Option ℕ) → (units at passed : ℕ) → List ℕ → Type 0
IsWalk unit reads image zero at passed text = text ≡ []
IsWalk unit reads image (suc units) at passed text =
    ((at < passed) × IsWalk unit reads image units (at + unit) passed text)
    ⊎ ((passed ≤ at) × ((found : Found) × (rest : List ℕ) × reads image at found
    × (text ≡ lines_at unit image at found ++ rest) × IsWalk unit reads image units (at + unit) (passed_at unit at found) rest))

-- the text of an image: that of its units from 0000h to FFFFh
unfoldable pub IsDisassembly : (unit : ℕ) → Reads → List (Option ℕ) → List ℕ → Type 0
IsDisassembly unit reads image text = IsWalk unit reads image (65536 / unit) 0 0 text
