-- What an image has at an address: an instruction, a gap where a byte of one is needed, or the excluded opcode.
use Rattle.std.specs.Prelude.{ℕ, ◌≡◌, ◌<◌, ◌+◌, ◌%◌, suc, Option, None, Some, Result, Ok, Err, List, [], ◌∷◌, length, false}
use Rattle.image.specs.Image.{byte_at}
use Rattle.mcs51_decode.specs.declared.instr.Instr.{Instr}
use Rattle.mcs51_decode.specs.declared.refusal.NoInstr.{NoInstr}
use Rattle.mcs51_decode.specs.declared.refusal.NoInstr.TheVariants.{OffImage, Excluded}
use Rattle.mcs51_decode.specs.Table.{Row, length_at, is_excluded}

-- the i-th byte upward from an address; addresses wrap at 16 bits
abbrev pub upward : List (Option ℕ) → ℕ → ℕ → Option ℕ
upward image pc i = byte_at image ((pc + i) % 65536)

-- these bytes are there, from the i-th on
abbrev pub AreThere : (ℕ → Option ℕ) → ℕ → List ℕ → Type 0
AreThere there i [] = Unit {0}
AreThere there i (byte ∷ bytes) = (there i ≡ Some byte) × AreThere there (suc i) bytes

-- an instruction's bytes are there
abbrev pub Stands : List (Option ℕ) → ℕ → Instr → ℕ → Type 0
Stands image pc instr len = (bytes : List ℕ) × Row bytes instr × (length bytes ≡ len) × AreThere (upward image pc) 0 bytes

-- more bytes are needed behind these: the opcode, and then all of an instruction that begins so
abbrev pub IsShort : List ℕ → Type 0
IsShort [] = Unit {0}
IsShort (opcode ∷ operands) = (is_excluded opcode ≡ false) × (suc (length operands) < length_at opcode)

-- the bytes in front are there, and the next one, which is needed, isn't
abbrev pub Lacks : List (Option ℕ) → ℕ → ℕ → Type 0
Lacks image pc at =
    (front : List ℕ) × AreThere (upward image pc) 0 front × IsShort front
    × (upward image pc (length front) ≡ None) × (at ≡ (pc + length front) % 65536)

-- the opcode that is no instruction's is there
abbrev pub HasExcluded : List (Option ℕ) → ℕ → Type 0
HasExcluded image pc = upward image pc 0 ≡ Some 0xA5

-- the answer at an address: the instruction and its length, the first byte that is lacking, or that the opcode is excluded
abbrev pub Decodes : List (Option ℕ) → ℕ → Result (Instr × ℕ) NoInstr → Type 0
Decodes image pc (Ok (instr, len)) = Stands image pc instr len
Decodes image pc (Err (OffImage at)) = Lacks image pc at
Decodes image pc (Err Excluded) = HasExcluded image pc
