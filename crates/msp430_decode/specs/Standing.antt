-- What an image has at an address: an instruction, a gap where a byte of one is needed, or no instruction's first word.
use Rattle.std.specs.Prelude.{ℕ, ◌≡◌, ◌<◌, ◌+◌, ◌%◌, ◌⊎◌, suc, Option, None, Some, Result, Ok, Err, List, [], ◌∷◌, ◌++◌, length}
use Rattle.image.specs.Image.{byte_at}
use Rattle.msp430_decode.specs.declared.instr.Instr.{Instr}
use Rattle.msp430_decode.specs.declared.refusal.NoInstr.{NoInstr}
use Rattle.msp430_decode.specs.declared.refusal.NoInstr.TheVariants.{OffImage, Excluded}
use Rattle.msp430_decode.specs.Table.{Row}

-- the i-th byte upward from an address; addresses wrap at 16 bits
abbrev pub upward : List (Option ℕ) → ℕ → ℕ → Option ℕ
upward image pc i = byte_at image ((pc + i) % 65536)

-- these bytes are there, from the i-th on
abbrev pub AreThere : (ℕ → Option ℕ) → ℕ → List ℕ → Type 0
AreThere there i [] = Unit {0}
AreThere there i (byte ∷ bytes) = (there i ≡ Some byte) × AreThere there (suc i) bytes

-- an instruction's bytes are there
abbrev pub Stands : List (Option ℕ) → ℕ → Instr → ℕ → Type 0
Stands image pc instr len = (bytes : List ℕ) × Row bytes instr × (length bytes ≡ len) × AreThere (upward image pc) 0 bytes

-- more bytes are needed behind these: the first word's two, and then all of an instruction that begins so
abbrev pub IsShort : List ℕ → Type 0
IsShort front = (length front < 2) ⊎ ((more : List ℕ) × (instr : Instr) × (0 < length more) × Row (front ++ more) instr)

-- the bytes in front are there, and the next one, which is needed, isn't
abbrev pub Lacks : List (Option ℕ) → ℕ → ℕ → Type 0
Lacks image pc at =
    (front : List ℕ) × AreThere (upward image pc) 0 front × IsShort front
    × (upward image pc (length front) ≡ None) × (at ≡ (pc + length front) % 65536)

-- a first word that no instruction begins with is there
abbrev pub IsExcluded : List (Option ℕ) → ℕ → Type 0
IsExcluded image pc =
    (low : ℕ) × (high : ℕ) × AreThere (upward image pc) 0 (low ∷ high ∷ [])
    × ((more : List ℕ) (instr : Instr) → ¬ Row (low ∷ high ∷ more) instr)

-- the answer at an address: the instruction and its length, the first byte that is lacking, or that the word is excluded
abbrev pub Decodes : List (Option ℕ) → ℕ → Result (Instr × ℕ) NoInstr → Type 0
Decodes image pc (Ok (instr, len)) = Stands image pc instr len
Decodes image pc (Err (OffImage at)) = Lacks image pc at
Decodes image pc (Err Excluded) = IsExcluded image pc
