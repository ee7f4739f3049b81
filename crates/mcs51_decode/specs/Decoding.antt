-- The decoder's answer at an address as a function: the opcode, and the bytes behind it that its row needs.
use Rattle.std.specs.Prelude.{ℕ, ◌≡◌, ◌+◌, ◌%◌, ◌==◌, nat_lt, if◌then◌else◌, Bool, true, false, Option, None, Some, Result, Ok, Err, List, [], ◌∷◌}
use Rattle.mcs51_decode.specs.declared.instr.Instr.{Instr}
use Rattle.mcs51_decode.specs.declared.refusal.NoInstr.{NoInstr}
use Rattle.mcs51_decode.specs.declared.refusal.NoInstr.TheVariants.{OffImage, Excluded}
use Rattle.mcs51_decode.specs.Table.{row_at, length_at, is_excluded}
use Rattle.mcs51_decode.specs.Standing.{upward, Decodes}

-- a byte, or the address at which it is missing
abbrev pub byte_or_gap : ℕ → Option ℕ → Result ℕ NoInstr
byte_or_gap at None = Err (OffImage at)
byte_or_gap at (Some byte) = Ok byte

-- the i-th byte upward
abbrev pub byte_upward : List (Option ℕ) → ℕ → ℕ → Result ℕ NoInstr
byte_upward image pc i = byte_or_gap ((pc + i) % 65536) (upward image pc i)

-- the same where the byte is needed, and else 0
abbrev pub operand_upward : List (Option ℕ) → ℕ → ℕ → Bool → Result ℕ NoInstr
operand_upward image pc i true = byte_upward image pc i
operand_upward image pc i false = Ok 0

-- what is made of a byte, where there is one
abbrev pub with_byte : {T : Type 0} → Result ℕ NoInstr → (ℕ → Result T NoInstr) → Result T NoInstr
with_byte (Ok byte) made = made byte
with_byte (Err refusal) made = Err refusal

-- the answer for an opcode that isn't excluded; how long an instruction is, is told by its opcode alone
abbrev pub decoded_behind : List (Option ℕ) → ℕ → ℕ → ℕ → Result (Instr × ℕ) NoInstr
decoded_behind image pc opcode len =
    with_byte (operand_upward image pc 1 (nat_lt 1 len)) (λ x.
    with_byte (operand_upward image pc 2 (nat_lt 2 len)) (λ y.
    Ok ((row_at opcode x y).1, len)))

-- the answer for an opcode
abbrev pub decoded_opcode : List (Option ℕ) → ℕ → ℕ → Result (Instr × ℕ) NoInstr
decoded_opcode image pc opcode =
    if is_excluded opcode then Err Excluded else decoded_behind image pc opcode (length_at opcode)

-- the answer at an address
unfoldable pub decoded : List (Option ℕ) → ℕ → Result (Instr × ℕ) NoInstr
decoded image pc = with_byte (byte_upward image pc 0) (decoded_opcode image pc)

-- an answer of the table, which is the decoder's
abbrev pub IsAnswer : List (Option ℕ) → ℕ → Result (Instr × ℕ) NoInstr → Type 0
IsAnswer image pc answer = Decodes image pc answer × (decoded image pc ≡ answer)

-- the instruction of a row, where it has this length
abbrev pub instr_of_row : ℕ → ℕ × Instr → Option Instr
instr_of_row len row = if row.0 == len then Some row.1 else None

-- the instruction of an opcode and two bytes behind it, where it has this length
abbrev pub instr_of_opcode : ℕ → ℕ → ℕ → ℕ → Option Instr
instr_of_opcode len opcode x y = if is_excluded opcode then None else instr_of_row len (row_at opcode x y)

-- the instruction whose bytes these are, all of them
unfoldable pub instr_of_bytes : List ℕ → Option Instr
instr_of_bytes (a ∷ []) = instr_of_opcode 1 a 0 0
instr_of_bytes (a ∷ x ∷ []) = instr_of_opcode 2 a x 0
instr_of_bytes (a ∷ x ∷ y ∷ []) = instr_of_opcode 3 a x y
instr_of_bytes bytes = None
