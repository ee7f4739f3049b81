-- The decoder's answer at an address as a function: the first word, whether an instruction begins with it, and the
-- extension words that it takes.
use Rattle.std.specs.Prelude.{ℕ, ◌≡◌, ◌+◌, ◌*◌, ◌%◌, ◌==◌, suc, nat_lt, if◌then◌else◌, Bool, true, false, Option, None, Some, Result, Ok, Err, List, [], ◌∷◌}
use Rattle.msp430_decode.specs.declared.instr.Instr.{Instr}
use Rattle.msp430_decode.specs.declared.refusal.NoInstr.{NoInstr}
use Rattle.msp430_decode.specs.declared.refusal.NoInstr.TheVariants.{OffImage, Excluded}
use Rattle.msp430_decode.specs.Table.{length_of}
use Rattle.msp430_decode.specs.Excluded.{is_excluded}
use Rattle.msp430_decode.specs.Fields.{instr_of}
use Rattle.msp430_decode.specs.Standing.{upward, Decodes}

-- the word of two bytes, or the address of the first of them that is missing
abbrev pub word_of_places : ℕ → ℕ → Option ℕ → Option ℕ → Result ℕ NoInstr
word_of_places at next None high = Err (OffImage at)
word_of_places at next (Some low) None = Err (OffImage next)
word_of_places at next (Some low) (Some high) = Ok (low + 256 * high)

-- the word from the i-th byte upward on
abbrev pub word_upward : List (Option ℕ) → ℕ → ℕ → Result ℕ NoInstr
word_upward image pc i =
    word_of_places ((pc + i) % 65536) ((pc + suc i) % 65536) (upward image pc i) (upward image pc (suc i))

-- the same where the word is needed, and else 0
abbrev pub extension_upward : List (Option ℕ) → ℕ → ℕ → Bool → Result ℕ NoInstr
extension_upward image pc i true = word_upward image pc i
extension_upward image pc i false = Ok 0

-- what is made of a word, where there is one
abbrev pub with_word : {T : Type 0} → Result ℕ NoInstr → (ℕ → Result T NoInstr) → Result T NoInstr
with_word (Ok word) made = made word
with_word (Err refusal) made = Err refusal

-- the answer for a first word that isn't excluded, and the length of the instructions that begin with it
abbrev pub decoded_behind : List (Option ℕ) → ℕ → ℕ → ℕ → Result (Instr × ℕ) NoInstr
decoded_behind image pc word len =
    with_word (extension_upward image pc 2 (nat_lt 2 len)) (λ first.
    with_word (extension_upward image pc 4 (nat_lt 4 len)) (λ second.
    Ok (instr_of word first second, len)))

-- the answer for a first word; how long an instruction is, is told by its first word alone
abbrev pub decoded_word : List (Option ℕ) → ℕ → ℕ → Result (Instr × ℕ) NoInstr
decoded_word image pc word =
    if is_excluded word then Err Excluded else decoded_behind image pc word (length_of (instr_of word 0 0))

-- the answer at an address
unfoldable pub decoded : List (Option ℕ) → ℕ → Result (Instr × ℕ) NoInstr
decoded image pc = with_word (word_upward image pc 0) (decoded_word image pc)

-- an answer of the table, which is the decoder's
abbrev pub IsAnswer : List (Option ℕ) → ℕ → Result (Instr × ℕ) NoInstr → Type 0
IsAnswer image pc answer = Decodes image pc answer × (decoded image pc ≡ answer)

-- the instruction of a first word and two further ones, where it has this length
abbrev pub instr_of_words : ℕ → ℕ → ℕ → ℕ → Option Instr
instr_of_words len word first second =
    if is_excluded word then None
    else if length_of (instr_of word first second) == len then Some (instr_of word first second)
    else None

-- the instruction whose bytes these are, all of them
unfoldable pub instr_of_bytes : List ℕ → Option Instr
instr_of_bytes (a ∷ b ∷ []) = instr_of_words 2 (a + 256 * b) 0 0
instr_of_bytes (a ∷ b ∷ c ∷ d ∷ []) = instr_of_words 4 (a + 256 * b) (c + 256 * d) 0
instr_of_bytes (a ∷ b ∷ c ∷ d ∷ e ∷ f ∷ []) = instr_of_words 6 (a + 256 * b) (c + 256 * d) (e + 256 * f)
instr_of_bytes bytes = None
