-- The words that a decoder reads, one after the other.
use Rattle.std.specs.Prelude.{ℕ, ◌≡◌, ◌<◌, ◌+◌, ◌/◌, ◌%◌, ◌⊎◌, suc, Option, None, Some, List}
use Rattle.msp430_decode.specs.declared.refusal.NoInstr.{NoInstr}
use Rattle.msp430_decode.specs.declared.refusal.NoInstr.TheVariants.{OffImage, Excluded}
use Rattle.msp430_decode.specs.Standing.{upward}

-- both bytes of a word are there, from the i-th on
abbrev pub HasWord : List (Option ℕ) → ℕ → ℕ → ℕ → Type 0
HasWord image pc i word = (upward image pc i ≡ Some (word % 256)) × (upward image pc (suc i) ≡ Some (word / 256))

-- the low byte of a word is missing, or it is there and the high one is missing
abbrev pub Misses : List (Option ℕ) → ℕ → ℕ → NoInstr → Type 0
Misses image pc i (OffImage at) =
    ((upward image pc i ≡ None) × (at ≡ (pc + i) % 65536))
    ⊎ ((low : ℕ) × (low < 256) × (upward image pc i ≡ Some low) × (upward image pc (suc i) ≡ None) × (at ≡ (pc + suc i) % 65536))
Misses image pc i Excluded = ⊥
