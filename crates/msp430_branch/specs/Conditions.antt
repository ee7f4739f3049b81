-- The conditions of jumps, by what is known of SR (SLAU049, chapter 3, "Jumps": JNE, JEQ, JNC, JC, JN, JGE, JL and JMP).
use Rattle.std.specs.Prelude.{ℕ, Bool, not, List, slice_set}
use Rattle.std.specs.List.{slice_index_or}
use Rattle.value_bits.specs.declared.tri.Tri.{Tri}
use Rattle.value_bits.specs.declared.tri.Tri.TheVariants.{Zero, One, Either}
use Rattle.value_bits.specs.Bits.{known_flag, tri_not, tri_xor}
use Rattle.msp430_decode.specs.declared.instr.Condition.{Condition}
use Rattle.msp430_decode.specs.declared.instr.Condition.TheVariants.{NotEqual, Equal, NoCarry, Carry, Negative, GreaterOrEqual, Less, Always}

-- C, Z, N and V are the bits 0, 1, 2 and 8
abbrev pub bit_of : List Tri → (place : ℕ) → Tri
bit_of bits place = slice_index_or bits place Either

-- N and V differ where the lesser of two signed numbers was compared
abbrev pub less_by : List Tri → Tri
less_by bits = tri_xor (bit_of bits 2) (bit_of bits 8)

-- whether a jump is taken, where the bits say so
abbrev pub taken_by : Condition → List Tri → Tri
taken_by NotEqual bits = tri_not (bit_of bits 1)
taken_by Equal bits = bit_of bits 1
taken_by NoCarry bits = tri_not (bit_of bits 0)
taken_by Carry bits = bit_of bits 0
taken_by Negative bits = bit_of bits 2
taken_by GreaterOrEqual bits = tri_not (less_by bits)
taken_by Less bits = less_by bits
taken_by Always bits = One

-- a bit that isn't known, by another source
abbrev pub known_or : Tri → Tri → Tri
known_or Zero other = Zero
known_or One other = One
known_or Either other = other

-- where it is known whether N and V differ, each of them shows the other
abbrev pub with_less : List Tri → (less : Tri) → List Tri
with_less bits less =
    slice_set (slice_set bits 2 (known_or (bit_of bits 2) (tri_xor (bit_of bits 8) less))) 8 (known_or (bit_of bits 8) (tri_xor (bit_of bits 2) less))

-- the bits where a jump is taken, or isn't: the flag that it tests is known
abbrev pub bits_where : Condition → (taken : Bool) → List Tri → List Tri
bits_where NotEqual taken bits = slice_set bits 1 (known_flag (not taken))
bits_where Equal taken bits = slice_set bits 1 (known_flag taken)
bits_where NoCarry taken bits = slice_set bits 0 (known_flag (not taken))
bits_where Carry taken bits = slice_set bits 0 (known_flag taken)
bits_where Negative taken bits = slice_set bits 2 (known_flag taken)
bits_where GreaterOrEqual taken bits = with_less bits (known_flag (not taken))
bits_where Less taken bits = with_less bits (known_flag taken)
bits_where Always taken bits = bits
