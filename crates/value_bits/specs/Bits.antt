-- What is known of the bits of the numbers of a set, and the set of the numbers that have such bits.
use Rattle.std.specs.Prelude.{◌≡◌, ℕ, ◌+◌, ◌-◌, ◌*◌, ◌/◌, ◌%◌, ◌^◌, ◌<◌, ◌==◌, ◌||◌, ◌&&◌, nat_lt, nat_le, if◌then◌else◌, Bool, true, false, not, List, [], ◌∷◌, map, bit_and, bit_or, bit_xor}
use Rattle.std.specs.List.{range_with_len, list_all, flat_map, count_by, position_or_len}
use Rattle.std.specs.Int.{bit_at}
use Rattle.value_set.specs.Form.{make, gather}
use Rattle.value_set.specs.Widening.{last_of}
use Rattle.value_set.specs.declared.form.Progression.{Progression}
use Rattle.value_set.specs.declared.form.Form.{Form}
use Rattle.value_set.specs.declared.form.Form.TheVariants.{Values, Run}
use Rattle.value_bits.specs.declared.tri.Tri.{Tri}
use Rattle.value_bits.specs.declared.tri.Tri.TheVariants.{Zero, One, Either}
use Rattle.value_bits.specs.declared.tri.Logic.{Logic}
use Rattle.value_bits.specs.declared.tri.Logic.TheVariants.{And, Or, Xor}

-- a bit as it is known
abbrev pub IsBit : Tri → ℕ → Type 0
IsBit Zero bit = bit ≡ 0
IsBit One bit = bit ≡ 1
IsBit Either bit = bit < 2

-- a number with these bits, the lowest one first, and no others
abbrev pub Agrees : List Tri → ℕ → Type 0
Agrees [] v = v ≡ 0
Agrees (b ∷ bs) v = IsBit b (v % 2) × Agrees bs (v / 2)

abbrev pub tri : ℕ → Tri
tri bit = if bit == 1 then One else Zero

-- a flag that is known
abbrev pub known_flag : Bool → Tri
known_flag flag = if flag then One else Zero

-- what is known of a flag doesn't forbid it
abbrev pub may_be : Tri → Bool → Bool
may_be Zero flag = not flag
may_be One flag = flag
may_be Either flag = true

-- ---- the bits of a set

-- The numbers of a run have the bit of its base below the lowest one bit of its stride. Where the run doesn't go round
-- they have it also above the highest bit in which its first and its last number differ.
abbrev pub is_fixed : (width place : ℕ) → Progression → Bool
is_fixed width place p =
    (p.stride % 2 ^ (place + 1) == 0) || (nat_lt (last_of p) (2 ^ width) && (p.base / 2 ^ place == last_of p / 2 ^ place))

-- the bit at a place: that of a list is known where all its numbers agree
unfoldable pub known_bit : (width place : ℕ) → Form → Tri
known_bit width place (Values xs) =
    if list_all (λ v. bit_at v place == 1) xs then One
    else if list_all (λ v. bit_at v place == 0) xs then Zero
    else Either
known_bit width place (Run p) = if is_fixed width place p then tri (bit_at p.base place) else Either

-- the bits of a set of numbers of a width, the lowest one first
abbrev pub known_bits : (width : ℕ) → Form → List Tri
known_bits width set = map (λ place. known_bit width place set) (range_with_len 0 width)

-- ---- the set of some bits

-- what an unknown bit may be
abbrev pub choices : Tri → List ℕ
choices Zero = 0 ∷ []
choices One = 1 ∷ []
choices Either = 0 ∷ 1 ∷ []

-- all numbers with these bits
unfoldable pub numbers : List Tri → List ℕ
numbers [] = 0 ∷ []
numbers (b ∷ bs) = flat_map (λ v. map (λ bit. 2 * v + bit) (choices b)) (numbers bs)

-- a bit, with one that is unknown read as a given one
abbrev pub filled_bit : ℕ → Tri → ℕ
filled_bit given Zero = 0
filled_bit given One = 1
filled_bit given Either = given

-- the number with these bits, each unknown one read as a given one
unfoldable pub filled : ℕ → List Tri → ℕ
filled given [] = 0
filled given (b ∷ bs) = filled_bit given b + 2 * filled given bs

-- the least and the greatest number with these bits
abbrev pub least : List Tri → ℕ
least bits = filled 0 bits

abbrev pub greatest : List Tri → ℕ
greatest bits = filled 1 bits

abbrev pub is_unknown : Tri → Bool
is_unknown Zero = false
is_unknown One = false
is_unknown Either = true

-- how many bits are unknown
abbrev pub unknown_count : List Tri → ℕ
unknown_count bits = count_by is_unknown bits

-- the place of the lowest unknown bit
abbrev pub lowest_unknown : List Tri → ℕ
lowest_unknown bits = position_or_len is_unknown bits

-- All numbers with some bits, where at most 4 are unknown. Else a run from the least to the greatest one, in steps of
-- the lowest unknown bit.
unfoldable pub from_bits : (width : ℕ) → List Tri → Form
from_bits width bits =
    if nat_le (unknown_count bits) 4 then gather (2 ^ width) (numbers bits)
    else make (2 ^ width) (least bits) (2 ^ lowest_unknown bits) ((greatest bits - least bits) / 2 ^ lowest_unknown bits + 1)

-- ---- logic

-- an operation on two numbers, bit by bit
abbrev pub logic_of : Logic → ℕ → ℕ → ℕ
logic_of And x y = bit_and x y
logic_of Or x y = bit_or x y
logic_of Xor x y = bit_xor x y

abbrev pub tri_not : Tri → Tri
tri_not Zero = One
tri_not One = Zero
tri_not Either = Either

-- a 0 decides it
abbrev pub tri_and : Tri → Tri → Tri
tri_and Zero b = Zero
tri_and One b = b
tri_and Either Zero = Zero
tri_and Either One = Either
tri_and Either Either = Either

-- a 1 decides it
abbrev pub tri_or : Tri → Tri → Tri
tri_or Zero b = b
tri_or One b = One
tri_or Either Zero = Either
tri_or Either One = One
tri_or Either Either = Either

-- both must be known
abbrev pub tri_xor : Tri → Tri → Tri
tri_xor Zero b = b
tri_xor One b = tri_not b
tri_xor Either b = Either

-- the result's bit, where what is known of both bits decides it
abbrev pub tri_logic : Logic → Tri → Tri → Tri
tri_logic And a b = tri_and a b
tri_logic Or a b = tri_or a b
tri_logic Xor a b = tri_xor a b
