-- The sets of the results of bitwise and decimal operations on the members of sets.
use Rattle.std.specs.Prelude.{◌≡◌, ℕ, ◌+◌, ◌*◌, ◌%◌, ◌^◌, ◌&&◌, nat_le, if◌then◌else◌, Bool, List, [], ◌∷◌, ◌++◌, map, take, drop, replicate, slice_index_or}
use Rattle.std.specs.List.{range_with_len, list_all, flat_map}
use Rattle.std.specs.Int.{bit_at}
use Rattle.value_set.specs.Form.{make, members, gather}
use Rattle.value_set.specs.Summing.{single, combine, count_of}
use Rattle.value_set.specs.declared.form.Form.{Form}
use Rattle.value_set.specs.declared.form.Form.TheVariants.{Values}
use Rattle.value_bits.specs.declared.tri.Tri.{Tri}
use Rattle.value_bits.specs.declared.tri.Tri.TheVariants.{Zero, One, Either}
use Rattle.value_bits.specs.declared.tri.Top.{Top}
use Rattle.value_bits.specs.declared.tri.Top.TheVariants.{Sign, Low, Put}
use Rattle.value_bits.specs.declared.tri.Logic.{Logic}
use Rattle.chip_numbers.specs.Numbers.{shifted_right, exchanged, sign_extended, low_byte, high_byte, word_of, is_decimal, decimal_sum, decimal_adjusted}
use Rattle.value_bits.specs.Bits.{IsBit, choices, known_bit, known_bits, from_bits, logic_of, tri_logic}

-- what an unknown bit may be, as a set
abbrev pub chosen : Tri → Form
chosen bit = Values (choices bit)

-- all numbers
abbrev pub any : (m : ℕ) → Form
any m = make m 0 1 m

-- all results of at most 256 combinations, else another set
unfoldable pub combine_or : (m : ℕ) → (ℕ → ℕ → ℕ → ℕ) → (first second carry otherwise : Form) → Form
combine_or m answer first second carry otherwise =
    if nat_le (count_of m first * (count_of m second * count_of m carry)) 256 then combine m answer first second carry
    else otherwise

-- ---- logic

-- the bits of the result that the known bits of both sets decide
abbrev pub logic_bits : (width : ℕ) → Logic → (first second : Form) → List Tri
logic_bits width logic first second =
    map (λ place. tri_logic logic (known_bit width place first) (known_bit width place second)) (range_with_len 0 width)

-- the results of AND, OR or XOR
unfoldable pub logic_set : (width : ℕ) → Logic → (first second : Form) → Form
logic_set width logic first second =
    combine_or (2 ^ width) (λ x y z. logic_of logic x y) first second (single 0) (from_bits width (logic_bits width logic first second))

-- ---- shifts

-- the bit that a shift of a number may put in at the top place
abbrev pub IsTop : (place : ℕ) → Top → (x bit : ℕ) → Type 0
IsTop place Sign x bit = bit ≡ bit_at x place
IsTop place Low x bit = bit ≡ bit_at x 0
IsTop place (Put given) x bit = IsBit given bit

-- the shift puts in one bit
abbrev pub IsOneTop : Top → Type 0
IsOneTop Sign = Unit {0}
IsOneTop Low = Unit {0}
IsOneTop (Put Zero) = Unit {0}
IsOneTop (Put One) = Unit {0}
IsOneTop (Put Either) = ⊥

-- the bit as an operation on the number and a carry
abbrev pub top_answer : (place : ℕ) → Top → (x carry : ℕ) → ℕ
top_answer place Sign x carry = bit_at x place
top_answer place Low x carry = bit_at x 0
top_answer place (Put given) x carry = carry % 2

abbrev pub shift_answer : (place : ℕ) → Top → (x y carry : ℕ) → ℕ
shift_answer place top x y carry = shifted_right place x (top_answer place top x carry)

-- what the carry may be
abbrev pub top_carry : Top → Form
top_carry Sign = single 0
top_carry Low = single 0
top_carry (Put given) = chosen given

-- what is known of the bit, by the known bits of the number
abbrev pub top_bit : (place : ℕ) → Top → List Tri → Tri
top_bit place Sign bits = slice_index_or bits place Either
top_bit place Low bits = slice_index_or bits 0 Either
top_bit place (Put given) bits = given

-- the other bits move down one place
abbrev pub shift_bits : (place : ℕ) → Top → List Tri → List Tri
shift_bits place top bits = drop 1 bits ++ top_bit place top bits ∷ []

-- the numbers shifted to the right by one place, whose top bit has this place
unfoldable pub shift_set : (place : ℕ) → Form → Top → Form
shift_set place set top =
    combine_or (2 ^ (place + 1)) (shift_answer place top) set (single 0) (top_carry top) (from_bits (place + 1) (shift_bits place top (known_bits (place + 1) set)))

-- ---- halves

-- numbers of twice the width of a half, whose halves change places
unfoldable pub exchange_set : (half : ℕ) → Form → Form
exchange_set half set =
    let n = 2 ^ half in let bits = known_bits (half + half) set in
    combine_or (2 ^ (half + half)) (λ x y z. exchanged n x) set (single 0) (single 0) (from_bits (half + half) (drop half bits ++ take half bits))

-- words with bit 7 copied into bits 8 to 15
unfoldable pub sign_extend_set : Form → Form
sign_extend_set set = let bits = known_bits 16 set in
    combine_or 65536 (λ x y z. sign_extended x) set (single 0) (single 0) (from_bits 16 (take 8 bits ++ replicate 8 (slice_index_or bits 7 Either)))

-- the low and the high bytes of words
unfoldable pub low_set : Form → Form
low_set set =
    if nat_le (count_of 65536 set) 256 then gather 256 (map low_byte (members 65536 set)) else from_bits 8 (take 8 (known_bits 16 set))

unfoldable pub high_set : Form → Form
high_set set =
    if nat_le (count_of 65536 set) 256 then gather 256 (map high_byte (members 65536 set)) else from_bits 8 (drop 8 (known_bits 16 set))

-- each word of a low and a high byte
abbrev pub words : (lows highs : List ℕ) → List ℕ
words lows highs = flat_map (λ low. map (λ high. word_of low high) highs) lows

-- the words of low and high bytes
unfoldable pub pair_set : (low high : Form) → Form
pair_set low high =
    if nat_le (count_of 256 low * count_of 256 high) 256 then gather 65536 (words (members 256 low) (members 256 high))
    else from_bits 16 (known_bits 8 low ++ known_bits 8 high)

-- ---- decimal operations

-- whether each member has no digit above 9
abbrev pub are_decimal : (digits : ℕ) → Form → Bool
are_decimal digits set = list_all (is_decimal digits) (members (16 ^ digits) set)

-- the decimal sums, and any number where some member has a digit above 9
unfoldable pub decimal_add_set : (digits : ℕ) → (first second : Form) → Tri → Form
decimal_add_set digits first second carry =
    if are_decimal digits first && are_decimal digits second
    then combine_or (16 ^ digits) (decimal_sum digits) first second (chosen carry) (any (16 ^ digits))
    else any (16 ^ digits)

-- bytes adjusted to decimal, with CY and AC
unfoldable pub decimal_adjust_set : Form → (carry half : Tri) → Form
decimal_adjust_set set carry half = combine_or 256 decimal_adjusted set (chosen carry) (chosen half) (any 256)
