-- What the instructions make of sets of values, and what is known of the flags that they set (value sets after G.
-- Balakrishnan and T. Reps, "WYSINWYX: What You See Is Not What You eXecute", 2010; the operations of SLAU049, chapter 3).
-- Of at most 256 combinations of members all results are gathered, with an unknown carry counted as two.
use Rattle.std.specs.Prelude.{ℕ, ◌+◌, ◌-◌, ◌%◌, ◌==◌, ◌&&◌, if◌then◌else◌, false, Option, None, Some, [], ◌∷◌, map, bit_and}
use Rattle.std.specs.Int.{bit_at}
use Rattle.value_set.specs.declared.form.Form.{Form}
use Rattle.value_set.specs.declared.form.Form.TheVariants.{Values, Run}
use Rattle.value_set.specs.Summing.{single, add, sub, twice}
use Rattle.value_bits.specs.declared.tri.Logic.TheVariants.{And, Or, Xor}
use Rattle.value_bits.specs.declared.tri.Top.TheVariants.{Sign, Put}
use Rattle.value_bits.specs.declared.tri.Tri.{Tri}
use Rattle.value_bits.specs.declared.tri.Tri.TheVariants.{Zero, One, Either}
use Rattle.value_bits.specs.Bits.{known_bits, from_bits, tri_and, tri_not}
use Rattle.chip_numbers.specs.Numbers.{shifted_right, decimal_sum, decimal_carry, sign_extended}
use Rattle.value_bits.specs.Sets.{chosen, combine_or, logic_set, shift_set, exchange_set, sign_extend_set, are_decimal, decimal_add_set}
use Rattle.msp430_decode.specs.declared.instr.Width.{Width}
use Rattle.msp430_decode.specs.declared.instr.Width.TheVariants.{Byte}
use Rattle.msp430_decode.specs.declared.instr.Operation.{Operation}
use Rattle.msp430_decode.specs.declared.instr.Operation.TheVariants as operation
use Rattle.msp430_decode.specs.declared.instr.SingleOperation.{SingleOperation}
use Rattle.msp430_decode.specs.declared.instr.SingleOperation.TheVariants.{Rrc, Swpb, Rra, Sxt, Push, Call}
use Rattle.msp430_chip.specs.declared.place.Flags.{Flags}
use Rattle.msp430_chip.specs.Arithmetic.{Made, modulus, digits_of, top_place, complement, flags_of, sum, logic, exclusive}
use Rattle.value_bits.specs.Pointwise.{each_with}
use Rattle.msp430_results.specs.FlagSets.{MadeSet, bits_of, shown_flags, shown_logic, all_agree, flags_or, free_overflow, no_flags}

-- THE FLAGS OF NUMBERS

abbrev pub flags_or_none : Option Flags → Flags
flags_or_none (Some flags) = flags
flags_or_none None = record { carry = false; zero = false; negative = false; overflow = false }

abbrev pub flags_in : Made → Flags
flags_in made_so = flags_or_none made_so.1

-- SUMS AND DIFFERENCES

abbrev pub carry_answer : ℕ → ℕ → ℕ → ℕ → ℕ
carry_answer m x y z = (x + y + z) % m

abbrev pub borrow_answer : ℕ → ℕ → ℕ → ℕ → ℕ
borrow_answer m x y z = (x + (m - 1 - y) + z) % m

-- the carry, less one
abbrev pub borrowed : ℕ → Tri → Form
borrowed m Zero = single (m - 1)
borrowed m One = single 0
borrowed m Either = Values (0 ∷ (m - 1) ∷ [])

-- above 256 combinations the values of the carry are added to a sum or difference without it
abbrev pub add_carry : (m : ℕ) → (a b : Form) → Tri → Form
add_carry m a b carry = combine_or m (carry_answer m) a b (chosen carry) (add m (add m a b) (chosen carry))

abbrev pub sub_carry : (m : ℕ) → (a b : Form) → Tri → Form
sub_carry m a b carry = combine_or m (borrow_answer m) a b (chosen carry) (add m (sub m a b) (borrowed m carry))

abbrev pub sum_made : Width → Form → (ℕ → ℕ → ℕ → Flags) → (a b c : Form) → MadeSet
sum_made width set flags a b c = (set, Some (flags_or (modulus width) flags a b c (shown_flags width set Either Either)))

-- ADD of a register to itself
abbrev pub twice_flags : Width → Form → MadeSet
twice_flags width (Values xs) = (
  twice (modulus width) (Values xs),
  Some (all_agree (modulus width) (λ x y z. flags_in (sum width x x 0)) (Values xs) (single 0) (single 0)),
)
twice_flags width (Run p) = (twice (modulus width) (Run p), Some (shown_flags width (twice (modulus width) (Run p)) Either Either))

-- LOGIC

abbrev pub logic_made : Width → Form → (ℕ → ℕ → ℕ → Flags) → (a b : Form) → (overflow : Tri) → MadeSet
logic_made width set flags a b overflow = (set, Some (flags_or (modulus width) flags a b (single 0) (shown_logic width set overflow)))

-- BIC: the destination AND NOT the source
abbrev pub clear_answer : Width → ℕ → ℕ → ℕ → ℕ
clear_answer width x y z = bit_and x (complement width y)

abbrev pub clear_set : Width → (a b : Form) → Form
clear_set width a b = combine_or (modulus width) (clear_answer width) a b (single 0)
    (from_bits (bits_of width) (each_with tri_and (known_bits (bits_of width) a) (map tri_not (known_bits (bits_of width) b))))

-- DECIMAL SUMS

abbrev pub decimal_flags : Width → ℕ → ℕ → ℕ → Flags
decimal_flags width x y z = let digits = digits_of width in
    flags_of width (decimal_sum digits x y z) (decimal_carry digits x y z) false

-- V is free, and so are all flags where some member has a digit above 9
abbrev pub decimal_made : Width → (a b : Form) → Tri → MadeSet
decimal_made width a b carry = let digits = digits_of width in (
  decimal_add_set digits a b carry,
  Some (if are_decimal digits a && are_decimal digits b
      then free_overflow (flags_or (modulus width) (decimal_flags width) a b (chosen carry) no_flags) else no_flags),
)

-- TWO OPERANDS

abbrev pub double_made : Operation → Width → (source destination : Form) → (carry : Tri) → MadeSet
double_made operation.Mov width s d carry = (s, None)
double_made operation.Add width s d carry =
    sum_made width (add (modulus width) d s) (λ x y z. flags_in (sum width x y 0)) d s (single 0)
double_made operation.Addc width s d carry =
    sum_made width (add_carry (modulus width) d s carry) (λ x y z. flags_in (sum width x y z)) d s (chosen carry)
double_made operation.Subc width s d carry =
    sum_made width (sub_carry (modulus width) d s carry) (λ x y z. flags_in (sum width x (complement width y) z)) d s (chosen carry)
double_made operation.Sub width s d carry =
    sum_made width (sub (modulus width) d s) (λ x y z. flags_in (sum width x (complement width y) 1)) d s (single 0)
double_made operation.Cmp width s d carry =
    sum_made width (sub (modulus width) d s) (λ x y z. flags_in (sum width x (complement width y) 1)) d s (single 0)
double_made operation.Dadd width s d carry = decimal_made width d s carry
double_made operation.Bit width s d carry =
    logic_made width (logic_set (bits_of width) And d s) (λ x y z. flags_in (logic width (bit_and x y))) d s Zero
double_made operation.Bic width s d carry = (clear_set width d s, None)
double_made operation.Bis width s d carry = (logic_set (bits_of width) Or d s, None)
double_made operation.Xor width s d carry =
    logic_made width (logic_set (bits_of width) Xor d s) (λ x y z. flags_in (exclusive width x y)) d s Either
double_made operation.And width s d carry =
    logic_made width (logic_set (bits_of width) And d s) (λ x y z. flags_in (logic width (bit_and x y))) d s Zero

-- ONE OPERAND

abbrev pub rotated_flags : Width → ℕ → ℕ → ℕ → Flags
rotated_flags width x y z = flags_of width (shifted_right (top_place width) x z) (x % 2 == 1) false

abbrev pub halved_flags : Width → ℕ → ℕ → ℕ → Flags
halved_flags width x y z = flags_of width (shifted_right (top_place width) x (bit_at x (top_place width))) (x % 2 == 1) false

-- of RRC V is free; PUSH and CALL take the value as it is
abbrev pub single_made : SingleOperation → Width → Form → (carry : Tri) → MadeSet
single_made Rrc width set carry = let result = shift_set (top_place width) set (Put carry) in
    (result, Some (free_overflow (flags_or (modulus width) (rotated_flags width) set (single 0) (chosen carry) (shown_flags width result Either Either))))
single_made Swpb width set carry = (exchange_set 8 set, None)
single_made Rra width set carry = let result = shift_set (top_place width) set Sign in
    (result, Some (flags_or (modulus width) (halved_flags width) set (single 0) (single 0) (shown_flags width result Either Zero)))
single_made Sxt width set carry = let result = sign_extend_set set in
    logic_made width result (λ x y z. flags_in (logic width (sign_extended x))) set (single 0) Zero
single_made Push width set carry = (set, None)
single_made Call width set carry = (set, None)

-- SWPB and SXT work on words alone
abbrev pub HasWidth : SingleOperation → Width → Type 0
HasWidth Swpb Byte = ⊥
HasWidth Sxt Byte = ⊥
HasWidth operation width = Unit {0}
