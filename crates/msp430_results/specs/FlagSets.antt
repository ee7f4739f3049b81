-- What is known of the flags of results (SLAU049, chapter 3, "Status Register").
use Rattle.std.specs.Prelude.{ℕ, ◌*◌, ◌==◌, nat_le, if◌then◌else◌, Bool, true, false, Option, None, Some, List, [], ◌∷◌}
use Rattle.value_set.specs.Form.{Has, IsNormal}
use Rattle.value_set.specs.Joining.{is_in}
use Rattle.value_set.specs.Summing.{count_of, single}
use Rattle.value_set.specs.declared.form.Form.{Form}
use Rattle.value_bits.specs.declared.tri.Tri.{Tri}
use Rattle.value_bits.specs.declared.tri.Tri.TheVariants.{Zero, One, Either}
use Rattle.value_bits.specs.Bits.{known_bits, tri_not}
use Rattle.value_bits.specs.Flags.{IsFlag, agreed}
use Rattle.msp430_decode.specs.declared.instr.Width.{Width}
use Rattle.msp430_decode.specs.declared.instr.Width.TheVariants.{Word, Byte}
use Rattle.msp430_chip.specs.declared.place.Flags.{Flags}
use Rattle.msp430_chip.specs.Arithmetic.{Made, modulus}
use Rattle.msp430_results.specs.declared.flag_bits.FlagBits.{FlagBits}

-- RESULTS AND FLAGS IN SETS

-- a set of results, and what is known of the flags that they set, if they set any
abbrev pub MadeSet : Type 0
MadeSet = Form × Option FlagBits

-- a set in its one form that has the number
pub record IsResult (m : ℕ) (set : Form) (v : ℕ) : Type 0 where
  pub normal : IsNormal m set
  pub has : Has m set v

pub record AreFlags (bits : FlagBits) (flags : Flags) : Type 0 where
  pub carry : IsFlag bits.carry flags.carry
  pub zero : IsFlag bits.zero flags.zero
  pub negative : IsFlag bits.negative flags.negative
  pub overflow : IsFlag bits.overflow flags.overflow

abbrev pub HoldsOfFlags : Option FlagBits → Option Flags → Type 0
HoldsOfFlags None None = Unit {0}
HoldsOfFlags (Some bits) (Some flags) = AreFlags bits flags
HoldsOfFlags None (Some flags) = ⊥
HoldsOfFlags (Some bits) None = ⊥

pub record HoldsOfMade (width : Width) (set : MadeSet) (made_so : Made) : Type 0 where
  pub normal : IsNormal (modulus width) set.0
  pub result : Has (modulus width) set.0 made_so.0
  pub flags : HoldsOfFlags set.1 made_so.1

-- WHAT A SET SHOWS

abbrev pub bits_of : Width → ℕ
bits_of Word = 16
bits_of Byte = 8

-- Z, by the numbers of a set of results: clear where 0 isn't one of them, and set where it is the only one
abbrev pub zero_by : (has_zero : Bool) → (count : ℕ) → Tri
zero_by true count = if count == 1 then One else Either
zero_by false count = Zero

abbrev pub zero_of : Width → Form → Tri
zero_of width set = zero_by (is_in (modulus width) set 0) (count_of (modulus width) set)

-- N is the last of the known bits of a result
abbrev pub last_or : Tri → List Tri → Tri
last_or bit [] = bit
last_or bit (next ∷ bits) = last_or next bits

abbrev pub negative_by : List Tri → Tri
negative_by [] = Zero
negative_by (bit ∷ bits) = last_or bit bits

abbrev pub negative_of : Width → Form → Tri
negative_of width set = negative_by (known_bits (bits_of width) set)

-- of more than 256 combinations Z and N are those that the set of results shows
abbrev pub shown_flags : Width → Form → (carry overflow : Tri) → FlagBits
shown_flags width set carry overflow =
    record { carry = carry; zero = zero_of width set; negative = negative_of width set; overflow = overflow }

-- of AND, BIT, XOR and SXT C is the opposite of Z
abbrev pub shown_logic : Width → Form → (overflow : Tri) → FlagBits
shown_logic width set overflow = shown_flags width set (tri_not (zero_of width set)) overflow

-- FLAGS OF ALL COMBINATIONS

abbrev pub is_few : (m : ℕ) → (a b c : Form) → Bool
is_few m a b c = nat_le (count_of m a * (count_of m b * count_of m c)) 256

-- each flag is known where all combinations agree
abbrev pub all_agree : (m : ℕ) → (ℕ → ℕ → ℕ → Flags) → (a b c : Form) → FlagBits
all_agree m flags a b c = record {
  carry = agreed m (λ x y z. (flags x y z).carry) a b c;
  zero = agreed m (λ x y z. (flags x y z).zero) a b c;
  negative = agreed m (λ x y z. (flags x y z).negative) a b c;
  overflow = agreed m (λ x y z. (flags x y z).overflow) a b c;
}

abbrev pub flags_or : (m : ℕ) → (ℕ → ℕ → ℕ → Flags) → (a b c : Form) → FlagBits → FlagBits
flags_or m flags a b c shown = if is_few m a b c then all_agree m flags a b c else shown

-- all numbers of two sets are negative, or none is
abbrev pub is_one_sign : (first second : Tri) → Bool
is_one_sign Zero Zero = true
is_one_sign One One = true
is_one_sign first second = false

-- then, of differences, N is the opposite of C, and V is clear
abbrev pub compared : (m : ℕ) → (a b : Form) → FlagBits
compared m a b = record {
  carry = agreed m (λ x y z. nat_le y x) a b (single 0);
  zero = agreed m (λ x y z. x == y) a b (single 0);
  negative = tri_not (agreed m (λ x y z. nat_le y x) a b (single 0));
  overflow = Zero;
}

-- V is free
abbrev pub free_overflow : FlagBits → FlagBits
free_overflow bits = record { carry = bits.carry; zero = bits.zero; negative = bits.negative; overflow = Either }

abbrev pub no_flags : FlagBits
no_flags = record { carry = Either; zero = Either; negative = Either; overflow = Either }
