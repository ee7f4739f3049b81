-- What bits of sets and the sets of bitwise and decimal operations hold. A proof over them takes these laws from one record.
use Rattle.std.specs.Prelude.{◌≡◌, ℕ, ◌+◌, ◌-◌, ◌*◌, ◌/◌, ◌%◌, ◌^◌, ◌<◌, ◌≤◌, ◌==◌, ◌&&◌, ◌++◌, if◌then◌else◌, not, Bool, true, false, IsFalse, List, drop, length, map, replicate, slice_index_or, set, take}
use Rattle.std.specs.List.{range_with_len}
use Prim.Native.Nat.{min, max}
use Rattle.std.specs.Int.{bit_at}
use Rattle.value_set.specs.declared.form.Form.{Form}
use Rattle.value_set.specs.Form.{Has, IsNormal}
use Rattle.value_set.specs.Remainders.{HasRemainder}
use Rattle.value_set.specs.Summing.{count_of, single}
use Rattle.value_bits.specs.declared.tri.Tri.{Tri}
use Rattle.value_bits.specs.declared.tri.Tri.TheVariants.{Zero, One, Either}
use Rattle.value_bits.specs.declared.tri.Top.{Top}
use Rattle.value_bits.specs.declared.tri.Lowest.{Lowest}
use Rattle.value_bits.specs.declared.tri.Logic.{Logic}
use Rattle.value_bits.specs.declared.tri.Logic.TheVariants.{And}
use Rattle.value_bits.specs.Bits.{IsBit, Agrees, known_bits, from_bits, known_flag, logic_of, may_be, tri_and, tri_not, tri_or, tri_xor}
use Rattle.value_bits.specs.Flags.{IsFlag, agreed}
use Rattle.value_bits.specs.Lefts.{IsLowest, left_set}
use Rattle.chip_numbers.specs.Numbers.{shifted_left, shifted_right, exchanged, sign_extended, low_byte, high_byte, word_of, is_decimal, decimal_sum, decimal_adjusted}
use Rattle.value_bits.specs.Sets.{IsTop, chosen, logic_set, shift_set, exchange_set, sign_extend_set, low_set, high_set, pair_set, decimal_add_set, decimal_adjust_set}

pub record BitLaws : Type 0 where
  -- AND, OR and XOR
  pub logic_normal : (width : ℕ) (logic : Logic) (a b : Form) → IsNormal (2 ^ width) a → IsNormal (2 ^ width) b
      → IsNormal (2 ^ width) (logic_set width logic a b)
  pub logic : (width x y : ℕ) (logic : Logic) (a b : Form) → IsNormal (2 ^ width) a → IsNormal (2 ^ width) b
      → Has (2 ^ width) a x → Has (2 ^ width) b y
      → Has (2 ^ width) (logic_set width logic a b) (logic_of logic x y)
  -- the low and the high bytes of words, and words of bytes
  pub low_normal : (a : Form) → IsNormal 65536 a → IsNormal 256 (low_set a)
  pub low : (v : ℕ) (a : Form) → IsNormal 65536 a → Has 65536 a v → Has 256 (low_set a) (low_byte v)
  pub high_normal : (a : Form) → IsNormal 65536 a → IsNormal 256 (high_set a)
  pub high : (v : ℕ) (a : Form) → IsNormal 65536 a → Has 65536 a v → Has 256 (high_set a) (high_byte v)
  pub pair_normal : (low high : Form) → IsNormal 256 low → IsNormal 256 high → IsNormal 65536 (pair_set low high)
  pub pair : (x y : ℕ) (low high : Form) → IsNormal 256 low → IsNormal 256 high → Has 256 low x → Has 256 high y
      → Has 65536 (pair_set low high) (word_of x y)
  pub pair_byte : (low : Form) (v : ℕ) → IsNormal 256 low → Has 65536 (pair_set low (single 0)) v → v < 256
  -- moved bits
  pub exchange_normal : (half : ℕ) (a : Form) → IsNormal (2 ^ (half + half)) a → IsNormal (2 ^ (half + half)) (exchange_set half a)
  pub exchange : (half x : ℕ) (a : Form) → IsNormal (2 ^ (half + half)) a → Has (2 ^ (half + half)) a x
      → Has (2 ^ (half + half)) (exchange_set half a) (exchanged (2 ^ half) x)
  pub sign_normal : (a : Form) → IsNormal 65536 a → IsNormal 65536 (sign_extend_set a)
  pub sign : (x : ℕ) (a : Form) → IsNormal 65536 a → Has 65536 a x → Has 65536 (sign_extend_set a) (sign_extended x)
  pub shift_normal : (place : ℕ) (a : Form) (top : Top) → IsNormal (2 ^ (place + 1)) a → IsNormal (2 ^ (place + 1)) (shift_set place a top)
  pub shift : (place x bit : ℕ) (a : Form) (top : Top) → IsNormal (2 ^ (place + 1)) a → Has (2 ^ (place + 1)) a x → IsTop place top x bit
      → Has (2 ^ (place + 1)) (shift_set place a top) (shifted_right place x bit)
  pub left_normal : (place : ℕ) (a : Form) (lowest : Lowest) → IsNormal (2 ^ (place + 1)) a
      → IsNormal (2 ^ (place + 1)) (left_set place a lowest)
  pub left : (place x bit : ℕ) (a : Form) (lowest : Lowest) → IsNormal (2 ^ (place + 1)) a → Has (2 ^ (place + 1)) a x
      → IsLowest place lowest x bit
      → Has (2 ^ (place + 1)) (left_set place a lowest) (shifted_left place x bit)
  -- decimal sums and adjustments
  pub decimal_normal : (digits : ℕ) (a b : Form) (carry : Tri) → IsNormal (16 ^ digits) a → IsNormal (16 ^ digits) b
      → IsNormal (16 ^ digits) (decimal_add_set digits a b carry)
  pub decimal : (digits x y bit : ℕ) (a b : Form) (carry : Tri) → IsNormal (16 ^ digits) a → IsNormal (16 ^ digits) b
      → Has (16 ^ digits) a x → Has (16 ^ digits) b y → IsBit carry bit
      → Has (16 ^ digits) (decimal_add_set digits a b carry) (decimal_sum digits x y bit)
  pub decimal_free : (digits x y v : ℕ) (a b : Form) (carry : Tri) → Has (16 ^ digits) a x → Has (16 ^ digits) b y
      → IsFalse (is_decimal digits x && is_decimal digits y) → v < 16 ^ digits → Has (16 ^ digits) (decimal_add_set digits a b carry) v
  pub adjust_normal : (a : Form) (carry half : Tri) → IsNormal 256 a → IsNormal 256 (decimal_adjust_set a carry half)
  pub adjust : (x y z : ℕ) (a : Form) (carry half : Tri) → IsNormal 256 a → Has 256 a x → IsBit carry y → IsBit half z
      → Has 256 (decimal_adjust_set a carry half) (decimal_adjusted x y z)
  -- known bits of sets, and sets of bits
  pub known : (width v : ℕ) (a : Form) → IsNormal (2 ^ width) a → Has (2 ^ width) a v → Agrees (known_bits width a) v
  pub from_normal : (width : ℕ) (bits : List Tri) → length bits ≡ width → IsNormal (2 ^ width) (from_bits width bits)
  pub from : (width v : ℕ) (bits : List Tri) → length bits ≡ width → Agrees bits v → Has (2 ^ width) (from_bits width bits) v
  pub known_long : (width : ℕ) (a : Form) → length (known_bits width a) ≡ width
  pub chosen_normal : (m : ℕ) (t : Tri) → 2 ≤ m → IsNormal m (chosen t)
  pub chosen_has : (m bit : ℕ) (t : Tri) → IsBit t bit → Has m (chosen t) bit
  -- even numbers
  pub even_known : (width : ℕ) (a : Form) → 1 ≤ width → IsNormal (2 ^ width) a → HasRemainder (2 ^ width) 2 0 a
      → slice_index_or (known_bits width a) 0 Either ≡ Zero
  pub even_from : (width : ℕ) (bits : List Tri) → length bits ≡ width → slice_index_or bits 0 Either ≡ Zero
      → HasRemainder (2 ^ width) 2 0 (from_bits width bits)
  pub odd_from : (width : ℕ) (bits : List Tri) → length bits ≡ width → slice_index_or bits 0 Either ≡ One
      → HasRemainder (2 ^ width) 2 1 (from_bits width bits)
  pub even_and : (width : ℕ) (a b : Form) → 1 ≤ width → IsNormal (2 ^ width) a → IsNormal (2 ^ width) b
      → HasRemainder (2 ^ width) 2 0 b → HasRemainder (2 ^ width) 2 0 (logic_set width And a b)
  -- flags
  pub flags : (m x y z : ℕ) (flag : ℕ → ℕ → ℕ → Bool) (a b c : Form) → Has m a x → Has m b y → Has m c z
      → IsFlag (agreed m flag a b c) (flag x y z)
  pub flags_set : (m : ℕ) (flag : ℕ → ℕ → ℕ → Bool) (a b c : Form) → count_of m a * (count_of m b * count_of m c) ≤ 256
      → ((x y z : ℕ) → Has m a x → Has m b y → Has m c z → flag x y z ≡ true) → agreed m flag a b c ≡ One
  pub flags_clear : (m : ℕ) (flag : ℕ → ℕ → ℕ → Bool) (a b c : Form) → IsNormal m a → IsNormal m b → IsNormal m c
      → count_of m a * (count_of m b * count_of m c) ≤ 256
      → ((x y z : ℕ) → Has m a x → Has m b y → Has m c z → flag x y z ≡ false) → agreed m flag a b c ≡ Zero
  pub flag_bit : (t : Tri) (flag : Bool) → IsFlag t flag → IsBit t (if flag then 1 else 0)
  pub flag_may : (t : Tri) (flag : Bool) → IsFlag t flag → may_be t flag ≡ true
  pub flag_not : (t : Tri) (flag : Bool) → IsFlag t flag → IsFlag (tri_not t) (not flag)
  pub flag_known : (flag : Bool) → IsFlag (known_flag flag) flag
  -- one bit
  pub bit_below : (t : Tri) (bit : ℕ) → IsBit t bit → bit < 2
  pub bit_some : (t : Tri) → (bit : ℕ) × IsBit t bit
  pub bit_may : (t : Tri) (bit : ℕ) → IsBit t bit → may_be t (bit == 1) ≡ true
  pub bit_known : (bit : ℕ) → bit < 2 → IsBit (known_flag (bit == 1)) bit
  pub bit_not : (t : Tri) (x : ℕ) → IsBit t x → IsBit (tri_not t) (1 - x)
  pub bit_and : (a b : Tri) (x y : ℕ) → IsBit a x → IsBit b y → IsBit (tri_and a b) (min x y)
  pub bit_or : (a b : Tri) (x y : ℕ) → IsBit a x → IsBit b y → IsBit (tri_or a b) (max x y)
  pub bit_xor : (a b : Tri) (x y : ℕ) → IsBit a x → IsBit b y → IsBit (tri_xor a b) ((x + y) % 2)
  -- the bits of a number
  pub bits_at : (bits : List Tri) (place v : ℕ) → Agrees bits v → IsBit (slice_index_or bits place Either) (bit_at v place)
  pub bits_put : (bits : List Tri) (place v : ℕ) (t : Tri) → place < length bits → Agrees bits v
      → IsBit t (bit_at v place) → Agrees (set bits place t) v
  pub bits_from : (at : ℕ → Tri) (v width : ℕ) → ((place : ℕ) → place < width → IsBit (at place) (bit_at v place)) → v < 2 ^ width
      → Agrees (map at (range_with_len 0 width)) v
  pub bits_any : (width v : ℕ) → v < 2 ^ width → Agrees (replicate width Either) v
  pub bits_zero : (width : ℕ) → Agrees (replicate width Zero) 0
  pub bits_append : (bits more : List Tri) (v w : ℕ) → Agrees bits v → Agrees more w → Agrees (bits ++ more) (v + 2 ^ length bits * w)
  pub bits_take : (width : ℕ) (bits : List Tri) (v low high : ℕ) → v ≡ low + 2 ^ width * high → low < 2 ^ width
      → Agrees bits v → Agrees (take width bits) low
  pub bits_drop : (width : ℕ) (bits : List Tri) (v : ℕ) → Agrees bits v → Agrees (drop width bits) (v / 2 ^ width)
  pub bits_below : (bits : List Tri) (v : ℕ) → Agrees bits v → v < 2 ^ length bits
