-- The result and the flags of each operation, a row an operation.
use Rattle.std.proofs.Common.{◌≡◌, ℕ, zero, suc, ◌+◌, ◌-◌, ◌*◌, ◌/◌, ◌%◌, ◌^◌, ◌<◌, ◌≤◌, ◌==◌, ◌&&◌, Bool, true, false, not, None, List, [], ◌∷◌, map, length, get_or, min, refl, sym, ap, ◌∙◌, subst, arith}
use Rattle.std.specs.Prelude.{nat_le, bit_and, bit_or, bit_xor}
use Rattle.std.specs.Int.{bit_at}
use Rattle.std.specs.Int.Bits.{and_step}
use Rattle.std.specs.List.{list_all}
use Rattle.std.proofs.Math.Nat.{pow-suc}
use Rattle.std.proofs.lemmas.Bool.{cond_both, and_from, and_parts}
use Rattle.std.proofs.lemmas.Nat.{and_le_l}
use Rattle.std.proofs.lemmas.List.Elements.{Contains-get_or}
use Rattle.std.proofs.lemmas.Option.{same_Some}
use Rattle.value_set.specs.declared.form.Form.{Form}
use Rattle.value_set.specs.declared.form.Form.TheVariants.{Values, Run}
use Rattle.value_set.specs.Form.{Has, IsNormal, members}
use Rattle.value_set.specs.Summing.{add, sub, single, twice}
use Rattle.value_bits.specs.declared.tri.Logic.{Logic}
use Rattle.value_bits.specs.declared.tri.Logic.TheVariants.{And, Or, Xor}
use Rattle.value_bits.specs.declared.tri.Top.{Top}
use Rattle.value_bits.specs.declared.tri.Top.TheVariants.{Sign, Put}
use Rattle.value_bits.specs.declared.tri.Tri.{Tri}
use Rattle.value_bits.specs.declared.tri.Tri.TheVariants.{Zero, Either}
use Rattle.value_bits.specs.Bits.{IsBit, Agrees, known_bits, from_bits, logic_of, tri_and, tri_not}
use Rattle.value_bits.specs.Flags.{IsFlag}
use Rattle.chip_numbers.specs.Numbers.{shifted_right, exchanged, sign_extended, is_decimal, decimal_sum, decimal_carry}
use Rattle.value_bits.specs.Sets.{IsTop, chosen, logic_set, shift_set, sign_extend_set, are_decimal, decimal_add_set}
use Rattle.irq_frames.specs.KnownLaws.{KnownLaws}
use Rattle.msp430_decode.specs.declared.instr.Width.{Width}
use Rattle.msp430_decode.specs.declared.instr.Width.TheVariants.{Word, Byte}
use Rattle.msp430_decode.specs.declared.instr.Operation.{Operation}
use Rattle.msp430_decode.specs.declared.instr.Operation.TheVariants as operation
use Rattle.msp430_decode.specs.declared.instr.SingleOperation.{SingleOperation}
use Rattle.msp430_decode.specs.declared.instr.SingleOperation.TheVariants.{Rrc, Swpb, Rra, Sxt, Push, Call}
use Rattle.msp430_chip.specs.declared.place.Flags.{Flags}
use Rattle.msp430_chip.specs.Arithmetic.{Made, modulus, digits_of, top_place, is_negative, complement, flags_of, made, overflows, sum, logic, exclusive}
use Rattle.msp430_chip.specs.Leading.{MayMake, MayMakeDecimal, MayMakeSingle}
use Rattle.msp430_chip.specs.Leading.MayMakeDecimal.{Decimal, NotDecimal}
use Rattle.value_bits.specs.Pointwise.{each_with}
use Rattle.msp430_results.specs.FlagSets.{IsResult, AreFlags, HoldsOfMade, bits_of, shown_flags, shown_logic, flags_or, free_overflow, no_flags}
use Rattle.msp430_results.specs.Results.{flags_in, add_carry, sub_carry, sum_made, twice_flags, logic_made, clear_answer, clear_set, decimal_flags, decimal_made, double_made, rotated_flags, halved_flags, single_made, HasWidth}
use Rattle.msp430_results.proofs.Carries.{combined, single_is, chosen_is, add_is, sub_is, carry_is, borrow_is}
use Rattle.msp430_results.proofs.FlagLemmas.{some_numbers, shown_hold, shown_logic_hold, all_hold, either_hold, free_hold, none_hold}

-- SUMS

-- the flags of a sum, over all combinations or as the result shows them
sum_row : (laws : KnownLaws) (width : Width) (set : Form) (flags : ℕ → ℕ → ℕ → Flags) (a b c : Form) (x y z p q : ℕ)
    → IsResult (modulus width) set ((x + p + q) % modulus width)
    → flags x y z ≡ flags_in (sum width x p q) → Has (modulus width) a x → Has (modulus width) b y → Has (modulus width) c z
    → HoldsOfMade width (sum_made width set flags a b c) (sum width x p q)
unfolding sum
sum_row laws width set flags a b c x y z p q is same h k l =
    let v = (x + p + q) % modulus width in
    let carry = nat_le (modulus width) (x + p + q) in
    let overflow = overflows (is_negative width x) (is_negative width p) (is_negative width v) in
    let shown : AreFlags (shown_flags width set Either Either) (flags x y z) =
    subst (AreFlags (shown_flags width set Either Either)) (sym same) (shown_hold laws width set v Either Either carry overflow is.normal is.has tt tt) in
    record {
      normal = is.normal;
      result = is.has;
      flags = subst (AreFlags (flags_or (modulus width) flags a b c (shown_flags width set Either Either))) same
          (either_hold laws (modulus width) flags a b c x y z (shown_flags width set Either Either) h k l shown);
    }

difference : (m x y : ℕ) → y < m → x + m - y ≡ x + (m - 1 - y) + 1
difference m x y small = omega arith

sub_row : (laws : KnownLaws) (width : Width) (s d : ℕ) (a b : Form) → IsResult (modulus width) a s → IsResult (modulus width) b d
    → HoldsOfMade width (sum_made width (sub (modulus width) b a) (λ x y z. flags_in (sum width x (complement width y) 1)) b a (single 0)) (sum width d (complement width s) 1)
sub_row laws width s d a b h k =
    let m = modulus width in
    let small : s < m = laws.sets.below m s a h.normal h.has in
    let is = subst (λ v. IsResult m (sub m b a) (v % m)) (difference m d s small) (sub_is laws m d s b a k h) in
    sum_row laws width (sub m b a) (λ x y z. flags_in (sum width x (complement width y) 1)) b a (single 0) d s 0 (complement width s) 1 is refl k.has h.has
    (single_is laws m 0 (omega (arith, some_numbers width))).has

-- ADD of a register to itself
pub twice_row : (laws : KnownLaws) (width : Width) (x : ℕ) (set : Form) → IsResult (modulus width) set x
    → HoldsOfMade width (twice_flags width set) (sum width x x 0)
unfolding sum
twice_row laws width x (Values xs) is =
    let m = modulus width in
    let plain : x + x + 0 ≡ x + x = omega arith in
    let none = (single_is laws m 0 (omega (arith, some_numbers width))).has in
    record {
      normal = laws.sets.twice_normal m (Values xs) is.normal;
      result = subst (λ v. Has m (twice m (Values xs)) (v % m)) (sym plain) (laws.sets.twice m x (Values xs) is.normal is.has);
      flags = all_hold laws m (λ x y z. flags_in (sum width x x 0)) (Values xs) (single 0) (single 0) x 0 0 is.has none none;
    }
twice_row laws width x (Run p) is =
    let m = modulus width in
    let plain : x + x + 0 ≡ x + x = omega arith in
    let has : Has m (twice m (Run p)) ((x + x + 0) % m) = subst (λ v. Has m (twice m (Run p)) (v % m)) (sym plain) (laws.sets.twice m x (Run p) is.normal is.has) in
    record {
      normal = laws.sets.twice_normal m (Run p) is.normal;
      result = has;
      flags = shown_hold laws width (twice m (Run p)) ((x + x + 0) % m) Either Either (nat_le m (x + x + 0))
          (overflows (is_negative width x) (is_negative width x) (is_negative width ((x + x + 0) % m))) (laws.sets.twice_normal m (Run p) is.normal) has tt tt;
    }

-- LOGIC

logic_is : (laws : KnownLaws) (width : Width) (logic : Logic) (x y : ℕ) (a b : Form) → IsResult (modulus width) a x
    → IsResult (modulus width) b y
    → IsResult (modulus width) (logic_set (bits_of width) logic a b) (logic_of logic x y)
logic_is laws Word logic x y a b h k = record { normal = laws.bits.logic_normal 16 logic a b h.normal k.normal; has = laws.bits.logic 16 x y logic a b h.normal k.normal h.has k.has }
logic_is laws Byte logic x y a b h k = record { normal = laws.bits.logic_normal 8 logic a b h.normal k.normal; has = laws.bits.logic 8 x y logic a b h.normal k.normal h.has k.has }

logic_row : (laws : KnownLaws) (width : Width) (set : Form) (flags : ℕ → ℕ → ℕ → Flags) (a b : Form) (x y v : ℕ) (o : Tri) (overflow : Bool)
    → IsResult (modulus width) set v
    → flags x y 0 ≡ flags_of width v (not (v == 0)) overflow → IsFlag o overflow → Has (modulus width) a x → Has (modulus width) b y
    → HoldsOfMade width (logic_made width set flags a b o) (made width v (not (v == 0)) overflow)
logic_row laws width set flags a b x y v o overflow is same last h k =
    let m = modulus width in
    let none = (single_is laws m 0 (omega (arith, some_numbers width))).has in
    let shown : AreFlags (shown_logic width set o) (flags x y 0) = subst (AreFlags (shown_logic width set o)) (sym same) (shown_logic_hold laws width set v o overflow is.normal is.has last) in
    record {
      normal = is.normal;
      result = is.has;
      flags = subst (AreFlags (flags_or m flags a b (single 0) (shown_logic width set o))) same
          (either_hold laws m flags a b (single 0) x y 0 (shown_logic width set o) h k none shown);
    }

-- BIC

-- numbers with the bits of two lists as long: the bits of x AND NOT y
clear_agrees : (laws : KnownLaws) (as' bs : List Tri) (x y top : ℕ) → length as' ≡ length bs → top + 1 ≡ 2 ^ length bs
    → Agrees as' x → Agrees bs y → y ≤ top
    → Agrees (each_with tri_and as' (map tri_not bs)) (bit_and x (top - y))
clear_agrees laws [] [] x y top long whole h k le =
    let none : x ≡ 0 = h in let under = and_le_l x (top - y) in omega (arith, none, under)
clear_agrees laws [] (b ∷ bs) x y top long whole h k le = absurd (omega arith)
clear_agrees laws (a ∷ as') [] x y top long whole h k le = absurd (omega arith)
clear_agrees laws (a ∷ as') (b ∷ bs) x y top long whole h k le =
    let step = and_step x (top - y) in
    let power : 2 ^ suc (length bs) ≡ 2 ^ length bs * 2 = pow-suc 2 (length bs) in
    let half : top / 2 + 1 ≡ 2 ^ length bs = omega (arith, whole, power) in
    let odd : (top - y) % 2 ≡ 1 - y % 2 = omega (arith, whole, power) in
    let rest : (top - y) / 2 ≡ top / 2 - y / 2 = omega (arith, whole, power) in
    let low : bit_and x (top - y) % 2 ≡ min (x % 2) (1 - y % 2) = omega (arith, step, odd) in
    let high : bit_and x (top - y) / 2 ≡ bit_and (x / 2) (top / 2 - y / 2) = omega (arith, step, odd, ap (bit_and (x / 2)) rest) in (
      subst (IsBit (tri_and a (tri_not b))) (sym low) (laws.bits.bit_and a (tri_not b) (x % 2) (1 - y % 2) h.0 (laws.bits.bit_not b (y % 2) k.0)),
      subst (Agrees (each_with tri_and as' (map tri_not bs))) (sym high)
          (clear_agrees laws as' bs (x / 2) (y / 2) (top / 2) (omega arith) half h.1 k.1 (omega (arith, le))),
    )

length-each_with : (f : Tri → Tri → Tri) (xs ys : List Tri) → length xs ≡ length ys → length (each_with f xs ys) ≡ length xs
length-each_with f [] ys e = refl
length-each_with f (x ∷ xs) [] e = absurd (omega arith)
length-each_with f (x ∷ xs) (y ∷ ys) e = ap suc (length-each_with f xs ys (omega arith))

length-not : (bits : List Tri) → length (map tri_not bits) ≡ length bits
length-not [] = refl
length-not (bit ∷ bits) = ap suc (length-not bits)

clear_bits : (laws : KnownLaws) (w x y top : ℕ) (a b : Form) → top + 1 ≡ 2 ^ w → IsResult (2 ^ w) a x → IsResult (2 ^ w) b y
    → IsResult (2 ^ w) (from_bits w (each_with tri_and (known_bits w a) (map tri_not (known_bits w b)))) (bit_and x (top - y))
clear_bits laws w x y top a b whole h k =
    let bits = each_with tri_and (known_bits w a) (map tri_not (known_bits w b)) in
    let first = laws.bits.known_long w a in
    let second = laws.bits.known_long w b in
    let as_long : length (known_bits w a) ≡ length (map tri_not (known_bits w b)) = omega (arith, first, second, length-not (known_bits w b)) in
    let long : length bits ≡ w = length-each_with tri_and (known_bits w a) (map tri_not (known_bits w b)) as_long ∙ first in
    let small = laws.sets.below (2 ^ w) y b k.normal k.has in
    let same : length (known_bits w a) ≡ length (known_bits w b) = omega (arith, first, second) in
    let power : top + 1 ≡ 2 ^ length (known_bits w b) = whole ∙ ap (λ n. 2 ^ n) (sym second) in
    record {
      normal = laws.bits.from_normal w bits long;
      has = laws.bits.from w (bit_and x (top - y)) bits long (clear_agrees laws (known_bits w a) (known_bits w b) x y top same power
          (laws.bits.known w x a h.normal h.has) (laws.bits.known w y b k.normal k.has) (omega (arith, small, whole)));
    }

clear_stays : (laws : KnownLaws) (width : Width) (x y z : ℕ) → x < modulus width → y < modulus width → z < modulus width
    → clear_answer width x y z < modulus width
clear_stays laws width x y z h k l = let under = and_le_l x (complement width y) in omega (arith, under, h)

clear_is : (laws : KnownLaws) (width : Width) (x y : ℕ) (a b : Form) → IsResult (modulus width) a x → IsResult (modulus width) b y
    → IsResult (modulus width) (clear_set width a b) (bit_and x (complement width y))
clear_is laws Word x y a b h k = combined laws 65536 (clear_answer Word) a b (single 0) (from_bits 16 (each_with tri_and (known_bits 16 a) (map tri_not (known_bits 16 b)))) x y 0 (clear_stays laws Word) h k (single_is laws 65536 0 (omega arith))
    (clear_bits laws 16 x y 65535 a b refl h k)
clear_is laws Byte x y a b h k = combined laws 256 (clear_answer Byte) a b (single 0) (from_bits 8 (each_with tri_and (known_bits 8 a) (map tri_not (known_bits 8 b)))) x y 0 (clear_stays laws Byte) h k (single_is laws 256 0 (omega arith))
    (clear_bits laws 8 x y 255 a b refl h k)

-- DADD

all_at : (p : ℕ → Bool) (xs : List ℕ) (v k : ℕ) → k < length xs → get_or xs k v ≡ v → list_all p xs ≡ true → p v ≡ true
all_at p [] v k lt is all = absurd (omega arith)
all_at p (x ∷ xs) v zero lt is all = ap p (sym is) ∙ (and_parts (p x) (list_all p xs) all).0
all_at p (x ∷ xs) v (suc k) lt is all = all_at p xs v k (omega arith) is (and_parts (p x) (list_all p xs) all).1

decimal_member : (digits v : ℕ) (set : Form) → Has (16 ^ digits) set v → are_decimal digits set ≡ true → is_decimal digits v ≡ true
decimal_member digits v set (k, lt, is) all = all_at (is_decimal digits) (members (16 ^ digits) set) v k lt is all

both_decimal : (digits x y : ℕ) (a b : Form) → Has (16 ^ digits) a x → Has (16 ^ digits) b y
    → (are_decimal digits a && are_decimal digits b) ≡ true → (is_decimal digits x && is_decimal digits y) ≡ true
both_decimal digits x y a b h k all = let parts = and_parts (are_decimal digits a) (are_decimal digits b) all in
    and_from (is_decimal digits x) (is_decimal digits y) (decimal_member digits x a h parts.0) (decimal_member digits y b k parts.1)

-- what the two widths have in common
record DecimalSet (width : Width) (set : Form) (x y z : ℕ) (a b : Form) : Type 0 where
  normal : IsNormal (modulus width) set
  has : Has (modulus width) set (decimal_sum (digits_of width) x y z)
  free : (is_decimal (digits_of width) x && is_decimal (digits_of width) y) ≡ false → (v : ℕ) → v < modulus width
      → Has (modulus width) set v
  both : (are_decimal (digits_of width) a && are_decimal (digits_of width) b) ≡ true
      → (is_decimal (digits_of width) x && is_decimal (digits_of width) y) ≡ true

decimal_is : (laws : KnownLaws) (width : Width) (x y z : ℕ) (a b : Form) (carry : Tri) → IsResult (modulus width) a x
    → IsResult (modulus width) b y → IsBit carry z
    → DecimalSet width (decimal_add_set (digits_of width) a b carry) x y z a b
decimal_is laws Word x y z a b carry h k bit = record {
  normal = laws.bits.decimal_normal 4 a b carry h.normal k.normal;
  has = laws.bits.decimal 4 x y z a b carry h.normal k.normal h.has k.has bit;
  free = λ none v small. laws.bits.decimal_free 4 x y v a b carry h.has k.has none small;
  both = both_decimal 4 x y a b h.has k.has;
}
decimal_is laws Byte x y z a b carry h k bit = record {
  normal = laws.bits.decimal_normal 2 a b carry h.normal k.normal;
  has = laws.bits.decimal 2 x y z a b carry h.normal k.normal h.has k.has bit;
  free = λ none v small. laws.bits.decimal_free 2 x y v a b carry h.has k.has none small;
  both = both_decimal 2 x y a b h.has k.has;
}

decimal_row : (laws : KnownLaws) (width : Width) (x y z : ℕ) (a b : Form) (carry : Tri) (made_so : Made)
    → IsResult (modulus width) a x → IsResult (modulus width) b y → IsBit carry z
    → MayMakeDecimal width x y z made_so → HoldsOfMade width (decimal_made width a b carry) made_so
decimal_row laws width x y z a b carry made_so h k bit (Decimal decimal overflow e) =
    let m = modulus width in
    let digits = digits_of width in
    let is = decimal_is laws width x y z a b carry h k bit in
    let c = chosen_is laws m z carry (omega (arith, some_numbers width)) bit in
    let result = decimal_sum digits x y z in
    let carried = decimal_carry digits x y z in
    let few = flags_or m (decimal_flags width) a b (chosen carry) no_flags in
    let few_hold : AreFlags few (flags_of width result carried false) =
    either_hold laws m (decimal_flags width) a b (chosen carry) x y z no_flags h.has k.has c.has (none_hold (decimal_flags width x y z)) in
    subst (HoldsOfMade width (decimal_made width a b carry)) (sym e) record {
      normal = is.normal;
      result = is.has;
      flags = cond_both (are_decimal digits a && are_decimal digits b) (free_overflow few) no_flags (λ bits. AreFlags bits (flags_of width result carried overflow))
          (λ all. free_hold width few result carried false overflow few_hold) (λ some. none_hold (flags_of width result carried overflow));
    }
decimal_row laws width x y z a b carry made_so h k bit (NotDecimal none result small flags e) =
    let m = modulus width in
    let digits = digits_of width in
    let is = decimal_is laws width x y z a b carry h k bit in
    subst (HoldsOfMade width (decimal_made width a b carry)) (sym e) record {
      normal = is.normal;
      result = is.free none result small;
      flags = cond_both (are_decimal digits a && are_decimal digits b) (free_overflow (flags_or m (decimal_flags width) a b (chosen carry) no_flags)) no_flags (λ bits. AreFlags bits flags)
          (λ all. let decimal = is.both all in absurd (cc)) (λ some. none_hold flags);
    }

-- TWO OPERANDS

plain_sum : (m x y : ℕ) → (x + y + 0) % m ≡ (x + y) % m
plain_sum m x y = ap (λ n. n % m) (omega arith)

-- Where the sets have the values, the set of results has the result, and the flags hold.
pub double_holds : (laws : KnownLaws) (done : Operation) (width : Width) (s d carry : ℕ) (a b : Form) (c : Tri) (made_so : Made)
    → IsResult (modulus width) a s → IsResult (modulus width) b d → IsBit c carry
    → MayMake done width s d carry made_so → HoldsOfMade width (double_made done width a b c) made_so
double_holds laws operation.Mov width s d carry a b c made_so h k bit may =
    subst (HoldsOfMade width (a, None)) (same_Some (s, None) made_so may) (record { normal = h.normal; result = h.has; flags = tt })
double_holds laws operation.Add width s d carry a b c made_so h k bit may =
    let m = modulus width in
    let is = subst (IsResult m (add m b a)) (sym (plain_sum m d s)) (add_is laws m d s b a k h) in
    subst (HoldsOfMade width (double_made operation.Add width a b c)) (same_Some (sum width d s 0) made_so may)
    (sum_row laws width (add m b a) (λ x y z. flags_in (sum width x y 0)) b a (single 0) d s 0 s 0 is refl k.has h.has (single_is laws m 0 (omega (arith, some_numbers width))).has)
double_holds laws operation.Addc width s d carry a b c made_so h k bit may =
    let m = modulus width in
    let chosen_so = chosen_is laws m carry c (omega (arith, some_numbers width)) bit in
    subst (HoldsOfMade width (double_made operation.Addc width a b c)) (same_Some (sum width d s carry) made_so may)
    (sum_row laws width (add_carry m b a c) (λ x y z. flags_in (sum width x y z)) b a (chosen c) d s carry s carry (carry_is laws m d s carry b a c (some_numbers width) k h bit) refl k.has h.has chosen_so.has)
double_holds laws operation.Subc width s d carry a b c made_so h k bit may =
    let m = modulus width in
    let chosen_so = chosen_is laws m carry c (omega (arith, some_numbers width)) bit in
    subst (HoldsOfMade width (double_made operation.Subc width a b c)) (same_Some (sum width d (complement width s) carry) made_so may)
    (sum_row laws width (sub_carry m b a c) (λ x y z. flags_in (sum width x (complement width y) z)) b a (chosen c) d s carry (complement width s) carry
    (borrow_is laws m d s carry b a c (some_numbers width) k h bit) refl k.has h.has chosen_so.has)
double_holds laws operation.Sub width s d carry a b c made_so h k bit may =
    subst (HoldsOfMade width (double_made operation.Sub width a b c)) (same_Some (sum width d (complement width s) 1) made_so may) (sub_row laws width s d a b h k)
double_holds laws operation.Cmp width s d carry a b c made_so h k bit may =
    subst (HoldsOfMade width (double_made operation.Cmp width a b c)) (same_Some (sum width d (complement width s) 1) made_so may) (sub_row laws width s d a b h k)
double_holds laws operation.Dadd width s d carry a b c made_so h k bit may = decimal_row laws width d s carry b a c made_so k h bit may
double_holds laws operation.Bit width s d carry a b c made_so h k bit may =
    subst (HoldsOfMade width (double_made operation.Bit width a b c)) (same_Some (logic width (bit_and d s)) made_so may)
    (logic_row laws width (logic_set (bits_of width) And b a) (λ x y z. flags_in (logic width (bit_and x y))) b a d s (bit_and d s) Zero false (logic_is laws width And d s b a k h) refl refl k.has h.has)
double_holds laws operation.Bic width s d carry a b c made_so h k bit may =
    let is = clear_is laws width d s b a k h in
    subst (HoldsOfMade width (double_made operation.Bic width a b c)) (same_Some (bit_and d (complement width s), None) made_so may) (record { normal = is.normal; result = is.has; flags = tt })
double_holds laws operation.Bis width s d carry a b c made_so h k bit may =
    let is = logic_is laws width Or d s b a k h in
    subst (HoldsOfMade width (double_made operation.Bis width a b c)) (same_Some (bit_or d s, None) made_so may) (record { normal = is.normal; result = is.has; flags = tt })
double_holds laws operation.Xor width s d carry a b c made_so h k bit may =
    subst (HoldsOfMade width (double_made operation.Xor width a b c)) (same_Some (exclusive width d s) made_so may)
    (logic_row laws width (logic_set (bits_of width) Xor b a) (λ x y z. flags_in (exclusive width x y)) b a d s (bit_xor d s) Either (is_negative width d && is_negative width s) (logic_is laws width Xor d s b a k h) refl tt k.has h.has)
double_holds laws operation.And width s d carry a b c made_so h k bit may =
    subst (HoldsOfMade width (double_made operation.And width a b c)) (same_Some (logic width (bit_and d s)) made_so may)
    (logic_row laws width (logic_set (bits_of width) And b a) (λ x y z. flags_in (logic width (bit_and x y))) b a d s (bit_and d s) Zero false (logic_is laws width And d s b a k h) refl refl k.has h.has)

-- ONE OPERAND

shift_is : (laws : KnownLaws) (width : Width) (x bit : ℕ) (set : Form) (top : Top) → IsResult (modulus width) set x
    → IsTop (top_place width) top x bit
    → IsResult (modulus width) (shift_set (top_place width) set top) (shifted_right (top_place width) x bit)
shift_is laws Word x bit set top h is = record { normal = laws.bits.shift_normal 15 set top h.normal; has = laws.bits.shift 15 x bit set top h.normal h.has is }
shift_is laws Byte x bit set top h is = record { normal = laws.bits.shift_normal 7 set top h.normal; has = laws.bits.shift 7 x bit set top h.normal h.has is }

rotated_row : (laws : KnownLaws) (width : Width) (x carry : ℕ) (set : Form) (c : Tri) (made_so : Made)
    → IsResult (modulus width) set x → IsBit c carry
    → MayMakeSingle Rrc width x carry made_so → HoldsOfMade width (single_made Rrc width set c) made_so
rotated_row laws width x carry set c made_so h bit (overflow, e) =
    let m = modulus width in
    let none = (single_is laws m 0 (omega (arith, some_numbers width))).has in
    let chosen_so = chosen_is laws m carry c (omega (arith, some_numbers width)) bit in
    let result = shift_set (top_place width) set (Put c) in
    let v = shifted_right (top_place width) x carry in
    let is = shift_is laws width x carry set (Put c) h bit in
    let shown = shown_flags width result Either Either in
    let few_hold : AreFlags (flags_or m (rotated_flags width) set (single 0) (chosen c) shown) (flags_of width v (x % 2 == 1) false) =
    either_hold laws m (rotated_flags width) set (single 0) (chosen c) x 0 carry shown h.has none chosen_so.has
    (shown_hold laws width result v Either Either (x % 2 == 1) false is.normal is.has tt tt) in
    subst (HoldsOfMade width (single_made Rrc width set c)) (sym e) record {
      normal = is.normal;
      result = is.has;
      flags = free_hold width (flags_or m (rotated_flags width) set (single 0) (chosen c) shown) v (x % 2 == 1) false overflow few_hold;
    }

halved_row : (laws : KnownLaws) (width : Width) (x carry : ℕ) (set : Form) (c : Tri) (made_so : Made) → IsResult (modulus width) set x
    → MayMakeSingle Rra width x carry made_so → HoldsOfMade width (single_made Rra width set c) made_so
halved_row laws width x carry set c made_so h may =
    let m = modulus width in
    let none = (single_is laws m 0 (omega (arith, some_numbers width))).has in
    let result = shift_set (top_place width) set Sign in
    let v = shifted_right (top_place width) x (bit_at x (top_place width)) in
    let is = shift_is laws width x (bit_at x (top_place width)) set Sign h refl in
    let shown = shown_flags width result Either Zero in
    subst (HoldsOfMade width (single_made Rra width set c)) (same_Some (made width v (x % 2 == 1) false) made_so may) record {
      normal = is.normal;
      result = is.has;
      flags = either_hold laws m (halved_flags width) set (single 0) (single 0) x 0 0 shown h.has none none
          (shown_hold laws width result v Either Zero (x % 2 == 1) false is.normal is.has tt refl);
    }

-- Where the set has the value, the set of results has the result, and the flags hold.
pub single_holds : (laws : KnownLaws) (done : SingleOperation) (width : Width) (x carry : ℕ) (set : Form) (c : Tri) (made_so : Made)
    → HasWidth done width → IsResult (modulus width) set x → IsBit c carry
    → MayMakeSingle done width x carry made_so → HoldsOfMade width (single_made done width set c) made_so
single_holds laws Rrc width x carry set c made_so fits h bit may = rotated_row laws width x carry set c made_so h bit may
single_holds laws Swpb Word x carry set c made_so fits h bit may =
    subst (HoldsOfMade Word (single_made Swpb Word set c)) (same_Some (exchanged 256 x, None) made_so may)
    (record { normal = laws.bits.exchange_normal 8 set h.normal; result = laws.bits.exchange 8 x set h.normal h.has; flags = tt })
single_holds laws Swpb Byte x carry set c made_so fits h bit may = absurd fits
single_holds laws Rra width x carry set c made_so fits h bit may = halved_row laws width x carry set c made_so h may
single_holds laws Sxt Word x carry set c made_so fits h bit may =
    let none = (single_is laws 65536 0 (omega arith)).has in
    let is : IsResult 65536 (sign_extend_set set) (sign_extended x) = record { normal = laws.bits.sign_normal set h.normal; has = laws.bits.sign x set h.normal h.has } in
    subst (HoldsOfMade Word (single_made Sxt Word set c)) (same_Some (logic Word (sign_extended x)) made_so may)
    (logic_row laws Word (sign_extend_set set) (λ x y z. flags_in (logic Word (sign_extended x))) set (single 0) x 0 (sign_extended x) Zero false is refl refl h.has none)
single_holds laws Sxt Byte x carry set c made_so fits h bit may = absurd fits
single_holds laws Push width x carry set c made_so fits h bit may =
    subst (HoldsOfMade width (set, None)) (same_Some (x, None) made_so may) (record { normal = h.normal; result = h.has; flags = tt })
single_holds laws Call width x carry set c made_so fits h bit may =
    subst (HoldsOfMade width (set, None)) (same_Some (x, None) made_so may) (record { normal = h.normal; result = h.has; flags = tt })

-- FORMS

-- a member of a set
member : (laws : KnownLaws) (m : ℕ) (set : Form) → IsNormal m set → (v : ℕ) × IsResult m set v
member laws m set normal = let some = laws.sets.some m set normal in
    (get_or (members m set) 0 0, record { normal = normal; has = Contains-get_or (members m set) 0 0 (omega (arith, some)) })

rows_form : (laws : KnownLaws) (done : Operation) (width : Width) (s d carry : ℕ) (a b : Form) (c : Tri)
    → IsResult (modulus width) a s → IsResult (modulus width) b d → IsBit c carry
    → IsNormal (modulus width) (double_made done width a b c).0
rows_form laws operation.Dadd width s d carry a b c h k bit = (decimal_is laws width d s carry b a c k h bit).normal
rows_form laws operation.Mov width s d carry a b c h k bit = h.normal
rows_form laws operation.Add width s d carry a b c h k bit = laws.sets.add_normal (modulus width) b a k.normal h.normal
rows_form laws operation.Addc width s d carry a b c h k bit = (carry_is laws (modulus width) d s carry b a c (some_numbers width) k h bit).normal
rows_form laws operation.Subc width s d carry a b c h k bit = (borrow_is laws (modulus width) d s carry b a c (some_numbers width) k h bit).normal
rows_form laws operation.Sub width s d carry a b c h k bit = laws.sets.sub_normal (modulus width) b a k.normal h.normal
rows_form laws operation.Cmp width s d carry a b c h k bit = laws.sets.sub_normal (modulus width) b a k.normal h.normal
rows_form laws operation.Bit width s d carry a b c h k bit = (logic_is laws width And d s b a k h).normal
rows_form laws operation.Bic width s d carry a b c h k bit = (clear_is laws width d s b a k h).normal
rows_form laws operation.Bis width s d carry a b c h k bit = (logic_is laws width Or d s b a k h).normal
rows_form laws operation.Xor width s d carry a b c h k bit = (logic_is laws width Xor d s b a k h).normal
rows_form laws operation.And width s d carry a b c h k bit = (logic_is laws width And d s b a k h).normal

pub double_form : (laws : KnownLaws) (done : Operation) (width : Width) (a b : Form) (c : Tri)
    → IsNormal (modulus width) a → IsNormal (modulus width) b
    → IsNormal (modulus width) (double_made done width a b c).0
double_form laws done width a b c n k =
    let m = modulus width in
    let (s, h) = member laws m a n in
    let (d, l) = member laws m b k in
    let (carry, bit) = laws.bits.bit_some c in
    rows_form laws done width s d carry a b c h l bit

pub twice_form : (laws : KnownLaws) (width : Width) (a : Form) → IsNormal (modulus width) a
    → IsNormal (modulus width) (twice_flags width a).0
twice_form laws width a n = let (x, h) = member laws (modulus width) a n in (twice_row laws width x a h).normal

pub single_form : (laws : KnownLaws) (done : SingleOperation) (width : Width) (a : Form) (c : Tri) → HasWidth done width
    → IsNormal (modulus width) a → IsNormal (modulus width) (single_made done width a c).0
single_form laws Rrc width a c fits n =
    let (x, h) = member laws (modulus width) a n in
    let (carry, bit) = laws.bits.bit_some c in
    (rotated_row laws width x carry a c (made width (shifted_right (top_place width) x carry) (x % 2 == 1) false) h bit (false, refl)).normal
single_form laws Swpb Word a c fits n = laws.bits.exchange_normal 8 a n
single_form laws Swpb Byte a c fits n = absurd fits
single_form laws Rra width a c fits n = let (x, h) = member laws (modulus width) a n in
    (halved_row laws width x 0 a c (made width (shifted_right (top_place width) x (bit_at x (top_place width))) (x % 2 == 1) false) h refl).normal
single_form laws Sxt Word a c fits n = laws.bits.sign_normal a n
single_form laws Sxt Byte a c fits n = absurd fits
single_form laws Push width a c fits n = n
single_form laws Call width a c fits n = n
