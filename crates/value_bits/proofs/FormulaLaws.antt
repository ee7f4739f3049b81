-- The sets of the formulas are in normal form, and have the result of each combination of members.
use Rattle.std.proofs.Common.{◌≡◌, ℕ, ◌+◌, ◌-◌, ◌*◌, ◌^◌, ◌<◌, ◌≤◌, ◌++◌, ◌&&◌, Bool, true, false, cond, IsFalse, List, [], ◌∷◌, map, length, take, drop, replicate, get_or, refl, sym, ap, subst, inl, inr, arith}
use Rattle.std.proofs.Math.Nat.{pow-suc, mod-lt}
use Rattle.std.proofs.lemmas.Bool.{cases_lt, and_parts}
use Rattle.std.proofs.lemmas.Nat.{pow_pos, pow-add}
use Rattle.std.proofs.lemmas.List.{length-map, length-append, length-take-le, length-drop, length-replicate}
use Rattle.std.proofs.lemmas.List.FromFn.{length-map-range_with_len}
use Rattle.std.specs.List.{Contains}
use Rattle.value_set.specs.declared.form.Form.{Form}
use Rattle.value_set.specs.Form.{members, Has, IsNormal, gather}
use Rattle.value_set.specs.Operations.{HasResultsBelow}
use Rattle.value_set.specs.Summing.{single, count_of}
use Rattle.value_bits.specs.declared.tri.Tri.{Tri}
use Rattle.value_bits.specs.declared.tri.Tri.TheVariants.{Zero, One, Either}
use Rattle.value_bits.specs.declared.tri.Top.{Top}
use Rattle.value_bits.specs.declared.tri.Top.TheVariants.{Sign, Low, Put}
use Rattle.value_bits.specs.declared.tri.Logic.{Logic}
use Rattle.value_bits.specs.declared.tri.Lowest.{Lowest}
use Rattle.value_bits.specs.declared.tri.Lowest.TheVariants.{High, Given}
use Rattle.chip_numbers.specs.Numbers.{shifted_left, shifted_right, exchanged, sign_extended, low_byte, high_byte, word_of, is_decimal, decimal_sum, decimal_total, decimal_adjusted}
use Rattle.value_bits.specs.Bits.{IsBit, Agrees, known_bit, known_bits, filled, least, greatest, numbers, unknown_count, lowest_unknown, from_bits, logic_of, tri_logic}
use Rattle.value_bits.specs.Sets.{chosen, any, combine_or, logic_bits, logic_set, IsTop, top_answer, shift_answer, top_carry, top_bit, shift_bits, shift_set, exchange_set, sign_extend_set, low_set, high_set, words, pair_set, are_decimal, decimal_add_set, decimal_adjust_set}
use Rattle.value_bits.specs.Lefts.{IsLowest, lowest_answer, left_answer, lowest_carry, left_bits, left_set}
use Rattle.value_bits.specs.Staying.{lowest_answer_below, left_below, logic_stays, top_answer_below, shifted_below, exchanged_below, sign_stays, digits_below, adjusted_below}
use Rattle.value_bits.proofs.Fillings.{AllBelow, numbers_below, few_numbers}
use Rattle.value_bits.proofs.Agreeing.{numbers_have, run_has, few_value, many_value}
use Rattle.value_bits.proofs.Known.{known_agrees}
use Rattle.value_bits.proofs.Logics.{logic_agrees}
use Rattle.value_bits.proofs.Moves.{left_agrees, shift_agrees, exchange_agrees, sign_agrees, low_agrees, high_agrees, pair_agrees}
use Rattle.value_bits.proofs.Choosing.{combine_few, combine_many, single_has, chosen_has, lowest_choice, top_choice}
use Rattle.value_bits.proofs.HalfSets.{low_few, low_many, high_few, high_many, pair_few, pair_many, words_have, words_some}
use Rattle.value_bits.proofs.Decimals.{decimal_member}
use Rattle.value_bits.proofs.Singly.{chosen_normal, known_long}
use Rattle.value_set.specs.Laws.{SetLaws}
use Rattle.value_set.specs.ListFacts.{IsIn, in_from_Contains, Contains_from_in, in_map, in_mapped, in_flat}

-- ---- the set of some bits

all_below_in : (n v : ℕ) (xs : List ℕ) → AllBelow n xs → IsIn v xs → v < n
all_below_in n v [] h i = absurd i
all_below_in n v (x ∷ xs) h (inl e) = omega (arith, h.0, e)
all_below_in n v (x ∷ xs) h (inr i) = all_below_in n v xs h.1 i

pub number_below : (w : ℕ) (bits : List Tri) → length bits ≡ w → (v : ℕ) → Contains (numbers bits) v → v < 2 ^ w
number_below w bits long v there = subst (λ (n : ℕ). v < 2 ^ n) long (all_below_in (2 ^ length bits) v (numbers bits) (numbers_below bits) (in_from_Contains (numbers bits) v there))

greatest_below : (bits : List Tri) → filled 1 bits < 2 ^ length bits
unfolding filled
greatest_below [] = omega arith
greatest_below (Zero ∷ bs) = let rest = greatest_below bs in let power = pow-suc 2 (length bs) in omega (arith, rest, power)
greatest_below (One ∷ bs) = let rest = greatest_below bs in let power = pow-suc 2 (length bs) in omega (arith, rest, power)
greatest_below (Either ∷ bs) = let rest = greatest_below bs in let power = pow-suc 2 (length bs) in omega (arith, rest, power)

end_below : (w : ℕ) (bits : List Tri) → length bits ≡ w → greatest bits - least bits < 2 ^ w
end_below w bits long = let high = greatest_below bits in let size = ap (λ (n : ℕ). 2 ^ n) long in omega (arith, high, size)

pub bits_normal : SetLaws → (w : ℕ) (bits : List Tri) → length bits ≡ w → IsNormal (2 ^ w) (from_bits w bits)
bits_normal laws w bits long = elim (cases_lt 4 (unknown_count bits)) [
  | inr few ↦ subst (λ (s : Form). IsNormal (2 ^ w) s) (few_value w bits _ refl few)
      (laws.gather_normal (2 ^ w) (numbers bits) (few_numbers bits few).0 (number_below w bits long))
  | inl many ↦ subst (λ (s : Form). IsNormal (2 ^ w) s) (many_value w bits _ refl many)
      (laws.run_normal (2 ^ w) (least bits) (2 ^ lowest_unknown bits) _ (laws.run_up_to (2 ^ w) (2 ^ lowest_unknown bits) (greatest bits - least bits) (end_below w bits long)))
]

pub bits_have : SetLaws → (w v : ℕ) (bits : List Tri) → length bits ≡ w → Agrees bits v → Has (2 ^ w) (from_bits w bits) v
bits_have laws w v bits long agrees = elim (cases_lt 4 (unknown_count bits)) [
  | inr few ↦ subst (λ (s : Form). Has (2 ^ w) s v) (few_value w bits _ refl few)
      (laws.gather_holds (2 ^ w) v (numbers bits) (number_below w bits long) (numbers_have bits v agrees))
  | inl many ↦ subst (λ (s : Form). Has (2 ^ w) s v) (many_value w bits _ refl many)
      ((laws.run_exact (2 ^ w) (least bits) (2 ^ lowest_unknown bits) _ v (laws.run_up_to (2 ^ w) (2 ^ lowest_unknown bits) (greatest bits - least bits) (end_below w bits long))).1
      (run_has w bits v long agrees))
]

pub logic_long : (w : ℕ) (logic : Logic) (a b : Form) → length (logic_bits w logic a b) ≡ w
logic_long w logic a b = length-map-range_with_len (λ (place : ℕ). tri_logic logic (known_bit w place a) (known_bit w place b)) 0 w

-- ---- all results, or another set

pub zero_normal : (m : ℕ) → 0 < m → IsNormal m (single 0)
zero_normal m pos = (omega arith, omega arith, (omega arith, pos, tt))

-- the results of numbers below m stay below it, whatever the carry is
abbrev pub Stays : ℕ → (ℕ → ℕ → ℕ → ℕ) → Type 0
Stays m answer = (x y z : ℕ) → x < m → y < m → answer x y z < m

pub results_below : SetLaws → (m : ℕ) (answer : ℕ → ℕ → ℕ → ℕ) (a b c : Form) → IsNormal m a → IsNormal m b
    → Stays m answer → HasResultsBelow m answer a b c
results_below laws m answer a b c n k stays x y z h i j = stays x y z (laws.below m x a n h) (laws.below m y b k i)

choose_normal : SetLaws → (m : ℕ) (answer : ℕ → ℕ → ℕ → ℕ) (a b c otherwise : Form) → IsNormal m a → IsNormal m b
    → 1 ≤ length (members m c) → Stays m answer
    → IsNormal m otherwise → IsNormal m (combine_or m answer a b c otherwise)
choose_normal laws m answer a b c otherwise n k some stays other = elim (cases_lt 256 (count_of m a * (count_of m b * count_of m c))) [
  | inr few ↦ subst (λ (s : Form). IsNormal m s) (combine_few m answer a b c otherwise _ refl few)
      (laws.results_normal m answer a b c (laws.some m a n) (laws.some m b k) some (results_below laws m answer a b c n k stays))
  | inl many ↦ subst (λ (s : Form). IsNormal m s) (combine_many m answer a b c otherwise _ refl many) other
]

choose_has : SetLaws → (m : ℕ) (answer : ℕ → ℕ → ℕ → ℕ) (a b c otherwise : Form) (x y z : ℕ) → IsNormal m a → IsNormal m b → Stays m answer
    → Has m a x → Has m b y → Has m c z → Has m otherwise (answer x y z) → Has m (combine_or m answer a b c otherwise) (answer x y z)
choose_has laws m answer a b c otherwise x y z n k stays h i j other = elim (cases_lt 256 (count_of m a * (count_of m b * count_of m c))) [
  | inr few ↦ subst (λ (s : Form). Has m s (answer x y z)) (combine_few m answer a b c otherwise _ refl few)
      (laws.results_hold m x y z answer a b c (results_below laws m answer a b c n k stays) h i j)
  | inl many ↦ subst (λ (s : Form). Has m s (answer x y z)) (combine_many m answer a b c otherwise _ refl many) other
]

-- ---- logic

pub logic_kept : (w : ℕ) (logic : Logic) → Stays (2 ^ w) (λ x y z. logic_of logic x y)
logic_kept w logic x y z h k = logic_stays w logic x y 0 h k (pow_pos w)

pub logic_normal : SetLaws → (w : ℕ) (logic : Logic) (a b : Form) → IsNormal (2 ^ w) a → IsNormal (2 ^ w) b
    → IsNormal (2 ^ w) (logic_set w logic a b)
unfolding logic_set
logic_normal laws w logic a b n k =
    choose_normal laws (2 ^ w) (λ x y z. logic_of logic x y) a b (single 0) (from_bits w (logic_bits w logic a b)) n k (omega arith) (logic_kept w logic)
    (bits_normal laws w (logic_bits w logic a b) (logic_long w logic a b))

pub logic_has : SetLaws → (w x y : ℕ) (logic : Logic) (a b : Form) → IsNormal (2 ^ w) a → IsNormal (2 ^ w) b
    → Has (2 ^ w) a x → Has (2 ^ w) b y
    → Has (2 ^ w) (logic_set w logic a b) (logic_of logic x y)
unfolding logic_set
logic_has laws w x y logic a b n k h i =
    choose_has laws (2 ^ w) (λ x y z. logic_of logic x y) a b (single 0) (from_bits w (logic_bits w logic a b)) x y 0 n k (logic_kept w logic) h i (single_has (2 ^ w) 0)
    (bits_have laws w (logic_of logic x y) (logic_bits w logic a b) (logic_long w logic a b)
    (logic_agrees w logic a b x y n k h i))

-- ---- halves

byte_below : SetLaws → (f : ℕ → ℕ) (set : Form) → ((x : ℕ) → x < 65536 → f x < 256) → IsNormal 65536 set → (v : ℕ)
    → Contains (map f (members 65536 set)) v → v < 256
byte_below laws f set below n v there =
    let found = in_mapped f v (members 65536 set) (in_from_Contains (map f (members 65536 set)) v there) in
    subst (λ (w : ℕ). w < 256) found.2 (below found.0 (laws.below 65536 found.0 set n (Contains_from_in (members 65536 set) found.0 found.1)))

byte_normal : SetLaws → (f : ℕ → ℕ) (set : Form) → ((x : ℕ) → x < 65536 → f x < 256) → IsNormal 65536 set
    → IsNormal 256 (gather 256 (map f (members 65536 set)))
byte_normal laws f set below n = laws.gather_normal 256 (map f (members 65536 set)) (omega (arith, length-map (members 65536 set) f, laws.some 65536 set n))
    (byte_below laws f set below n)

byte_has : SetLaws → (f : ℕ → ℕ) (set : Form) (x : ℕ) → ((x : ℕ) → x < 65536 → f x < 256) → IsNormal 65536 set
    → Has 65536 set x → Has 256 (gather 256 (map f (members 65536 set))) (f x)
byte_has laws f set x below n h = laws.gather_holds 256 (f x) (map f (members 65536 set)) (byte_below laws f set below n)
    (Contains_from_in (map f (members 65536 set)) (f x) (in_map f x (members 65536 set) (in_from_Contains (members 65536 set) x h)))

low_below : (x : ℕ) → x < 65536 → low_byte x < 256
low_below x h = mod-lt x {m = 256} (omega arith)

high_below : (x : ℕ) → x < 65536 → high_byte x < 256
high_below x h = omega (arith, h)

low_long : (set : Form) → length (take 8 (known_bits 16 set)) ≡ 8
low_long set = let long = known_long 16 set in length-take-le 8 (known_bits 16 set) (omega (arith, long))

high_long : (set : Form) → length (drop 8 (known_bits 16 set)) ≡ 8
high_long set = let long = known_long 16 set in omega (arith, long, length-drop 8 (known_bits 16 set))

pub low_normal : SetLaws → (set : Form) → IsNormal 65536 set → IsNormal 256 (low_set set)
low_normal laws set n = elim (cases_lt 256 (length (members 65536 set))) [
  | inr few ↦ subst (λ (s : Form). IsNormal 256 s) (low_few set _ refl few) (byte_normal laws low_byte set low_below n)
  | inl many ↦ subst (λ (s : Form). IsNormal 256 s) (low_many set _ refl many) (bits_normal laws 8 (take 8 (known_bits 16 set)) (low_long set))
]

pub low_has : SetLaws → (x : ℕ) (set : Form) → IsNormal 65536 set → Has 65536 set x → Has 256 (low_set set) (low_byte x)
low_has laws x set n h = elim (cases_lt 256 (length (members 65536 set))) [
  | inr few ↦ subst (λ (s : Form). Has 256 s (low_byte x)) (low_few set _ refl few) (byte_has laws low_byte set x low_below n h)
  | inl many ↦ subst (λ (s : Form). Has 256 s (low_byte x)) (low_many set _ refl many)
      (bits_have laws 8 (low_byte x) (take 8 (known_bits 16 set)) (low_long set) (low_agrees (known_bits 16 set) x (known_long 16 set) (known_agrees 16 x set n h)))
]

pub high_normal : SetLaws → (set : Form) → IsNormal 65536 set → IsNormal 256 (high_set set)
high_normal laws set n = elim (cases_lt 256 (length (members 65536 set))) [
  | inr few ↦ subst (λ (s : Form). IsNormal 256 s) (high_few set _ refl few) (byte_normal laws high_byte set high_below n)
  | inl many ↦ subst (λ (s : Form). IsNormal 256 s) (high_many set _ refl many) (bits_normal laws 8 (drop 8 (known_bits 16 set)) (high_long set))
]

pub high_has : SetLaws → (x : ℕ) (set : Form) → IsNormal 65536 set → Has 65536 set x → Has 256 (high_set set) (high_byte x)
high_has laws x set n h = elim (cases_lt 256 (length (members 65536 set))) [
  | inr few ↦ subst (λ (s : Form). Has 256 s (high_byte x)) (high_few set _ refl few) (byte_has laws high_byte set x high_below n h)
  | inl many ↦ subst (λ (s : Form). Has 256 s (high_byte x)) (high_many set _ refl many)
      (bits_have laws 8 (high_byte x) (drop 8 (known_bits 16 set)) (high_long set) (high_agrees (known_bits 16 set) x (known_long 16 set) (known_agrees 16 x set n h)))
]

-- ---- words of two halves

word_below : SetLaws → (lows highs : Form) → IsNormal 256 lows → IsNormal 256 highs → (v : ℕ)
    → Contains (words (members 256 lows) (members 256 highs)) v → v < 65536
word_below laws lows highs n k v there =
    let low = in_flat (λ x. map (λ y. word_of x y) (members 256 highs)) v (members 256 lows) (in_from_Contains (words (members 256 lows) (members 256 highs)) v there) in
    let high = in_mapped (λ y. word_of low.0 y) v (members 256 highs) low.2 in
    let low_small = laws.below 256 low.0 lows n (Contains_from_in (members 256 lows) low.0 low.1) in
    let high_small = laws.below 256 high.0 highs k (Contains_from_in (members 256 highs) high.0 high.1) in
    omega (arith, low_small, high_small, high.2)

pair_some : SetLaws → (lows highs : Form) → IsNormal 256 lows → IsNormal 256 highs
    → 1 ≤ length (words (members 256 lows) (members 256 highs))
pair_some laws lows highs n k = words_some (members 256 lows) (members 256 highs) (laws.some 256 lows n) (laws.some 256 highs k)

pair_long : (lows highs : Form) → length (known_bits 8 lows ++ known_bits 8 highs) ≡ 16
pair_long lows highs = omega (arith, length-append (known_bits 8 lows) (known_bits 8 highs), known_long 8 lows, known_long 8 highs)

pub pair_normal : SetLaws → (lows highs : Form) → IsNormal 256 lows → IsNormal 256 highs → IsNormal 65536 (pair_set lows highs)
pair_normal laws lows highs n k = elim (cases_lt 256 (length (members 256 lows) * length (members 256 highs))) [
  | inr few ↦ subst (λ (s : Form). IsNormal 65536 s) (pair_few lows highs _ refl few)
      (laws.gather_normal 65536 (words (members 256 lows) (members 256 highs)) (pair_some laws lows highs n k) (word_below laws lows highs n k))
  | inl many ↦ subst (λ (s : Form). IsNormal 65536 s) (pair_many lows highs _ refl many) (bits_normal laws 16 (known_bits 8 lows ++ known_bits 8 highs) (pair_long lows highs))
]

pub pair_has : SetLaws → (x y : ℕ) (lows highs : Form) → IsNormal 256 lows → IsNormal 256 highs → Has 256 lows x
    → Has 256 highs y → Has 65536 (pair_set lows highs) (word_of x y)
pair_has laws x y lows highs n k h i = elim (cases_lt 256 (length (members 256 lows) * length (members 256 highs))) [
  | inr few ↦ subst (λ (s : Form). Has 65536 s (word_of x y)) (pair_few lows highs _ refl few)
      (laws.gather_holds 65536 (word_of x y) (words (members 256 lows) (members 256 highs)) (word_below laws lows highs n k) (words_have (members 256 lows) (members 256 highs) x y h i))
  | inl many ↦ subst (λ (s : Form). Has 65536 s (word_of x y)) (pair_many lows highs _ refl many)
      (bits_have laws 16 (word_of x y) (known_bits 8 lows ++ known_bits 8 highs) (pair_long lows highs)
      (pair_agrees (known_bits 8 lows) (known_bits 8 highs) x y (known_long 8 lows) (known_agrees 8 x lows n h) (known_agrees 8 y highs k i)))
]

-- ---- numbers whose bits move

-- all results of one number with a carry, or the numbers with some bits
moved_normal : SetLaws → (w : ℕ) (answer : ℕ → ℕ → ℕ → ℕ) (set carry : Form) (bits : List Tri) → length bits ≡ w → Stays (2 ^ w) answer
    → 1 ≤ length (members (2 ^ w) carry) → IsNormal (2 ^ w) set
    → IsNormal (2 ^ w) (combine_or (2 ^ w) answer set (single 0) carry (from_bits w bits))
moved_normal laws w answer set carry bits long stays some n =
    choose_normal laws (2 ^ w) answer set (single 0) carry (from_bits w bits) n (zero_normal (2 ^ w) (pow_pos w)) some stays (bits_normal laws w bits long)

moved_has : SetLaws → (w x z v : ℕ) (answer : ℕ → ℕ → ℕ → ℕ) (set carry : Form) (bits : List Tri) → length bits ≡ w → Stays (2 ^ w) answer
    → IsNormal (2 ^ w) set → Has (2 ^ w) set x → Has (2 ^ w) carry z → answer x 0 z ≡ v → Agrees bits v
    → Has (2 ^ w) (combine_or (2 ^ w) answer set (single 0) carry (from_bits w bits)) v
moved_has laws w x z v answer set carry bits long stays n h i is agrees =
    let m = 2 ^ w in
    let known = subst (λ (u : ℕ). Has m (from_bits w bits) u) (sym is) (bits_have laws w v bits long agrees) in
    subst (λ (u : ℕ). Has m (combine_or m answer set (single 0) carry (from_bits w bits)) u) is
    (choose_has laws m answer set (single 0) carry (from_bits w bits) x 0 z n (zero_normal m (pow_pos w)) stays h (single_has m 0) i known)

exchange_kept : (half : ℕ) → Stays (2 ^ (half + half)) (λ x y z. exchanged (2 ^ half) x)
exchange_kept half x y z h k = let square : 2 ^ (half + half) ≡ 2 ^ half * 2 ^ half = pow-add 2 half half in
    subst (λ (n : ℕ). exchanged (2 ^ half) x < n) (sym square) (exchanged_below (2 ^ half) x (subst (λ (n : ℕ). x < n) square h))

pub exchange_long : (half : ℕ) (set : Form)
    → length (drop half (known_bits (half + half) set) ++ take half (known_bits (half + half) set)) ≡ half + half
exchange_long half set = let bits = known_bits (half + half) set in let long = known_long (half + half) set in
    omega (arith, long, length-append (drop half bits) (take half bits), length-drop half bits, length-take-le half bits (omega (arith, long)))

pub exchange_normal : SetLaws → (half : ℕ) (set : Form) → IsNormal (2 ^ (half + half)) set
    → IsNormal (2 ^ (half + half)) (exchange_set half set)
unfolding exchange_set
exchange_normal laws half set n = moved_normal laws (half + half) (λ x y z. exchanged (2 ^ half) x) set (single 0) _
    (exchange_long half set) (exchange_kept half) (omega arith) n

pub exchange_has : SetLaws → (half x : ℕ) (set : Form) → IsNormal (2 ^ (half + half)) set
    → Has (2 ^ (half + half)) set x → Has (2 ^ (half + half)) (exchange_set half set) (exchanged (2 ^ half) x)
unfolding exchange_set
exchange_has laws half x set n h = moved_has laws (half + half) x 0 (exchanged (2 ^ half) x) (λ x y z. exchanged (2 ^ half) x) set (single 0) _
    (exchange_long half set) (exchange_kept half) n h (single_has (2 ^ (half + half)) 0) refl
    (exchange_agrees half (known_bits (half + half) set) x (known_long (half + half) set) (known_agrees (half + half) x set n h))

sign_kept : Stays 65536 (λ x y z. sign_extended x)
sign_kept x y z h k = sign_stays x y 0 h k (omega arith)

sign_long : (set : Form) → length (take 8 (known_bits 16 set) ++ replicate 8 (get_or (known_bits 16 set) 7 Either)) ≡ 16
sign_long set = omega (arith, low_long set, length-append (take 8 (known_bits 16 set)) (replicate 8 (get_or (known_bits 16 set) 7 Either)), length-replicate 8 (get_or (known_bits 16 set) 7 Either))

pub sign_normal : SetLaws → (set : Form) → IsNormal 65536 set → IsNormal 65536 (sign_extend_set set)
unfolding sign_extend_set
sign_normal laws set n = moved_normal laws 16 (λ x y z. sign_extended x) set (single 0) _ (sign_long set) sign_kept (omega arith) n

pub sign_has : SetLaws → (x : ℕ) (set : Form) → IsNormal 65536 set → Has 65536 set x → Has 65536 (sign_extend_set set) (sign_extended x)
unfolding sign_extend_set
sign_has laws x set n h = moved_has laws 16 x 0 (sign_extended x) (λ x y z. sign_extended x) set (single 0) _ (sign_long set) sign_kept
    n h (single_has 65536 0) refl (sign_agrees (known_bits 16 set) x (known_long 16 set) (known_agrees 16 x set n h))

chosen_some : (m : ℕ) (b : Tri) → 1 ≤ length (members m (chosen b))
chosen_some m Zero = omega arith
chosen_some m One = omega arith
chosen_some m Either = omega arith

top_some : (m : ℕ) (top : Top) → 1 ≤ length (members m (top_carry top))
top_some m Sign = omega arith
top_some m Low = omega arith
top_some m (Put given) = chosen_some m given

shift_kept : (place : ℕ) (top : Top) → Stays (2 ^ (place + 1)) (shift_answer place top)
shift_kept place top x y z h k = shifted_below place x (top_answer place top x z) h (top_answer_below place top x z)

pub shift_long : (place : ℕ) (set : Form) (top : Top) → length (shift_bits place top (known_bits (place + 1) set)) ≡ place + 1
shift_long place set top = let bits = known_bits (place + 1) set in
    omega (arith, known_long (place + 1) set, length-append (drop 1 bits) (top_bit place top bits ∷ []), length-drop 1 bits)

pub shift_normal : SetLaws → (place : ℕ) (set : Form) (top : Top) → IsNormal (2 ^ (place + 1)) set
    → IsNormal (2 ^ (place + 1)) (shift_set place set top)
unfolding shift_set
shift_normal laws place set top n = moved_normal laws (place + 1) (shift_answer place top) set (top_carry top) _
    (shift_long place set top) (shift_kept place top) (top_some (2 ^ (place + 1)) top) n

pub shift_has : SetLaws → (place x bit : ℕ) (set : Form) (top : Top) → IsNormal (2 ^ (place + 1)) set
    → Has (2 ^ (place + 1)) set x → IsTop place top x bit
    → Has (2 ^ (place + 1)) (shift_set place set top) (shifted_right place x bit)
unfolding shift_set
shift_has laws place x bit set top n h is =
    let found = top_choice (2 ^ (place + 1)) place top x bit is in
    moved_has laws (place + 1) x found.0 (shifted_right place x bit) (shift_answer place top) set (top_carry top) _
    (shift_long place set top) (shift_kept place top) n h found.1 found.2
    (shift_agrees place top (known_bits (place + 1) set) x bit (known_long (place + 1) set) (known_agrees (place + 1) x set n h) is)

lowest_some : (m : ℕ) (lowest : Lowest) → 1 ≤ length (members m (lowest_carry lowest))
lowest_some m High = omega arith
lowest_some m (Given given) = chosen_some m given

left_kept : (place : ℕ) (lowest : Lowest) → Stays (2 ^ (place + 1)) (left_answer place lowest)
left_kept place lowest x y z h k = left_below place x (lowest_answer place lowest x z) (lowest_answer_below place lowest x z)

pub left_long : (place : ℕ) (set : Form) (lowest : Lowest) → length (left_bits place lowest (known_bits (place + 1) set)) ≡ place + 1
left_long place set lowest = let bits = known_bits (place + 1) set in let long = known_long (place + 1) set in
    omega (arith, length-take-le place bits (omega (arith, long)))

pub left_normal : SetLaws → (place : ℕ) (set : Form) (lowest : Lowest) → IsNormal (2 ^ (place + 1)) set
    → IsNormal (2 ^ (place + 1)) (left_set place set lowest)
unfolding left_set
left_normal laws place set lowest n = moved_normal laws (place + 1) (left_answer place lowest) set (lowest_carry lowest) _
    (left_long place set lowest) (left_kept place lowest) (lowest_some (2 ^ (place + 1)) lowest) n

pub left_has : SetLaws → (place x bit : ℕ) (set : Form) (lowest : Lowest) → IsNormal (2 ^ (place + 1)) set
    → Has (2 ^ (place + 1)) set x → IsLowest place lowest x bit
    → Has (2 ^ (place + 1)) (left_set place set lowest) (shifted_left place x bit)
unfolding left_set
left_has laws place x bit set lowest n h is =
    let found = lowest_choice (2 ^ (place + 1)) place lowest x bit is in
    moved_has laws (place + 1) x found.0 (shifted_left place x bit) (left_answer place lowest) set (lowest_carry lowest) _
    (left_long place set lowest) (left_kept place lowest) n h found.1 found.2
    (left_agrees place lowest (known_bits (place + 1) set) x bit (known_long (place + 1) set) (known_agrees (place + 1) x set n h) is)

-- ---- decimal operations

either_way : (P : Form → Type 0) (b : Bool) (x y : Form) → (b ≡ true → P x) → (b ≡ false → P y) → P (cond b x y)
either_way P true x y one other = one refl
either_way P false x y one other = other refl

sixteen_positive : (digits : ℕ) → 0 < 16 ^ digits
sixteen_positive digits = let below = digits_below digits 0 in omega (arith, below)

decimal_kept : (digits : ℕ) → Stays (16 ^ digits) (decimal_sum digits)
decimal_kept digits x y z h k = digits_below digits (decimal_total digits x y z)

pub decimal_add_normal : SetLaws → (digits : ℕ) (a b : Form) (carry : Tri) → IsNormal (16 ^ digits) a
    → IsNormal (16 ^ digits) b → IsNormal (16 ^ digits) (decimal_add_set digits a b carry)
unfolding decimal_add_set
decimal_add_normal laws digits a b carry n k = let m = 16 ^ digits in let pos = sixteen_positive digits in
    either_way (λ s. IsNormal m s) (are_decimal digits a && are_decimal digits b) (combine_or m (decimal_sum digits) a b (chosen carry) (any m)) (any m)
    (λ _. choose_normal laws m (decimal_sum digits) a b (chosen carry) (any m) n k (chosen_some m carry) (decimal_kept digits) (laws.whole_normal m pos))
    (λ _. laws.whole_normal m pos)

pub decimal_add_has : SetLaws → (digits x y bit : ℕ) (a b : Form) (carry : Tri) → IsNormal (16 ^ digits) a → IsNormal (16 ^ digits) b
    → Has (16 ^ digits) a x → Has (16 ^ digits) b y → IsBit carry bit
    → Has (16 ^ digits) (decimal_add_set digits a b carry) (decimal_sum digits x y bit)
unfolding decimal_add_set
decimal_add_has laws digits x y bit a b carry n k h i is = let m = 16 ^ digits in let pos = sixteen_positive digits in
    let all = laws.whole m (decimal_sum digits x y bit) (digits_below digits (decimal_total digits x y bit)) in
    either_way (λ s. Has m s (decimal_sum digits x y bit)) (are_decimal digits a && are_decimal digits b) (combine_or m (decimal_sum digits) a b (chosen carry) (any m)) (any m)
    (λ _. choose_has laws m (decimal_sum digits) a b (chosen carry) (any m) x y bit n k (decimal_kept digits) h i (chosen_has m bit carry is) all)
    (λ _. all)

pub decimal_add_free : SetLaws → (digits x y v : ℕ) (a b : Form) (carry : Tri) → Has (16 ^ digits) a x → Has (16 ^ digits) b y
    → IsFalse (is_decimal digits x && is_decimal digits y) → v < 16 ^ digits → Has (16 ^ digits) (decimal_add_set digits a b carry) v
unfolding decimal_add_set
decimal_add_free laws digits x y v a b carry h i unclear below = let m = 16 ^ digits in
    either_way (λ s. Has m s v) (are_decimal digits a && are_decimal digits b) (combine_or m (decimal_sum digits) a b (chosen carry) (any m)) (any m)
    (λ all. let each = and_parts (are_decimal digits a) (are_decimal digits b) all in
    let first : is_decimal digits x ≡ true = decimal_member digits x a each.0 h in
    let second : is_decimal digits y ≡ true = decimal_member digits y b each.1 i in
    absurd (cc (first, second, unclear)))
    (λ _. laws.whole m v below)

adjust_kept : Stays 256 decimal_adjusted
adjust_kept x y z h k = adjusted_below x y z

pub adjust_normal : SetLaws → (set : Form) (carry half : Tri) → IsNormal 256 set → IsNormal 256 (decimal_adjust_set set carry half)
unfolding decimal_adjust_set
adjust_normal laws set carry half n = choose_normal laws 256 decimal_adjusted set (chosen carry) (chosen half) (any 256) n (chosen_normal 256 carry (omega arith)) (chosen_some 256 half)
    adjust_kept (laws.whole_normal 256 (omega arith))

pub adjust_has : SetLaws → (x y z : ℕ) (set : Form) (carry half : Tri) → IsNormal 256 set → Has 256 set x → IsBit carry y → IsBit half z
    → Has 256 (decimal_adjust_set set carry half) (decimal_adjusted x y z)
unfolding decimal_adjust_set
adjust_has laws x y z set carry half n h is too = choose_has laws 256 decimal_adjusted set (chosen carry) (chosen half) (any 256) x y z n (chosen_normal 256 carry (omega arith))
    adjust_kept h (chosen_has 256 y carry is) (chosen_has 256 z half too) (laws.whole 256 (decimal_adjusted x y z) (adjusted_below x y z))
