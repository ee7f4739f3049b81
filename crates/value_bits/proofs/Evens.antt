-- Sets of even numbers: their lowest bit is known, and what keeps it.
use Rattle.std.proofs.Common.{◌≡◌, ℕ, ◌+◌, ◌-◌, ◌*◌, ◌/◌, ◌%◌, ◌^◌, ◌≤◌, ◌&&◌, Bool, true, false, List, [], ◌∷◌, map, length, get_or, min, refl, sym, ◌∙◌, ap, subst, inl, inr, arith, eqb, ltb}
use Prim.Native.Nat.{zero, suc}
use Rattle.std.specs.List.{Contains, list_all, flat_map, range_with_len}
use Rattle.std.specs.Int.{bit_at}
use Rattle.std.proofs.Math.Nat.{pow-suc, mod-mod_of_dvd, dvd_of_mod-eq-zero}
use Rattle.std.proofs.lemmas.Bool.{cases_lt, eq-eqb, ne_eqb, or_left}
use Rattle.std.proofs.lemmas.Nat.Bits.{bit_at_and}
use Rattle.std.proofs.lemmas.List.FromFn.{length-map-range_with_len, get_or-map-range_with_len}
use Rattle.value_set.specs.declared.form.Progression.{Progression}
use Rattle.value_set.specs.declared.form.Form.{Form}
use Rattle.value_set.specs.declared.form.Form.TheVariants.{Values, Run}
use Rattle.value_set.specs.Form.{IsNormal}
use Rattle.value_set.specs.Remainders.{HasRemainder}
use Rattle.value_set.specs.Summing.{single, count_of}
use Rattle.value_set.specs.Widening.{last_of}
use Rattle.value_bits.specs.declared.tri.Tri.{Tri}
use Rattle.value_bits.specs.declared.tri.Tri.TheVariants.{Zero, One, Either}
use Rattle.value_bits.specs.declared.tri.Logic.TheVariants.{And}
use Rattle.value_bits.specs.Bits.{is_fixed, known_bit, known_bits, choices, numbers, filled, least, greatest, unknown_count, lowest_unknown, from_bits, logic_of, tri_and, tri_logic}
use Rattle.value_bits.specs.Sets.{logic_bits, logic_set}
use Rattle.value_set.specs.Laws.{SetLaws}
use Rattle.value_set.specs.ListFacts.{IsIn, in_from_Contains, Contains_from_in, in_mapped, in_flat, all_in}
use Rattle.value_bits.proofs.Within.{steps_has}
use Rattle.value_bits.proofs.Fillings.{few_numbers}
use Rattle.value_bits.proofs.Agreeing.{few_value, many_value}
use Rattle.value_bits.proofs.Choosing.{combine_few, combine_many}
use Rattle.value_bits.proofs.FormulaLaws.{number_below, results_below, logic_kept}

pub even_modulus : (w : ℕ) → 1 ≤ w → 2 ^ w % 2 ≡ 0
even_modulus zero h = absurd (omega arith)
even_modulus (suc w) h = let power = pow-suc 2 w in omega (arith, power)

-- ---- the set of bits of which the lowest is known

-- a known bit
abbrev pub IsKnown : Tri → ℕ → Type 0
IsKnown Zero bit = bit ≡ 0
IsKnown One bit = bit ≡ 1
IsKnown Either bit = ⊥

longer_remainder : (v bit : ℕ) (b : Tri) (xs : List ℕ) → IsKnown b bit
    → IsIn v (flat_map (λ n. map (λ low. 2 * n + low) (choices b)) xs) → v % 2 ≡ bit
longer_remainder v bit Zero xs known i =
    let outer = in_flat (λ n. map (λ low. 2 * n + low) (0 ∷ [])) v xs i in
    let inner = in_mapped (λ low. 2 * outer.0 + low) v (0 ∷ []) outer.2 in
    elim inner.1 [ inl e ↦ omega (arith, known, e, inner.2) | inr none ↦ absurd none ]
longer_remainder v bit One xs known i =
    let outer = in_flat (λ n. map (λ low. 2 * n + low) (1 ∷ [])) v xs i in
    let inner = in_mapped (λ low. 2 * outer.0 + low) v (1 ∷ []) outer.2 in
    elim inner.1 [ inl e ↦ omega (arith, known, e, inner.2) | inr none ↦ absurd none ]
longer_remainder v bit Either xs known i = absurd known

numbers_remainder : (bits : List Tri) (bit : ℕ) → IsKnown (get_or bits 0 Either) bit → (v : ℕ) → Contains (numbers bits) v → v % 2 ≡ bit
unfolding numbers
numbers_remainder [] bit known v there = absurd known
numbers_remainder (b ∷ bs) bit known v there = longer_remainder v bit b (numbers bs) known (in_from_Contains (numbers (b ∷ bs)) v there)

least_remainder : (bits : List Tri) (bit : ℕ) → IsKnown (get_or bits 0 Either) bit → least bits % 2 ≡ bit
unfolding filled
least_remainder [] bit known = absurd known
least_remainder (Zero ∷ bs) bit known = omega (arith, known)
least_remainder (One ∷ bs) bit known = omega (arith, known)
least_remainder (Either ∷ bs) bit known = absurd known

stride_even : (bits : List Tri) (bit : ℕ) → IsKnown (get_or bits 0 Either) bit → 2 ^ lowest_unknown bits % 2 ≡ 0
stride_even [] bit known = absurd known
stride_even (Zero ∷ bs) bit known = even_modulus (lowest_unknown (Zero ∷ bs)) (omega arith)
stride_even (One ∷ bs) bit known = even_modulus (lowest_unknown (One ∷ bs)) (omega arith)
stride_even (Either ∷ bs) bit known = absurd known

known_some : (bits : List Tri) (bit : ℕ) → IsKnown (get_or bits 0 Either) bit → 1 ≤ length bits
known_some [] bit known = absurd known
known_some (b ∷ bs) bit known = omega arith

pub bits_remainder : SetLaws → (w : ℕ) (bits : List Tri) (bit : ℕ) → length bits ≡ w
    → IsKnown (get_or bits 0 Either) bit → HasRemainder (2 ^ w) 2 bit (from_bits w bits)
bits_remainder laws w bits bit long known =
    let even = even_modulus w (omega (arith, long, known_some bits bit known)) in
    elim (cases_lt 4 (unknown_count bits)) [
      | inr few ↦ subst (λ (s : Form). HasRemainder (2 ^ w) 2 bit s) (few_value w bits _ refl few)
          (laws.gather_remainder (2 ^ w) 2 bit (numbers bits) even (few_numbers bits few).0 (number_below w bits long) (numbers_remainder bits bit known))
      | inl many ↦ subst (λ (s : Form). HasRemainder (2 ^ w) 2 bit s) (many_value w bits _ refl many)
          (λ v h. laws.run_remainder (2 ^ w) 2 (least bits) (2 ^ lowest_unknown bits) ((greatest bits - least bits) / 2 ^ lowest_unknown bits + 1) even (stride_even bits bit known) v h
          ∙ least_remainder bits bit known)
    ]

-- ---- the lowest bit of a set

list_refused : (p : ℕ → Bool) (x : ℕ) (xs : List ℕ) → p x ≡ false → list_all p (x ∷ xs) ≡ false
list_refused p x xs h = rw h refl

list_known : (w : ℕ) (xs : List ℕ) → 1 ≤ length xs → ((v : ℕ) → IsIn v xs → v % 2 ≡ 0) → known_bit w 0 (Values xs) ≡ Zero
unfolding known_bit
list_known w [] some each = absurd (omega arith)
list_known w (x ∷ xs) some each =
    let low = each x (inl refl) in
    let zero_here : bit_at x 0 ≡ 1 → ⊥ = λ e. omega (arith, low, e) in
    let first = list_refused (λ v. eqb (bit_at v 0) 1) x xs (ne_eqb (bit_at x 0) 1 zero_here) in
    let all = all_in (λ v. eqb (bit_at v 0) 0) (x ∷ xs) (λ v i. let e = each v i in eq-eqb (bit_at v 0) 0 (omega (arith, e))) in
    rw (first, all) refl

run_known : (w : ℕ) (p : Progression) → p.base % 2 ≡ 0 → p.stride % 2 ≡ 0 → known_bit w 0 (Run p) ≡ Zero
unfolding known_bit
run_known w p base stride =
    let power : 2 ^ (0 + 1) ≡ 2 = omega arith in
    let whole : p.stride % 2 ^ (0 + 1) ≡ 0 = ap (λ (n : ℕ). p.stride % n) power ∙ stride in
    let fixed : is_fixed w 0 p ≡ true = or_left (eqb (p.stride % 2 ^ (0 + 1)) 0) (ltb (last_of p) (2 ^ w) && eqb (p.base / 2 ^ 0) (last_of p / 2 ^ 0)) (eq-eqb (p.stride % 2 ^ (0 + 1)) 0 whole) in
    let low : bit_at p.base 0 ≡ 0 = omega (arith, base) in
    rw (fixed, low) refl

-- the first two numbers of a run
run_even : (m : ℕ) (p : Progression) → m % 2 ≡ 0 → IsNormal m (Run p) → HasRemainder m 2 0 (Run p) → (p.base % 2 ≡ 0) × (p.stride % 2 ≡ 0)
run_even m p even form each =
    let long = form.long in
    let first = each ((p.base + 0 * p.stride) % m) (steps_has m p.base p.stride p.count _ 0 (omega (arith, long)) refl) in
    let second = each ((p.base + 1 * p.stride) % m) (steps_has m p.base p.stride p.count _ 1 (omega (arith, long)) refl) in
    let base : (p.base + 0 * p.stride) % 2 ≡ 0 = sym (mod-mod_of_dvd 2 (p.base + 0 * p.stride) (dvd_of_mod-eq-zero 2 even)) ∙ first in
    let next : (p.base + 1 * p.stride) % 2 ≡ 0 = sym (mod-mod_of_dvd 2 (p.base + 1 * p.stride) (dvd_of_mod-eq-zero 2 even)) ∙ second in
    (omega (arith, base), omega (arith, base, next))

pub even_known : (w : ℕ) (set : Form) → 1 ≤ w → IsNormal (2 ^ w) set → HasRemainder (2 ^ w) 2 0 set → known_bit w 0 set ≡ Zero
even_known w (Values xs) wide form each = list_known w xs form.0 (λ v i. each v (Contains_from_in xs v i))
even_known w (Run p) wide form each = let evens = run_even (2 ^ w) p (even_modulus w wide) form each in run_known w p evens.0 evens.1

-- ---- AND

and_zero : (b : Tri) → tri_and b Zero ≡ Zero
and_zero Zero = refl
and_zero One = refl
and_zero Either = refl

lowest_of : (f : ℕ → Tri) (w : ℕ) → 1 ≤ w → get_or (map f (range_with_len 0 w)) 0 Either ≡ f 0
lowest_of f w wide = get_or-map-range_with_len f 0 w 0 0 Either (omega (arith, wide)) (omega arith)

pub lowest_known : (w : ℕ) (set : Form) → 1 ≤ w → IsNormal (2 ^ w) set → HasRemainder (2 ^ w) 2 0 set
    → get_or (known_bits w set) 0 Either ≡ Zero
lowest_known w set wide form each = lowest_of (λ place. known_bit w place set) w wide ∙ even_known w set wide form each

and_even : (x y : ℕ) → y % 2 ≡ 0 → logic_of And x y % 2 ≡ 0
and_even x y even =
    let low : bit_at y 0 ≡ 0 = omega (arith, even) in
    let both : bit_at (logic_of And x y) 0 ≡ min (bit_at x 0) (bit_at y 0) = bit_at_and x y 0 in
    let none : bit_at (logic_of And x y) 0 ≡ 0 = omega (arith, both, low) in
    omega (arith, none)

pub and_even_set : SetLaws → (w : ℕ) (a b : Form) → 1 ≤ w → IsNormal (2 ^ w) a → IsNormal (2 ^ w) b
    → HasRemainder (2 ^ w) 2 0 b → HasRemainder (2 ^ w) 2 0 (logic_set w And a b)
unfolding logic_set
and_even_set laws w a b wide n k each =
    let bits = logic_bits w And a b in
    let lowest : get_or (logic_bits w And a b) 0 Either ≡ Zero =
    lowest_of (λ place. tri_logic And (known_bit w place a) (known_bit w place b)) w wide ∙ ap (λ (t : Tri). tri_and (known_bit w 0 a) t) (even_known w b wide k each) ∙ and_zero (known_bit w 0 a) in
    let long = length-map-range_with_len (λ (place : ℕ). tri_logic And (known_bit w place a) (known_bit w place b)) 0 w in
    let known : IsKnown (get_or (logic_bits w And a b) 0 Either) 0 = subst (λ (t : Tri). IsKnown t 0) (sym lowest) refl in
    elim (cases_lt 256 (count_of (2 ^ w) a * (count_of (2 ^ w) b * count_of (2 ^ w) (single 0)))) [
      | inr few ↦ subst (λ (s : Form). HasRemainder (2 ^ w) 2 0 s) (combine_few (2 ^ w) (λ x y z. logic_of And x y) a b (single 0) (from_bits w bits) _ refl few)
          (laws.results_remainder (2 ^ w) 2 0 (λ x y z. logic_of And x y) a b (single 0) (even_modulus w wide) (laws.some (2 ^ w) a n) (laws.some (2 ^ w) b k) (omega arith)
          (results_below laws (2 ^ w) (λ x y z. logic_of And x y) a b (single 0) n k (logic_kept w And))
          (λ x y z h i j. and_even x y (each y i)))
      | inl many ↦ subst (λ (s : Form). HasRemainder (2 ^ w) 2 0 s) (combine_many (2 ^ w) (λ x y z. logic_of And x y) a b (single 0) (from_bits w bits) _ refl many)
          (bits_remainder laws w bits 0 long known)
    ]
