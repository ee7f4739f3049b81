-- What is known of SR on the outcome of a jump that SR says.
use Rattle.std.proofs.Common.{◌≡◌, ℕ, zero, suc, ◌/◌, ◌%◌, ◌<◌, ◌==◌, Bool, true, List, length, set, refl, sym, ap, ◌∙◌, subst, inl, inr, arith}
use Rattle.std.specs.Prelude.{not}
use Rattle.std.proofs.lemmas.Bool.{cases_eq, eq-eqb, ne_eqb}
use Rattle.std.proofs.lemmas.List.{length-set}
use Rattle.value_bits.specs.declared.tri.Tri.{Tri}
use Rattle.value_bits.specs.declared.tri.Tri.TheVariants.{Zero, One, Either}
use Rattle.std.specs.Int.{bit_at}
use Rattle.value_bits.specs.BitFacts.{bit_known, bit_may, bits_at, bits_put}
use Rattle.value_bits.specs.Bits.{IsBit, Agrees, known_flag, may_be, tri_not, tri_xor}
use Rattle.msp430_decode.specs.declared.instr.Condition.{Condition}
use Rattle.msp430_decode.specs.declared.instr.Condition.TheVariants.{NotEqual, Equal, NoCarry, Carry, Negative, GreaterOrEqual, Less, Always}
use Rattle.msp430_chip.specs.Step.{is_taken}
use Rattle.msp430_branch.specs.Conditions.{bit_of, taken_by, known_or, with_less, bits_where}

-- C, N and V by their places
first : (sr : ℕ) → bit_at sr 0 ≡ sr % 2
first sr = omega arith

second : (sr : ℕ) → bit_at sr 1 ≡ sr / 2 % 2
second sr = omega arith

third : (sr : ℕ) → bit_at sr 2 ≡ sr / 4 % 2
third sr = omega arith

last : (sr : ℕ) → bit_at sr 8 ≡ sr / 256 % 2
last sr = omega arith

-- CONDITIONS

clear_may : (t : Tri) (bit : ℕ) → IsBit t bit → may_be (tri_not t) (bit == 0) ≡ true
clear_may Zero bit is = eq-eqb bit 0 is
clear_may One bit is = ap not (ne_eqb bit 0 (λ e. omega (arith, is, e)))
clear_may Either bit is = refl

less_may : (n v : Tri) (x y : ℕ) → IsBit n x → IsBit v y → may_be (tri_xor n v) (not (x == y)) ≡ true
less_may Zero Zero x y p q = ap (λ b. not (not b)) (eq-eqb x y (p ∙ sym q))
less_may One One x y p q = ap (λ b. not (not b)) (eq-eqb x y (p ∙ sym q))
less_may Zero One x y p q = ap not (ne_eqb x y (λ e. omega (arith, p, q, e)))
less_may One Zero x y p q = ap not (ne_eqb x y (λ e. omega (arith, p, q, e)))
less_may Zero Either x y p q = refl
less_may One Either x y p q = refl
less_may Either v x y p q = refl

greater_may : (n v : Tri) (x y : ℕ) → IsBit n x → IsBit v y → may_be (tri_not (tri_xor n v)) (x == y) ≡ true
greater_may Zero Zero x y p q = eq-eqb x y (p ∙ sym q)
greater_may One One x y p q = eq-eqb x y (p ∙ sym q)
greater_may Zero One x y p q = ap not (ne_eqb x y (λ e. omega (arith, p, q, e)))
greater_may One Zero x y p q = ap not (ne_eqb x y (λ e. omega (arith, p, q, e)))
greater_may Zero Either x y p q = refl
greater_may One Either x y p q = refl
greater_may Either v x y p q = refl

-- C, Z, N and V
record AreFour (bits : List Tri) (sr : ℕ) : Type 0 where
  carry : IsBit (bit_of bits 0) (sr % 2)
  zero_so : IsBit (bit_of bits 1) (sr / 2 % 2)
  negative : IsBit (bit_of bits 2) (sr / 4 % 2)
  overflow : IsBit (bit_of bits 8) (sr / 256 % 2)

four : (bits : List Tri) (sr : ℕ) → Agrees bits sr → AreFour bits sr
four bits sr agrees = record {
  carry = subst (IsBit (bit_of bits 0)) (first sr) (bits_at bits 0 sr agrees);
  zero_so = subst (IsBit (bit_of bits 1)) (second sr) (bits_at bits 1 sr agrees);
  negative = subst (IsBit (bit_of bits 2)) (third sr) (bits_at bits 2 sr agrees);
  overflow = subst (IsBit (bit_of bits 8)) (last sr) (bits_at bits 8 sr agrees);
}

pub taken_may : (condition : Condition) (bits : List Tri) (sr : ℕ) → Agrees bits sr
    → may_be (taken_by condition bits) (is_taken condition sr) ≡ true
taken_may NotEqual bits sr agrees = clear_may (bit_of bits 1) (sr / 2 % 2) (four bits sr agrees).zero_so
taken_may Equal bits sr agrees = bit_may (bit_of bits 1) (sr / 2 % 2) (four bits sr agrees).zero_so
taken_may NoCarry bits sr agrees = clear_may (bit_of bits 0) (sr % 2) (four bits sr agrees).carry
taken_may Carry bits sr agrees = bit_may (bit_of bits 0) (sr % 2) (four bits sr agrees).carry
taken_may Negative bits sr agrees = bit_may (bit_of bits 2) (sr / 4 % 2) (four bits sr agrees).negative
taken_may GreaterOrEqual bits sr agrees =
    let these = four bits sr agrees in greater_may (bit_of bits 2) (bit_of bits 8) (sr / 4 % 2) (sr / 256 % 2) these.negative these.overflow
taken_may Less bits sr agrees =
    let these = four bits sr agrees in less_may (bit_of bits 2) (bit_of bits 8) (sr / 4 % 2) (sr / 256 % 2) these.negative these.overflow
taken_may Always bits sr agrees = refl

-- BITS THAT BECOME KNOWN

known_clear : (bit : ℕ) → bit < 2 → IsBit (known_flag (not (bit == 0))) bit
known_clear zero small = refl
known_clear (suc zero) small = refl
known_clear (suc (suc n)) small = absurd (omega (arith, small))

-- the one bit by the other, where it is known whether they differ
shown_by : (v : Tri) (x y : ℕ) → x < 2 → IsBit v y → IsBit (tri_xor v (known_flag (not (x == y)))) x
shown_by Zero zero y xs is = subst (λ n. IsBit (tri_xor Zero (known_flag (not (0 == n)))) 0) (sym is) refl
shown_by Zero (suc zero) y xs is = subst (λ n. IsBit (tri_xor Zero (known_flag (not (1 == n)))) 1) (sym is) refl
shown_by One zero y xs is = subst (λ n. IsBit (tri_xor One (known_flag (not (0 == n)))) 0) (sym is) refl
shown_by One (suc zero) y xs is = subst (λ n. IsBit (tri_xor One (known_flag (not (1 == n)))) 1) (sym is) refl
shown_by Either x y xs is = xs
shown_by other (suc (suc n)) y xs is = absurd (omega (arith, xs))

or_shown : (t other : Tri) (bit : ℕ) → IsBit t bit → IsBit other bit → IsBit (known_or t other) bit
or_shown Zero other bit is shown = is
or_shown One other bit is shown = is
or_shown Either other bit is shown = shown

turned : (x y : ℕ) → (x == y) ≡ (y == x)
turned x y = elim (cases_eq x y) [
  | inl e ↦ eq-eqb x y e ∙ sym (eq-eqb y x (sym e))
  | inr d ↦ ne_eqb x y d ∙ sym (ne_eqb y x (λ e. d (sym e)))
]

less_put : (bits : List Tri) (sr : ℕ) → length bits ≡ 9 → Agrees bits sr
    → Agrees (with_less bits (known_flag (not (sr / 4 % 2 == sr / 256 % 2)))) sr
less_put bits sr long agrees =
    let these = four bits sr agrees in
    let x = sr / 4 % 2 in
    let y = sr / 256 % 2 in
    let less = known_flag (not (x == y)) in
    let other = known_flag (not (y == x)) in
    let n = bit_of bits 2 in
    let v = bit_of bits 8 in
    let negative : IsBit (known_or n (tri_xor v less)) x = or_shown n (tri_xor v less) x these.negative (shown_by v x y (omega arith) these.overflow) in
    let same : other ≡ less = ap (λ b. known_flag (not b)) (turned y x) in
    let overflow : IsBit (known_or v (tri_xor n less)) y = or_shown v (tri_xor n less) y these.overflow
    (subst (λ t. IsBit (tri_xor n t) y) same (shown_by n y x (omega arith) these.negative)) in
    let one = bits_put bits 2 sr (known_or n (tri_xor v less)) (omega (arith, long)) agrees (subst (IsBit (known_or n (tri_xor v less))) (sym (third sr)) negative) in
    bits_put (set bits 2 (known_or n (tri_xor v less))) 8 sr (known_or v (tri_xor n less)) (omega (arith, long, length-set bits 2 (known_or n (tri_xor v less)))) one
    (subst (IsBit (known_or v (tri_xor n less))) (sym (last sr)) overflow)

pub bits_agree : (condition : Condition) (bits : List Tri) (sr : ℕ) → length bits ≡ 9 → Agrees bits sr
    → Agrees (bits_where condition (is_taken condition sr) bits) sr
bits_agree NotEqual bits sr long agrees = bits_put bits 1 sr (known_flag (not (sr / 2 % 2 == 0))) (omega (arith, long)) agrees
    (subst (IsBit (known_flag (not (sr / 2 % 2 == 0)))) (sym (second sr)) (known_clear (sr / 2 % 2) (omega arith)))
bits_agree Equal bits sr long agrees =
    bits_put bits 1 sr (known_flag (sr / 2 % 2 == 1)) (omega (arith, long)) agrees
    (subst (IsBit (known_flag (sr / 2 % 2 == 1))) (sym (second sr)) (bit_known (sr / 2 % 2) (omega arith)))
bits_agree NoCarry bits sr long agrees = bits_put bits 0 sr (known_flag (not (sr % 2 == 0))) (omega (arith, long)) agrees
    (subst (IsBit (known_flag (not (sr % 2 == 0)))) (sym (first sr)) (known_clear (sr % 2) (omega arith)))
bits_agree Carry bits sr long agrees = bits_put bits 0 sr (known_flag (sr % 2 == 1)) (omega (arith, long)) agrees
    (subst (IsBit (known_flag (sr % 2 == 1))) (sym (first sr)) (bit_known (sr % 2) (omega arith)))
bits_agree Negative bits sr long agrees = bits_put bits 2 sr (known_flag (sr / 4 % 2 == 1)) (omega (arith, long)) agrees
    (subst (IsBit (known_flag (sr / 4 % 2 == 1))) (sym (third sr)) (bit_known (sr / 4 % 2) (omega arith)))
bits_agree GreaterOrEqual bits sr long agrees = less_put bits sr long agrees
bits_agree Less bits sr long agrees = less_put bits sr long agrees
bits_agree Always bits sr long agrees = agrees

-- THEIR COUNT

put_long : (bits : List Tri) (place : ℕ) (bit : Tri) → length bits ≡ 9 → length (set bits place bit) ≡ 9
put_long bits place bit long = length-set bits place bit ∙ long

pub bits_long : (condition : Condition) (taken : Bool) (bits : List Tri) → length bits ≡ 9 → length (bits_where condition taken bits) ≡ 9
bits_long NotEqual taken bits long = put_long bits 1 (known_flag (not taken)) long
bits_long Equal taken bits long = put_long bits 1 (known_flag taken) long
bits_long NoCarry taken bits long = put_long bits 0 (known_flag (not taken)) long
bits_long Carry taken bits long = put_long bits 0 (known_flag taken) long
bits_long Negative taken bits long = put_long bits 2 (known_flag taken) long
bits_long GreaterOrEqual taken bits long = put_long _ 8 _ (put_long bits 2 _ long)
bits_long Less taken bits long = put_long _ 8 _ (put_long bits 2 _ long)
bits_long Always taken bits long = long
