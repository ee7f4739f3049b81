-- CY among the bits of PSW.
use Rattle.std.proofs.Common.{◌≡◌, ℕ, zero, suc, ◌+◌, ◌*◌, ◌/◌, ◌%◌, ◌^◌, ◌<◌, ◌==◌, Bool, true, false, List, [], ◌∷◌, ◌++◌, length, set, take, refl, sym, ap, ◌∙◌, subst, arith}
use Rattle.std.specs.Prelude.{not, slice_index_or}
use Rattle.std.specs.Int.{bit_at}
use Rattle.std.proofs.lemmas.List.{length-set, length-take-le, take_all, take_more_set}
use Rattle.value_bits.specs.declared.tri.Tri.{Tri}
use Rattle.value_bits.specs.declared.tri.Tri.TheVariants.{Either}
use Rattle.value_bits.specs.BitFacts.{bit_may, bits_append, bits_at, bits_put, bits_take}
use Rattle.value_bits.specs.Bits.{IsBit, Agrees, may_be}
use Rattle.mcs51_chip.specs.Registers.{bit_of}

carry_place : (psw : ℕ) → bit_at (psw / 4) 5 ≡ bit_at psw 7
carry_place psw = omega arith

pub carry_there : (bits : List Tri) (psw : ℕ) → Agrees bits (psw / 4) → IsBit (slice_index_or bits 5 Either) (bit_at psw 7)
carry_there bits psw agrees = subst (IsBit (slice_index_or bits 5 Either)) (carry_place psw) (bits_at bits 5 (psw / 4) agrees)

pub carry_seen : (bits : List Tri) (psw : ℕ) (bit : Tri) → length bits ≡ 6 → Agrees bits (psw / 4)
    → IsBit bit (bit_at psw 7) → Agrees (set bits 5 bit) (psw / 4)
carry_seen bits psw bit long agrees is = bits_put bits 5 (psw / 4) bit (omega (arith, long)) agrees (subst (IsBit bit) (sym (carry_place psw)) is)

pub put_long : (bits : List Tri) (bit : Tri) → length bits ≡ 6 → length (set bits 5 bit) ≡ 6
put_long bits bit long = length-set bits 5 bit ∙ long

-- CY THAT IS WRITTEN

pub written_carry : (psw carry : ℕ) → carry < 2 → bit_at (psw % 128 + 128 * carry) 7 ≡ carry
written_carry psw carry small = omega (arith, small)

-- the other five bits stay
pub carry_put : (bits : List Tri) (psw carry : ℕ) (bit : Tri) → length bits ≡ 6 → Agrees bits (psw / 4) → carry < 2 → IsBit bit carry
    → Agrees (set bits 5 bit) ((psw % 128 + 128 * carry) / 4)
carry_put bits psw carry bit long agrees small is =
    let v = psw / 4 in
    let others = bits_take 5 bits v (v % 32) (v / 32) (omega arith) (omega arith) agrees in
    let bit_here : carry ≡ carry % 2 = omega (arith, small) in
    let none : carry / 2 ≡ 0 = omega (arith, small) in
    let joined = bits_append (take 5 bits) (bit ∷ []) (v % 32) carry others (subst (IsBit bit) bit_here is, none) in
    let five : length (take 5 bits) ≡ 5 = length-take-le 5 bits (omega (arith, long)) in
    let number : v % 32 + 2 ^ length (take 5 bits) * carry ≡ (psw % 128 + 128 * carry) / 4 =
    ap (λ n. v % 32 + 2 ^ n * carry) five ∙ omega arith in
    let list : take 5 bits ++ bit ∷ [] ≡ set bits 5 bit =
    sym (take_more_set bits 5 bit (omega (arith, long))) ∙ take_all 6 (set bits 5 bit) (omega (arith, put_long bits bit long)) in
    subst (λ l. Agrees l ((psw % 128 + 128 * carry) / 4)) list (subst (Agrees (take 5 bits ++ bit ∷ [])) number joined)

-- KNOWN BITS

pub not_clear : (bit : ℕ) → bit < 2 → (bit == 1) ≡ not (bit == 0)
not_clear zero small = refl
not_clear (suc zero) small = refl
not_clear (suc (suc n)) small = absurd (omega (arith, small))

pub flag_is_set : (flag : Bool) → (bit_of flag == 1) ≡ flag
flag_is_set true = refl
flag_is_set false = refl

-- a bit that may be so
pub flag_may : (t : Tri) (flag : Bool) → IsBit t (bit_of flag) → may_be t flag ≡ true
flag_may t flag is = subst (λ b. may_be t b ≡ true) (flag_is_set flag) (bit_may t (bit_of flag) is)
