-- Logic operations on known bits.
use Rattle.std.proofs.Common.{ℕ, ◌^◌, sym, subst}
use Rattle.std.specs.Int.{bit_at}
use Rattle.std.proofs.lemmas.Nat.{pow_pos}
use Rattle.std.proofs.lemmas.Nat.Bits.{bit_at_and, bit_at_or, bit_at_xor}
use Rattle.value_set.specs.declared.form.Form.{Form}
use Rattle.value_set.specs.Form.{Has, IsNormal}
use Rattle.value_bits.specs.declared.tri.Tri.{Tri}
use Rattle.value_bits.specs.declared.tri.Logic.{Logic}
use Rattle.value_bits.specs.declared.tri.Logic.TheVariants.{And, Or, Xor}
use Rattle.value_bits.specs.Bits.{IsBit, Agrees, known_bit, logic_of, tri_and, tri_or, tri_xor, tri_logic}
use Rattle.value_bits.specs.BitFacts.{and_bit, or_bit, xor_bit}
use Rattle.value_bits.specs.Sets.{logic_bits}
use Rattle.value_bits.specs.Staying.{logic_stays}
use Rattle.value_bits.proofs.Within.{member_below}
use Rattle.value_bits.proofs.Known.{known_bit_is, agrees_by_places}

logic_bit : (logic : Logic) (a b : Tri) (x y place : ℕ) → IsBit a (bit_at x place) → IsBit b (bit_at y place)
    → IsBit (tri_logic logic a b) (bit_at (logic_of logic x y) place)
logic_bit And a b x y place h k = subst (λ (bit : ℕ). IsBit (tri_and a b) bit) (sym (bit_at_and x y place)) (and_bit a b (bit_at x place) (bit_at y place) h k)
logic_bit Or a b x y place h k = subst (λ (bit : ℕ). IsBit (tri_or a b) bit) (sym (bit_at_or x y place)) (or_bit a b (bit_at x place) (bit_at y place) h k)
logic_bit Xor a b x y place h k = subst (λ (bit : ℕ). IsBit (tri_xor a b) bit) (sym (bit_at_xor x y place)) (xor_bit a b (bit_at x place) (bit_at y place) h k)

pub logic_agrees : (w : ℕ) (logic : Logic) (first second : Form) (x y : ℕ) → IsNormal (2 ^ w) first → IsNormal (2 ^ w) second
    → Has (2 ^ w) first x → Has (2 ^ w) second y → Agrees (logic_bits w logic first second) (logic_of logic x y)
logic_agrees w logic first second x y n o h k =
    let positive = pow_pos w in
    agrees_by_places (λ place. tri_logic logic (known_bit w place first) (known_bit w place second)) (logic_of logic x y) w
    (λ i within. logic_bit logic (known_bit w i first) (known_bit w i second) x y i (known_bit_is w i x first within h) (known_bit_is w i y second within k))
    (logic_stays w logic x y 0 (member_below (2 ^ w) x first positive n h) (member_below (2 ^ w) y second positive o k) positive)
