-- Bits of numbers that agree with what is known of them, and those of a bank's address and of PSW.
use Rattle.std.proofs.Common.{◌≡◌, ℕ, ◌+◌, ◌*◌, ◌/◌, ◌%◌, ◌<◌, Bool, Option, List, [], ◌∷◌, length, get_or, subst, arith}
use Rattle.std.proofs.lemmas.List.FromFn.{get_or-map-range_with_len}
use Rattle.value_bits.specs.BitFacts.{bits_at}
use Rattle.value_bits.specs.declared.tri.Tri.{Tri}
use Rattle.value_bits.specs.declared.tri.Tri.TheVariants.{Either}
use Rattle.value_bits.specs.Bits.{Agrees, IsBit, known_bit, known_bits}
use Rattle.value_set.specs.declared.form.Form.{Form}
use Rattle.mcs51_state.specs.Operands.{bank_bits}
use Rattle.mcs51_chip.specs.declared.state.ChipState.{ChipState}
use Rattle.mcs51_chip.specs.Registers.{carry_of}
use Rattle.mcs51_state.specs.Known.{Known}
use Rattle.mcs51_state.specs.Under.{IsUnder}
use Rattle.mcs51_state.specs.Reading.{carry, status_bits}

pub known_is : (set : Form) (place : ℕ) → place < 8 → get_or (known_bits 8 set) place Either ≡ known_bit 8 place set
known_is set place small = get_or-map-range_with_len (λ n. known_bit 8 n set) 0 8 place place Either small (omega arith)

-- the address of R0
pub bank_agrees : (bits : List Tri) (psw : ℕ) → length bits ≡ 6 → Agrees bits (psw / 4) → Agrees (bank_bits bits) (8 * (psw / 8 % 4))
bank_agrees [] psw six h = absurd (omega (arith, six))
bank_agrees (b ∷ []) psw six h = absurd (omega (arith, six))
bank_agrees (b ∷ c ∷ []) psw six h = absurd (omega (arith, six))
bank_agrees (b ∷ c ∷ d ∷ more) psw six h =
    let x = 8 * (psw / 8 % 4) in
    let low : psw / 4 / 2 % 2 ≡ x / 2 / 2 / 2 % 2 = omega arith in
    let high : psw / 4 / 2 / 2 % 2 ≡ x / 2 / 2 / 2 / 2 % 2 = omega arith in
    (omega arith, (omega arith, (omega arith, (subst (IsBit c) low h.1.0, (subst (IsBit d) high h.1.1.0, (omega arith, (omega arith, (omega arith, omega arith))))))))

-- PSW as it is read, with bits that it doesn't hold
pub status_agrees : (bits : List Tri) (psw y : ℕ) → psw % 4 ≡ 0 → y < 4 → Agrees bits (psw / 4) → Agrees (status_bits bits) (psw + y)
status_agrees bits psw y held few h =
    let same : psw / 4 ≡ (psw + y) / 2 / 2 = omega (arith, held, few) in
    (omega arith, (omega arith, subst (Agrees bits) same h))

-- CY is the last one that PSW holds, and its bit 7
pub carry_is : (framed : Bool) (known : Known) (s : ChipState) (first : Option ChipState) → IsUnder framed known s first
    → IsBit (carry known) (carry_of s)
carry_is framed known s first under =
    let held = under.holds.parts.psw in
    let none = under.holds.state.psw_held in
    let same : s.psw + 0 ≡ s.psw = omega arith in
    bits_at (status_bits known.psw.bits) 7 s.psw (subst (Agrees (status_bits known.psw.bits)) same (status_agrees known.psw.bits s.psw 0 none (omega arith) held.bits))
