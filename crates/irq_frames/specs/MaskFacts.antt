-- A status behind the masks of its relation, bit by bit: definitions and lemmas, also for the proofs of crates above.
use Rattle.std.proofs.Common.{◌≡◌, ℕ, suc, ◌+◌, ◌-◌, ◌*◌, ◌/◌, ◌%◌, ◌^◌, ◌<◌, true, Option, None, Some, List, [], ◌∷◌, length, refl, sym, ap, ◌∙◌, subst, inl, inr, arith, bit_and, bit_or}
use Rattle.std.specs.Prelude.{◌⊎◌, ◌==◌}
use Rattle.std.specs.Int.Bits.{or_zero_r}
use Rattle.std.proofs.Math.Nat.{pow-suc}
use Rattle.std.proofs.lemmas.Bool.{and_parts, cases_Bool, eqb-true}
use Rattle.std.proofs.lemmas.Nat.{and_mask, and_mod, and_shr, or_mod, or_shr}
use Rattle.value_bits.specs.declared.tri.Tri.{Tri}
use Rattle.value_bits.specs.Bits.{IsBit, Agrees}
use Rattle.plain_lemmas.specs.Small.{not_one}
use Rattle.entry_value.specs.declared.word.Entry.{Entry}
use Rattle.entry_value.specs.Words.{Suspended, Reads, IsFromEntry}
use Rattle.irq_frames.specs.Masking.{masked_bit, masked_bits}
use Rattle.irq_frames.specs.Resuming.{is_itself, is_unmasked}

-- the lowest bits of a number are these
abbrev pub Low : List Tri → ℕ → Type 0
Low [] v = Unit {0}
Low (bit ∷ bits) v = IsBit bit (v % 2) × Low bits (v / 2)

pub low_from : (bits : List Tri) (v : ℕ) → Agrees bits v → Low bits v
low_from [] v h = tt
low_from (bit ∷ bits) v h = (h.0, low_from bits (v / 2) h.1)

pub low_agrees : (bits : List Tri) (v : ℕ) → v < 2 ^ length bits → Low bits v → Agrees bits v
low_agrees [] v small h = omega (arith, small)
low_agrees (bit ∷ bits) v small h =
    let power : 2 ^ suc (length bits) ≡ 2 ^ length bits * 2 = pow-suc 2 (length bits) in
    (h.0, low_agrees bits (v / 2) (omega (arith, small, power)) h.1)

-- bits above them don't count
pub low_wider : (bits : List Tri) (v y : ℕ) → Low bits v → Low bits (v + 2 ^ length bits * y)
low_wider [] v y h = tt
low_wider (bit ∷ bits) v y h =
    let power : 2 ^ suc (length bits) ≡ 2 ^ length bits * 2 = pow-suc 2 (length bits) in
    let double : 2 ^ suc (length bits) * y ≡ 2 * (2 ^ length bits * y) = omega (arith, ap (λ n. n * y) power) in
    let low : v % 2 ≡ (v + 2 ^ suc (length bits) * y) % 2 = omega (arith, double) in
    let high : v / 2 + 2 ^ length bits * y ≡ (v + 2 ^ suc (length bits) * y) / 2 = omega (arith, double) in
    (subst (IsBit bit) low h.0, subst (Low bits) high (low_wider bits (v / 2) y h.1))

-- one bit
either_bit : (n : ℕ) → (n % 2 ≡ 0) ⊎ (n % 2 ≡ 1)
either_bit n =
    elim (cases_Bool (n % 2 == 1)) [ inl one ↦ inr (eqb-true (n % 2) 1 one) | inr none ↦ inl (not_one (n % 2) (omega arith) none) ]

masked_number : (and or w : ℕ) → bit_or (bit_and w and) or % 2 ≡ bit_or (bit_and (w % 2) (and % 2)) (or % 2)
masked_number and or w = or_mod (bit_and w and) or 1 ∙ ap (λ n. bit_or n (or % 2)) (and_mod w and 1)

bit_masked : (and or w : ℕ) (bit : Tri) → IsBit bit (w % 2) → (and % 2 ≡ 0) ⊎ (and % 2 ≡ 1)
    → (or % 2 ≡ 0) ⊎ (or % 2 ≡ 1) → (w % 2 ≡ 0) ⊎ (w % 2 ≡ 1)
    → IsBit (masked_bit and or bit) (bit_or (bit_and (w % 2) (and % 2)) (or % 2))
bit_masked and or w bit is (inl a) (inl o) (inl v) = rw (a, o, v) refl
bit_masked and or w bit is (inl a) (inl o) (inr v) = rw (a, o, v) refl
bit_masked and or w bit is (inr a) (inl o) (inl v) = rw (a, o, v) (rw v at is)
bit_masked and or w bit is (inr a) (inl o) (inr v) = rw (a, o, v) (rw v at is)
bit_masked and or w bit is (inl a) (inr o) (inl v) = rw (a, o, v) refl
bit_masked and or w bit is (inl a) (inr o) (inr v) = rw (a, o, v) refl
bit_masked and or w bit is (inr a) (inr o) (inl v) = rw (a, o, v) refl
bit_masked and or w bit is (inr a) (inr o) (inr v) = rw (a, o, v) refl

pub masked_low : (bits : List Tri) (and or w : ℕ) → Low bits w → Low (masked_bits and or bits) (bit_or (bit_and w and) or)
masked_low [] and or w h = tt
masked_low (bit ∷ bits) and or w h =
    let half : bit_or (bit_and (w / 2) (and / 2)) (or / 2) ≡ bit_or (bit_and w and) or / 2 =
    sym (or_shr (bit_and w and) or 1 ∙ ap (λ n. bit_or n (or / 2)) (and_shr w and 1)) in (
      subst (IsBit (masked_bit and or bit)) (sym (masked_number and or w)) (bit_masked and or w bit h.0 (either_bit and) (either_bit or) (either_bit w)),
      subst (Low (masked_bits (and / 2) (or / 2) bits)) half (masked_low bits (and / 2) (or / 2) (w / 2) h.1),
    )

pub masked_length : (and or : ℕ) (bits : List Tri) → length (masked_bits and or bits) ≡ length bits
masked_length and or [] = refl
masked_length and or (bit ∷ bits) = ap suc (masked_length (and / 2) (or / 2) bits)

-- RELATIONS THAT KEEP EACH BIT

pub unmasked_is : (width : ℕ) (entry : Entry) (v : ℕ) → is_unmasked (2 ^ width - 1) entry ≡ true
    → bit_or (bit_and v entry.and) entry.or ≡ v % 2 ^ width
unmasked_is width entry v whole =
    let last = 2 ^ width - 1 in
    let parts = and_parts (entry.and == last) (entry.or == 0) whole in
    ap (bit_or (bit_and v entry.and)) (eqb-true entry.or 0 parts.1) ∙ or_zero_r (bit_and v entry.and)
    ∙ ap (bit_and v) (eqb-true entry.and last parts.0) ∙ and_mask v width

-- a value that is what a place held is a number that the place may be read as
pub itself_read : (width : ℕ) (f : Suspended) (place v : ℕ) (entry : Option Entry)
    → is_itself (2 ^ width - 1) place entry ≡ true → IsFromEntry (Some f) entry v
    → (word : ℕ) × Reads f place word × (v ≡ word % 2 ^ width)
itself_read width f place v None is from = absurd (cc)
itself_read width f place v (Some entry) is (word, reads, made) =
    let parts = and_parts (entry.place == place) (is_unmasked (2 ^ width - 1) entry) is in
    (word, subst (λ p. Reads f p word) (eqb-true entry.place place parts.0) reads, made ∙ unmasked_is width entry word parts.1)
