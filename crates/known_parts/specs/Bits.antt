-- What is known of one bit.
use Rattle.std.specs.Prelude.{◌≡◌, ◌⊎◌, ℕ, ◌/◌, ◌%◌, Bool, true, false, List, [], ◌∷◌}
use Rattle.std.proofs.Common.{refl, sym, subst, inl, inr}
use Rattle.std.proofs.lemmas.Bool.{and_parts}
use Rattle.value_bits.specs.declared.tri.Tri.{Tri}
use Rattle.value_bits.specs.declared.tri.Tri.TheVariants.{Zero, One, Either}
use Rattle.value_bits.specs.Bits.{IsBit, Agrees}
use Rattle.value_bits.specs.BitFacts.{bit_below}
use Rattle.value_bits.specs.Flags.{IsFlag}
use Rattle.value_bits.specs.Pointwise.{each_passes}

-- a bit is known where it is known and equal in both
abbrev pub common_bit : Tri → Tri → Tri
common_bit Zero Zero = Zero
common_bit One One = One
common_bit _ _ = Either

-- what the second knows of the bit the first knows too
abbrev pub is_bit_within : Tri → Tri → Bool
is_bit_within a Either = true
is_bit_within Zero Zero = true
is_bit_within One One = true
is_bit_within _ _ = false

-- LAWS

pub bit_itself : (a : Tri) → is_bit_within a a ≡ true
bit_itself Zero = refl
bit_itself One = refl
bit_itself Either = refl

pub bit_top : (a : Tri) → is_bit_within a Either ≡ true
bit_top Zero = refl
bit_top One = refl
bit_top Either = refl

-- the second knows nothing, or what the first knows
bit_is : (a b : Tri) → is_bit_within a b ≡ true → (b ≡ Either) ⊎ (a ≡ b)
bit_is a Either h = inl refl
bit_is Zero Zero h = inr refl
bit_is One One h = inr refl
bit_is Zero One h = absurd (cc)
bit_is One Zero h = absurd (cc)
bit_is Either Zero h = absurd (cc)
bit_is Either One h = absurd (cc)

pub bit_along : (a b c : Tri) → is_bit_within a b ≡ true → is_bit_within b c ≡ true → is_bit_within a c ≡ true
bit_along a b c h k = elim (bit_is b c k) [
  | inl any ↦ subst (λ t. is_bit_within a t ≡ true) (sym any) (bit_top a)
  | inr same ↦ subst (λ t. is_bit_within a t ≡ true) same h
]

-- both know what is known in both
pub bit_common : (a b : Tri) → (is_bit_within a (common_bit a b) ≡ true) × (is_bit_within b (common_bit a b) ≡ true)
bit_common Zero Zero = (refl, refl)
bit_common Zero One = (refl, refl)
bit_common Zero Either = (refl, refl)
bit_common One Zero = (refl, refl)
bit_common One One = (refl, refl)
bit_common One Either = (refl, refl)
bit_common Either Zero = (refl, refl)
bit_common Either One = (refl, refl)
bit_common Either Either = (refl, refl)

bit_more : (a b : Tri) (n : ℕ) → is_bit_within a b ≡ true → IsBit a n → IsBit b n
bit_more a b n h is = elim (bit_is a b h) [
  | inl any ↦ subst (λ t. IsBit t n) (sym any) (bit_below a n is)
  | inr same ↦ subst (λ t. IsBit t n) same is
]

-- what has the bits of the first has those of the second
pub agrees_more : (xs ys : List Tri) (v : ℕ) → each_passes is_bit_within xs ys ≡ true → Agrees xs v → Agrees ys v
agrees_more [] [] v h agrees = agrees
agrees_more [] (y ∷ ys) v h agrees = absurd (cc)
agrees_more (x ∷ xs) [] v h agrees = absurd (cc)
agrees_more (x ∷ xs) (y ∷ ys) v h agrees =
    let parts = and_parts (is_bit_within x y) (each_passes is_bit_within xs ys) h in
    (bit_more x y (v % 2) parts.0 agrees.0, agrees_more xs ys (v / 2) parts.1 agrees.1)

pub flag_more : (a b : Tri) (flag : Bool) → is_bit_within a b ≡ true → IsFlag a flag → IsFlag b flag
flag_more a b flag h is = elim (bit_is a b h) [
  | inl any ↦ subst (λ t. IsFlag t flag) (sym any) tt
  | inr same ↦ subst (λ t. IsFlag t flag) same is
]
