-- Sums over the views, and what holds of each view or of each two when one changes.
use Rattle.std.proofs.Common.{◌≡◌, ◌≢◌, ℕ, zero, suc, ◌+◌, ◌<◌, ◌≤◌, ◌⊎◌, List, [], ◌∷◌, ◌++◌, length, set, sym, refl, ap, ◌∙◌, subst, inl, inr, ⊎_elim, arith}
use mathlib.Core.Option.{some, some-injective, some-ne-none}
use lib.ListN.{get_elem?}
use Rattle.atomic_table.proofs.Lists.{at_set}
use Rattle.turn_table.specs.Views.{Known, Standing, spent, seated}
use Rattle.turn_table.specs.Rule.{total, At}

module _ {V : Type 0} (f : V → ℕ) where
  pub total_set : (vs : List V) (i : ℕ) (v w : V) → get_elem? vs i ≡ some v → total f (set vs i w) + f v ≡ total f vs + f w
  total_set [] i v w e = absurd (some-ne-none v (sym e))
  total_set (x ∷ xs) zero v w e = let h = ap f (some-injective x v e) in omega arith
  total_set (x ∷ xs) (suc i) v w e = let h = total_set xs i v w e in omega arith

  pub total_more : (vs : List V) (w : V) → total f (vs ++ w ∷ []) ≡ total f vs + f w
  total_more [] w = omega arith
  total_more (x ∷ xs) w = let h = total_more xs w in omega arith

  pub total_one : (vs : List V) (i : ℕ) (v : V) → get_elem? vs i ≡ some v → f v ≤ total f vs
  total_one [] i v e = absurd (some-ne-none v (sym e))
  total_one (x ∷ xs) zero v e = let h = ap f (some-injective x v e) in omega arith
  total_one (x ∷ xs) (suc i) v e = let h = total_one xs i v e in omega arith

  pub total_two : (vs : List V) (i j : ℕ) (v w : V) → i ≢ j → get_elem? vs i ≡ some v → get_elem? vs j ≡ some w → f v + f w ≤ total f vs
  total_two [] i j v w ne e d = absurd (some-ne-none v (sym e))
  total_two (x ∷ xs) zero zero v w ne e d = absurd (ne refl)
  total_two (x ∷ xs) zero (suc j) v w ne e d = let h = ap f (some-injective x v e) in let k = total_one xs j w d in omega arith
  total_two (x ∷ xs) (suc i) zero v w ne e d = let h = ap f (some-injective x w d) in let k = total_one xs i v e in omega arith
  total_two (x ∷ xs) (suc i) (suc j) v w ne e d = let h = total_two xs i j v w (λ p. ne (ap suc p)) e d in omega arith

  -- where all others have none, the total is that of one
  pub total_only : (vs : List V) (i : ℕ) (v : V) → get_elem? vs i ≡ some v
      → ((j : ℕ) (w : V) → j ≢ i → get_elem? vs j ≡ some w → f w ≡ 0) → total f vs ≡ f v
  total_only [] i v e none_else = absurd (some-ne-none v (sym e))
  total_only (x ∷ xs) zero v e none_else = let h = ap f (some-injective x v e) in let k = total_none xs (λ j w d. none_else (suc j) w (λ p. omega (arith, p)) d) in omega arith
    where
      total_none : (vs : List V) → ((j : ℕ) (w : V) → get_elem? vs j ≡ some w → f w ≡ 0) → total f vs ≡ 0
      total_none [] n = refl
      total_none (y ∷ ys) n = let h = n 0 y refl in let k = total_none ys (λ j w d. n (suc j) w d) in omega arith
  total_only (x ∷ xs) (suc i) v e none_else = let h = none_else 0 x (λ p. omega (arith, p)) refl in
      let k = total_only xs i v e (λ j w ne d. none_else (suc j) w (λ p. ne (omega (arith, p))) d) in omega arith

module _ {V : Type 0} (f g : V → ℕ) where
  pub total_below : (vs : List V) → ((i : ℕ) (v : V) → get_elem? vs i ≡ some v → f v ≤ g v) → total f vs ≤ total g vs
  total_below [] h = omega arith
  total_below (x ∷ xs) h = let a = h 0 x refl in let b = total_below xs (λ i v e. h (suc i) v e) in omega arith

module _ {V : Type 0} where
  -- one more view: an old one, or the new one at the last place
  pub at_more : (vs : List V) (a b : V) (j : ℕ) → get_elem? (vs ++ a ∷ []) j ≡ some b
      → (get_elem? vs j ≡ some b) ⊎ ((j ≡ length vs) × (a ≡ b))
  at_more [] a b zero e = inr (refl, some-injective a b e)
  at_more [] a b (suc j) e = absurd (some-ne-none b (sym e))
  at_more (x ∷ xs) a b zero e = inl e
  at_more (x ∷ xs) a b (suc j) e = ⊎_elim (λ t. inl t) (λ t. inr (ap suc t.0, t.1)) (at_more xs a b j e)

module _ {E C : Type 0} where
  known_or : Known E C → Standing E C → Known E C
  known_or d spent = d
  known_or d (seated v) = v

  pub seated-injective : (v w : Known E C) → seated v ≡ seated w → v ≡ w
  unfolding known_or
  seated-injective v w e = ap (known_or v) e

  is_spent : Standing E C → Type 0
  is_spent spent = Unit {0}
  is_spent (seated v) = ⊥

  pub spent-not-seated : (v : Known E C) → spent ≡ seated v → ⊥
  unfolding is_spent
  spent-not-seated v e = subst is_spent e tt

  -- what holds of the new seat, and held of the others
  pub each_set : (views : List (Standing E C)) (i : ℕ) (w : Known E C) (P : Known E C → Type 0)
      → P w → ((j : ℕ) (u : Known E C) → j ≢ i → At views j u → P u)
      → (j : ℕ) (u : Known E C) → At (set views i (seated w)) j u → P u
  each_set views i w P here there j u at =
      ⊎_elim (λ t. subst P (seated-injective w u t.1) here) (λ t. there j u t.0 t.1) (at_set views i j (seated w) (seated u) at)

  -- what holds of each two of the places that are looked at
  pub pairs_in : (views : List (Standing E C)) (i : ℕ) (w : Known E C) (R : Known E C → Known E C → Type 0) (Looked : ℕ → Type 0)
      → ((j : ℕ) (u : Known E C) → j ≢ i → Looked j → At views j u → R w u × R u w)
      → ((j k : ℕ) (u x : Known E C) → j ≢ k → At views j u → At views k x → R u x)
      → (j k : ℕ) (u x : Known E C) → j ≢ k → Looked j → Looked k → At (set views i (seated w)) j u
      → At (set views i (seated w)) k x → R u x
  pairs_in views i w R Looked with_it others j k u x ne here there at bt = ⊎_elim
      (λ t. ⊎_elim
      (λ s. absurd (ne (t.0 ∙ sym s.0)))
      (λ s. subst (λ z. R z x) (seated-injective w u t.1) (with_it k x s.0 there s.1).0)
      (at_set views i k (seated w) (seated x) bt))
      (λ t. ⊎_elim
      (λ s. subst (λ z. R u z) (seated-injective w x s.1) (with_it j u t.0 here t.1).1)
      (λ s. others j k u x ne t.1 s.1)
      (at_set views i k (seated w) (seated x) bt))
      (at_set views i j (seated w) (seated u) at)

  pub pairs_set : (views : List (Standing E C)) (i : ℕ) (w : Known E C) (R : Known E C → Known E C → Type 0)
      → ((j : ℕ) (u : Known E C) → j ≢ i → At views j u → R w u × R u w)
      → ((j k : ℕ) (u x : Known E C) → j ≢ k → At views j u → At views k x → R u x)
      → (j k : ℕ) (u x : Known E C) → j ≢ k → At (set views i (seated w)) j u → At (set views i (seated w)) k x → R u x
  pairs_set views i w R with_it others j k u x ne at bt =
      pairs_in views i w R (λ _. Unit {0}) (λ l z ne' _ ct. with_it l z ne' ct) others j k u x ne tt tt at bt

  pub each_spent : (views : List (Standing E C)) (i : ℕ) (j : ℕ) (u : Known E C) → At (set views i spent) j u → (j ≢ i) × At views j u
  each_spent views i j u at = ⊎_elim (λ t. absurd (spent-not-seated u t.1)) (λ t. t) (at_set views i j spent (seated u) at)

module _ {V : Type 0} where
  pub at_within : (vs : List V) (i : ℕ) (v : V) → get_elem? vs i ≡ some v → i < length vs
  at_within [] i v e = absurd (some-ne-none v (sym e))
  at_within (x ∷ xs) zero v e = omega arith
  at_within (x ∷ xs) (suc i) v e = let h = at_within xs i v e in omega arith
