-- Elements of lists and their indexes.
use Rattle.std.specs.Prelude.{◌≡◌, ℕ, zero, suc, ◌<◌, ◌⊎◌, Bool, true, false, cond, Some, List, [], ◌∷◌, ◌++◌, filter, map, length, slice_get, slice_index_or}
use Rattle.std.proofs.Common.{refl, sym, ◌∙◌, ap, subst, inl, inr, arith}
use Rattle.round_core.specs.Agenda.{AreDifferent, IsIn}
use Rattle.round_core.proofs.Cases.{truth}

pub index_of : {X : Type 0} → (x : X) (xs : List X) (d : X) → IsIn x xs → (i : ℕ) × (i < length xs) × (slice_index_or xs i d ≡ x)
index_of x [] d h = absurd h
index_of x (y ∷ ys) d h = elim h [
  | inl e ↦ (0, omega arith, sym e)
  | inr r ↦ let i = index_of x ys d r in (suc i.0, omega arith, i.2)
]

pub index-in : {X : Type 0} → (xs : List X) (i : ℕ) (d : X) → i < length xs → IsIn (slice_index_or xs i d) xs
index-in [] i d h = absurd (omega (arith, h))
index-in (y ∷ xs) zero d h = inl refl
index-in (y ∷ xs) (suc i) d h = inr (index-in xs i d (omega (arith, h)))

pub IsIn-append : {X : Type 0} → (x : X) (xs ys : List X) → IsIn x xs → IsIn x (xs ++ ys)
IsIn-append x [] ys h = absurd h
IsIn-append x (y ∷ xs) ys h = elim h [ inl e ↦ inl e | inr r ↦ inr (IsIn-append x xs ys r) ]

pub IsIn-last : {X : Type 0} → (x : X) (xs ys : List X) → IsIn x ys → IsIn x (xs ++ ys)
IsIn-last x [] ys h = h
IsIn-last x (y ∷ xs) ys h = inr (IsIn-last x xs ys h)

pub IsIn-split : {X : Type 0} → (x : X) (xs ys : List X) → IsIn x (xs ++ ys) → IsIn x xs ⊎ IsIn x ys
IsIn-split x [] ys h = inr h
IsIn-split x (y ∷ xs) ys h = elim h [
  | inl e ↦ inl (inl e)
  | inr r ↦ elim (IsIn-split x xs ys r) [ inl a ↦ inl (inr a) | inr b ↦ inr b ]
]

pub get-in : {X : Type 0} → (xs : List X) (i : ℕ) (x : X) → slice_get xs i ≡ Some x → IsIn x xs
get-in [] i x h = absurd (cc)
get-in (y ∷ xs) zero x h = let e : x ≡ y = cc in inl e
get-in (y ∷ xs) (suc i) x h = inr (get-in xs i x h)

pub in-map : {X Y : Type 0} → (f : X → Y) (y : Y) (xs : List X) → IsIn y (map f xs) → (x : X) × IsIn x xs × (y ≡ f x)
in-map f y [] h = absurd h
in-map f y (x ∷ xs) h = elim h [ inl e ↦ (x, inl refl, e) | inr r ↦ let i = in-map f y xs r in (i.0, inr i.1, i.2) ]

-- an element with what stands before and behind it
pub taken_from : {X : Type 0} → (x : X) (xs : List X) → IsIn x xs → (front : List X) × (back : List X) × (xs ≡ front ++ x ∷ back)
taken_from x [] h = absurd h
taken_from x (y ∷ ys) h = elim h [
  | inl e ↦ ([], ys, ap (λ z. z ∷ ys) (sym e))
  | inr r ↦ let t = taken_from x ys r in (y ∷ t.0, t.1, ap (λ l. y ∷ l) t.2)
]

module _ {X : Type 0} where
  -- lists without repeats
  pub different_append : (xs ys : List X) → AreDifferent xs → AreDifferent ys → ((x : X) → IsIn x xs → IsIn x ys → ⊥)
      → AreDifferent (xs ++ ys)
  different_append [] ys d e apart = e
  different_append (x ∷ xs) ys d e apart = (
    λ h. elim (IsIn-split x xs ys h) [ inl a ↦ d.0 a | inr b ↦ apart x (inl refl) b ],
    different_append xs ys d.1 e (λ z a b. apart z (inr a) b),
  )

  module _ (f : X → Bool) where
    abbrev passed : X → List X → Bool → List X
    passed y ys b = cond b (y ∷ filter f ys) (filter f ys)

    pub in_filter : (x : X) (xs : List X) → IsIn x (filter f xs) → IsIn x xs × (f x ≡ true)
    in_filter x [] h = absurd h
    in_filter x (y ∷ ys) h = elim (truth (f y)) [
      | inl t ↦
          let at : (x ≡ y) ⊎ IsIn x (filter f ys) = subst (λ b. IsIn x (passed y ys b)) t h in
          elim at [
            | inl s ↦ (inl s, ap f s ∙ t)
            | inr r ↦ let i = in_filter x ys r in (inr i.0, i.1)
          ]
      | inr t ↦ let i = in_filter x ys (subst (λ b. IsIn x (passed y ys b)) t h) in (inr i.0, i.1)
    ]

    pub to_filter : (x : X) (xs : List X) → IsIn x xs → f x ≡ true → IsIn x (filter f xs)
    to_filter x [] h e = absurd h
    to_filter x (y ∷ ys) h e = elim (truth (f y)) [
      | inl t ↦
          let at : IsIn x (y ∷ filter f ys) = elim h [ inl s ↦ inl s | inr r ↦ inr (to_filter x ys r e) ] in
          subst (λ b. IsIn x (passed y ys b)) (sym t) at
      | inr t ↦
          let at : IsIn x (filter f ys) = elim h [
            | inl s ↦ let bad : true ≡ false = sym e ∙ ap f s ∙ t in absurd (cc)
            | inr r ↦ to_filter x ys r e
          ] in
          subst (λ b. IsIn x (passed y ys b)) (sym t) at
    ]

    pub different_filter : (xs : List X) → AreDifferent xs → AreDifferent (filter f xs)
    different_filter [] d = tt
    different_filter (y ∷ ys) d = elim (truth (f y)) [
      | inl t ↦ subst (λ b. AreDifferent (passed y ys b)) (sym t) (λ h. d.0 (in_filter y ys h).0, different_filter ys d.1)
      | inr t ↦ subst (λ b. AreDifferent (passed y ys b)) (sym t) (different_filter ys d.1)
    ]
