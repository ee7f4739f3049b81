-- Lists of ascending numbers and their members.
use Rattle.std.proofs.Common.{◌≡◌, ℕ, ◌+◌, ◌*◌, ◌%◌, ◌<◌, ◌≤◌, ◌++◌, List, [], ◌∷◌, length, refl, sym, ◌∙◌, ap, subst, inl, inr, arith, get_or, take, append_assoc, append-nil}
use Prim.Native.Nat.{zero, suc}
use Rattle.std.specs.Prelude.{◌⊎◌}
use Rattle.std.specs.List.{Contains, insert}
use Rattle.std.proofs.lemmas.Bool.{cases_order, lt-ltb, le-ltb, eq-eqb, ne_eqb}
use Rattle.std.proofs.lemmas.List.{take_more}
use Rattle.std.proofs.lemmas.List.FromFn.{get_or-map-range_with_len}
use Rattle.value_set.specs.Form.{put, put_all, ascending, Ascends, steps}
use Rattle.value_set.specs.ListFacts.{IsIn}
use Rattle.value_set.specs.StepFacts.{length-steps}

-- ---- put

pub put-below : (v x : ℕ) (xs : List ℕ) → v < x → put v (x ∷ xs) ≡ v ∷ x ∷ xs
unfolding put
put-below v x xs h = rw (lt-ltb v x h) refl

pub put-same : (v x : ℕ) (xs : List ℕ) → v ≡ x → put v (x ∷ xs) ≡ x ∷ xs
unfolding put
put-same v x xs h = let not_below : x ≤ v = omega arith in rw (le-ltb v x not_below, eq-eqb v x h) refl

pub put-above : (v x : ℕ) (xs : List ℕ) → x < v → put v (x ∷ xs) ≡ x ∷ put v xs
unfolding put
put-above v x xs h =
    let not_below : x ≤ v = omega arith in
    let other : v ≡ x → ⊥ = λ e. omega arith in
    rw (le-ltb v x not_below, ne_eqb v x other) refl

put-nil : (v : ℕ) → put v [] ≡ v ∷ []
unfolding put
put-nil v = refl

pub in_put : (w v : ℕ) (xs : List ℕ) → IsIn v (put w xs) → (w ≡ v) ⊎ IsIn v xs
in_put w v [] h = rw (put-nil w) at h
in_put w v (x ∷ xs) h = elim (cases_order w x) [
  | inl same ↦ inr (rw (put-same w x xs same) at h)
  | inr other ↦ elim other [
    | inl below ↦ rw (put-below w x xs below) at h
    | inr above ↦ elim (rw (put-above w x xs above) at h) [
      | inl e ↦ inr (inl e)
      | inr rest ↦ elim (in_put w v xs rest) [ inl e ↦ inl e | inr r ↦ inr (inr r) ]
    ]
  ]
]

pub put_itself : (w : ℕ) (xs : List ℕ) → IsIn w (put w xs)
put_itself w [] = rw (put-nil w) (inl refl)
put_itself w (x ∷ xs) = elim (cases_order w x) [
  | inl same ↦ rw (put-same w x xs same) (inl (sym same))
  | inr other ↦ elim other [
    | inl below ↦ rw (put-below w x xs below) (inl refl)
    | inr above ↦ rw (put-above w x xs above) (inr (put_itself w xs))
  ]
]

pub put_keeps : (w v : ℕ) (xs : List ℕ) → IsIn v xs → IsIn v (put w xs)
put_keeps w v [] h = absurd h
put_keeps w v (x ∷ xs) h = elim (cases_order w x) [
  | inl same ↦ rw (put-same w x xs same) h
  | inr other ↦ elim other [
    | inl below ↦ rw (put-below w x xs below) (inr h)
    | inr above ↦ rw (put-above w x xs above) (elim h [ inl e ↦ inl e | inr rest ↦ inr (put_keeps w v xs rest) ])
  ]
]

pub Ascends-lower : (low lower m : ℕ) (xs : List ℕ) → lower ≤ low → Ascends low m xs → Ascends lower m xs
Ascends-lower low lower m [] h a = tt
Ascends-lower low lower m (x ∷ xs) h a = (omega arith, a.1, a.2)

pub Ascends-put : (low m w : ℕ) (xs : List ℕ) → low ≤ w → w < m → Ascends low m xs → Ascends low m (put w xs)
Ascends-put low m w [] h k a = rw (put-nil w) (h, k, tt)
Ascends-put low m w (x ∷ xs) h k a = elim (cases_order w x) [
  | inl same ↦ rw (put-same w x xs same) a
  | inr other ↦ elim other [
    | inl below ↦ rw (put-below w x xs below) (h, k, (omega arith, a.1, a.2))
    | inr above ↦ rw (put-above w x xs above) (a.0, a.1, Ascends-put (x + 1) m w xs (omega arith) k a.2)
  ]
]

pub length-put : (w : ℕ) (xs : List ℕ) → length (put w xs) ≤ length xs + 1
length-put w [] = rw (put-nil w) (omega arith)
length-put w (x ∷ xs) = elim (cases_order w x) [
  | inl same ↦ rw (put-same w x xs same) (omega arith)
  | inr other ↦ elim other [
    | inl below ↦ rw (put-below w x xs below) (omega arith)
    | inr above ↦ let step = length-put w xs in rw (put-above w x xs above) (omega (arith, step))
  ]
]

pub put_some : (w : ℕ) (xs : List ℕ) → 1 ≤ length (put w xs)
put_some w [] = rw (put-nil w) (omega arith)
put_some w (x ∷ xs) = elim (cases_order w x) [
  | inl same ↦ rw (put-same w x xs same) (omega arith)
  | inr other ↦ elim other [
    | inl below ↦ rw (put-below w x xs below) (omega arith)
    | inr above ↦ rw (put-above w x xs above) (omega arith)
  ]
]

-- ---- put_all

pub in_put_all : (v : ℕ) (held xs : List ℕ) → IsIn v (put_all held xs) → IsIn v held ⊎ IsIn v xs
in_put_all v held [] h = inl h
in_put_all v held (x ∷ xs) h = elim (in_put_all v (put x held) xs h) [
  | inl was ↦ elim (in_put x v held was) [ inl e ↦ inr (inl e) | inr r ↦ inl r ]
  | inr rest ↦ inr (inr rest)
]

pub put_all_keeps : (v : ℕ) (held xs : List ℕ) → IsIn v held → IsIn v (put_all held xs)
put_all_keeps v held [] h = h
put_all_keeps v held (x ∷ xs) h = put_all_keeps v (put x held) xs (put_keeps x v held h)

pub put_all_has : (v : ℕ) (held xs : List ℕ) → IsIn v xs → IsIn v (put_all held xs)
put_all_has v held [] h = absurd h
put_all_has v held (x ∷ xs) (inl e) = subst (λ (w : ℕ). IsIn w (put_all (put x held) xs)) e (put_all_keeps x (put x held) xs (put_itself x held))
put_all_has v held (x ∷ xs) (inr h) = put_all_has v (put x held) xs h

pub Ascends-put_all : (m : ℕ) (held xs : List ℕ) → ((v : ℕ) → IsIn v xs → v < m) → Ascends 0 m held → Ascends 0 m (put_all held xs)
Ascends-put_all m held [] below a = a
Ascends-put_all m held (x ∷ xs) below a = Ascends-put_all m (put x held) xs (λ v h. below v (inr h)) (Ascends-put 0 m x held (omega arith) (below x (inl refl)) a)

pub length-put_all : (held xs : List ℕ) → length (put_all held xs) ≤ length held + length xs
length-put_all held [] = omega arith
length-put_all held (x ∷ xs) = omega (arith, length-put_all (put x held) xs, length-put x held)

put_all_longer : (held xs : List ℕ) → 1 ≤ length held → 1 ≤ length (put_all held xs)
put_all_longer held [] h = h
put_all_longer held (x ∷ xs) h = put_all_longer (put x held) xs (put_some x held)

pub ascending_some : (xs : List ℕ) → 1 ≤ length xs → 1 ≤ length (ascending xs)
ascending_some [] h = h
ascending_some (x ∷ xs) h = put_all_longer (put x []) xs (put_some x [])

pub put_all-append : (held xs ys : List ℕ) → put_all held (xs ++ ys) ≡ put_all (put_all held xs) ys
put_all-append held [] ys = refl
put_all-append held (x ∷ xs) ys = put_all-append (put x held) xs ys

pub in_ascending : (v : ℕ) (xs : List ℕ) → IsIn v (ascending xs) → IsIn v xs
in_ascending v xs h = elim (in_put_all v [] xs h) [ inl e ↦ absurd e | inr r ↦ r ]

-- ---- ascending lists

pub Ascends-in : (low m v : ℕ) (xs : List ℕ) → Ascends low m xs → IsIn v xs → (low ≤ v) × (v < m)
Ascends-in low m v [] a h = absurd h
Ascends-in low m v (x ∷ xs) a (inl e) = (omega arith, omega arith)
Ascends-in low m v (x ∷ xs) a (inr h) = let rest = Ascends-in (x + 1) m v xs a.2 h in (omega arith, rest.1)

-- a number above all others is put at their end
pub put_above_all : (w : ℕ) (xs : List ℕ) → ((v : ℕ) → IsIn v xs → v < w) → put w xs ≡ xs ++ w ∷ []
put_above_all w [] below = put-nil w
put_above_all w (x ∷ xs) below = put-above w x xs (below x (inl refl)) ∙ ap (λ (rest : List ℕ). x ∷ rest) (put_above_all w xs (λ v i. below v (inr i)))

tail_same : (low m x : ℕ) (xs ys : List ℕ) → Ascends low m (x ∷ xs) → Ascends low m (x ∷ ys)
    → ((v : ℕ) → IsIn v (x ∷ xs) → IsIn v (x ∷ ys)) → (v : ℕ) → IsIn v xs → IsIn v ys
tail_same low m x xs ys a b to v h = elim (to v (inr h)) [
  | inl e ↦ absurd (let high = Ascends-in (x + 1) m v xs a.2 h in omega (arith, high.0, e))
  | inr r ↦ r
]

-- ascending lists with the same members are equal
pub same_ascending : (low m : ℕ) (xs ys : List ℕ) → Ascends low m xs → Ascends low m ys
    → ((v : ℕ) → IsIn v xs → IsIn v ys) → ((v : ℕ) → IsIn v ys → IsIn v xs) → xs ≡ ys
same_ascending low m [] [] a b to back = refl
same_ascending low m [] (y ∷ ys) a b to back = absurd (back y (inl refl))
same_ascending low m (x ∷ xs) [] a b to back = absurd (to x (inl refl))
same_ascending low m (x ∷ xs) (y ∷ ys) a b to back =
    let first_to = Ascends-in low m x (y ∷ ys) b (to x (inl refl)) in
    let e : x ≡ y = elim (to x (inl refl)) [
      | inl same ↦ sym same
      | inr later ↦ elim (back y (inl refl)) [
        | inl same ↦ same
        | inr earlier ↦ absurd (let p = Ascends-in (y + 1) m x ys b.2 later in let q = Ascends-in (x + 1) m y xs a.2 earlier in omega (arith, p.0, q.0))
      ]
    ] in
    let b' : Ascends low m (x ∷ ys) = subst (λ (z : ℕ). Ascends low m (z ∷ ys)) (sym e) b in
    let to' : (v : ℕ) → IsIn v (x ∷ xs) → IsIn v (x ∷ ys) = subst (λ (z : ℕ). (v : ℕ) → IsIn v (x ∷ xs) → IsIn v (z ∷ ys)) (sym e) to in
    let back' : (v : ℕ) → IsIn v (x ∷ ys) → IsIn v (x ∷ xs) = subst (λ (z : ℕ). (v : ℕ) → IsIn v (z ∷ ys) → IsIn v (x ∷ xs)) (sym e) back in
    let rest = same_ascending (x + 1) m xs ys a.2 b'.2 (tail_same low m x xs ys a b' to') (tail_same low m x ys xs b' a back') in
    cc (e, rest)

-- ---- the numbers of a run

pub get_or-steps : (m base stride count i d : ℕ) → i < count → get_or (steps m base stride count) i d ≡ (base + i * stride) % m
unfolding steps
get_or-steps m base stride count i d h = get_or-map-range_with_len (λ (i : ℕ). (base + i * stride) % m) 0 count i i d h (omega arith)

abbrev pub InRun : (m base stride count v : ℕ) → Type 0
InRun m base stride count v = (i : ℕ) × (i < count) × (v ≡ (base + i * stride) % m)

pub steps_has : (m base stride count v : ℕ) → InRun m base stride count v → Contains (steps m base stride count) v
steps_has m base stride count v (i, below, is) =
    (i, omega (arith, length-steps m base stride count, below), get_or-steps m base stride count i v below ∙ sym is)

-- ---- a number found or placed by a search

pub Ascends-at : (low m i : ℕ) (xs : List ℕ) → Ascends low m xs → i < length xs → (low ≤ get_or xs i 0) × (get_or xs i 0 < m)
Ascends-at low m i [] a h = absurd (omega arith)
Ascends-at low m zero (x ∷ xs) a h = (a.0, a.1)
Ascends-at low m (suc i) (x ∷ xs) a h = let rest = Ascends-at (x + 1) m i xs a.2 (omega arith) in (omega (arith, rest.0, a.0), rest.1)

pub Ascends-order : (low m i j : ℕ) (xs : List ℕ) → Ascends low m xs → i ≤ j → j < length xs → get_or xs i 0 ≤ get_or xs j 0
Ascends-order low m i j [] a h k = absurd (omega arith)
Ascends-order low m zero zero (x ∷ xs) a h k = omega arith
Ascends-order low m zero (suc j) (x ∷ xs) a h k = let rest = Ascends-at (x + 1) m j xs a.2 (omega arith) in omega (arith, rest.0)
Ascends-order low m (suc i) zero (x ∷ xs) a h k = absurd (omega arith)
Ascends-order low m (suc i) (suc j) (x ∷ xs) a h k = Ascends-order (x + 1) m i j xs a.2 (omega arith) (omega arith)

pub put_found : (low m v i : ℕ) (xs : List ℕ) → Ascends low m xs → i < length xs → get_or xs i 0 ≡ v → put v xs ≡ xs
put_found low m v i [] a h e = absurd (omega arith)
put_found low m v zero (x ∷ xs) a h e = put-same v x xs (sym e)
put_found low m v (suc i) (x ∷ xs) a h e = let high = Ascends-at (x + 1) m i xs a.2 (omega arith) in
    put-above v x xs (omega (arith, high.0, e)) ∙ ap (λ (rest : List ℕ). x ∷ rest) (put_found (x + 1) m v i xs a.2 (omega arith) e)

pub put_insert : (v at : ℕ) (xs : List ℕ) → at ≤ length xs → ((k : ℕ) → k < at → get_or xs k 0 < v)
    → ((k : ℕ) → at ≤ k → k < length xs → v < get_or xs k 0)
    → insert xs at v ≡ put v xs
put_insert v zero [] h before behind = sym (put-nil v)
put_insert v (suc at) [] h before behind = absurd (omega arith)
put_insert v zero (x ∷ xs) h before behind = sym (put-below v x xs (behind 0 (omega arith) (omega arith)))
put_insert v (suc at) (x ∷ xs) h before behind =
    ap (λ (rest : List ℕ). x ∷ rest) (put_insert v at xs (omega arith) (λ k l. before (suc k) (omega arith)) (λ k l r. behind (suc k) (omega arith) (omega arith)))
    ∙ sym (put-above v x xs (before 0 (omega arith)))

pub put_all-push : (held xs : List ℕ) (v : ℕ) → put_all held (xs ++ v ∷ []) ≡ put v (put_all held xs)
put_all-push held xs v = put_all-append held xs (v ∷ [])

pub ascending_more : (xs : List ℕ) (i d : ℕ) → i < length xs → ascending (take (i + 1) xs) ≡ put (get_or xs i d) (ascending (take i xs))
ascending_more xs i d h = ap (λ (ys : List ℕ). ascending ys) (take_more xs i d h) ∙ put_all-push [] (take i xs) (get_or xs i d)

-- ascending numbers stay as they are
put_all_ascending : (low m : ℕ) (held xs : List ℕ) → ((v : ℕ) → IsIn v held → v < low) → Ascends 0 m held
    → Ascends low m xs → put_all held xs ≡ held ++ xs
put_all_ascending low m held [] below rises a = sym (append-nil held)
put_all_ascending low m held (x ∷ xs) below rises a =
    let next : put x held ≡ held ++ x ∷ [] = put_above_all x held (λ v i. omega (arith, below v i, a.0)) in
    let step = put_all_ascending (x + 1) m (put x held) xs (λ v i. elim (in_put x v held i) [ inl e ↦ omega (arith, e) | inr r ↦ omega (arith, below v r, a.0) ]) (Ascends-put 0 m x held (omega arith) a.1 rises) a.2 in
    step ∙ ap (λ (ys : List ℕ). ys ++ xs) next ∙ append_assoc held (x ∷ []) xs

pub ascending_same : (m : ℕ) (xs : List ℕ) → Ascends 0 m xs → ascending xs ≡ xs
ascending_same m xs a = put_all_ascending 0 m [] xs (λ v i. absurd i) tt a
