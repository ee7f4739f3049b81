-- Sets with the same members are equal.
use Rattle.std.proofs.Common.{◌≡◌, ℕ, ◌+◌, ◌-◌, ◌*◌, ◌%◌, ◌/◌, ◌<◌, ◌≤◌, List, [], ◌∷◌, length, refl, sym, ◌∙◌, ap, subst, inl, inr, arith, cond, eqb}
use Prim.Native.Nat.{zero, suc, ◌∣◌}
use Rattle.std.specs.Prelude.{◌⊎◌}
use Rattle.std.proofs.lemmas.Bool.{cases_eq, eq-eqb, ne_eqb}
use Rattle.std.proofs.Math.Nat.{dvd_antisymm, le_of_mul-le-mul_right, lt_of_mul-lt-mul_right, lt-div-mul-add, mod-mod_of_dvd, div-mul_cancel, mul-le-mul_right, mod-eq-zero_of_dvd, add-mod-mod}
use Rattle.value_set.specs.declared.form.Progression.{Progression}
use Rattle.value_set.specs.declared.form.Form.{Form}
use Rattle.value_set.specs.declared.form.Form.TheVariants.{Values, Run}
use Rattle.value_set.specs.Form.{Includes, IsNormal, IsNormalRun, above}
use Rattle.value_set.specs.ListFacts.{IsIn, in_from_Contains, Contains_from_in}
use Rattle.value_set.proofs.Members.{same_ascending, steps_has}
use Rattle.value_set.proofs.Rounds.{mod_low, above_below, above_back, above_sum, product_below}
use Rattle.value_set.proofs.Inclusion.{Fitting}
use Rattle.value_set.proofs.Answering.{runs_fit}

-- ---- a run has more members than a list

remove : ℕ → List ℕ → List ℕ
remove v [] = []
remove v (x ∷ xs) = cond (eqb x v) xs (x ∷ remove v xs)

removed_length : (v : ℕ) (xs : List ℕ) → IsIn v xs → length (remove v xs) + 1 ≡ length xs
unfolding remove
removed_length v [] h = absurd h
removed_length v (x ∷ xs) h = elim (cases_eq x v) [
  | inl same ↦ rw (eq-eqb x v same) (omega arith)
  | inr other ↦ rw (ne_eqb x v other) (elim h [ inl e ↦ absurd (other e) | inr rest ↦ let step = removed_length v xs rest in omega (arith, step) ])
]

removed_keeps : (v w : ℕ) (xs : List ℕ) → (w ≡ v → ⊥) → IsIn w xs → IsIn w (remove v xs)
unfolding remove
removed_keeps v w [] apart h = absurd h
removed_keeps v w (x ∷ xs) apart h = elim (cases_eq x v) [
  | inl same ↦ rw (eq-eqb x v same) (elim h [ inl e ↦ absurd (apart (sym e ∙ same)) | inr rest ↦ rest ])
  | inr other ↦ rw (ne_eqb x v other) (elim h [ inl e ↦ inl e | inr rest ↦ inr (removed_keeps v w xs apart rest) ])
]

room_for : (n : ℕ) (f : ℕ → ℕ) (xs : List ℕ) → ((i : ℕ) → i < n → IsIn (f i) xs)
    → ((i j : ℕ) → i < j → j < n → f i ≡ f j → ⊥) → n ≤ length xs
room_for zero f xs there apart = omega arith
room_for (suc n) f xs there apart =
    let rest = room_for n f (remove (f n) xs) (λ i h. removed_keeps (f n) (f i) xs (apart i n h (omega arith)) (there i (omega arith))) (λ i j h k. apart i j h (omega arith)) in
    omega (arith, rest, removed_length (f n) xs (there n (omega arith)))

run_apart : (m : ℕ) (p : Progression) (i j : ℕ) → IsNormalRun m p.base p.stride p.count → i < j → j < p.count
    → (p.base + i * p.stride) % m ≡ (p.base + j * p.stride) % m → ⊥
run_apart m p i j n h k e =
    let far = above_sum m p.base (i * p.stride) n.below (product_below i p.count p.stride m (omega arith) n.once) in
    let farther = above_sum m p.base (j * p.stride) n.below (product_below j p.count p.stride m k n.once) in
    let same : i * p.stride ≡ j * p.stride = sym far ∙ ap (λ (v : ℕ). above m p.base v) e ∙ farther in
    let step = mul-le-mul_right {m = suc i} {n = j} p.stride h in
    let pos = n.strides in
    omega (arith, same, step, pos)

pub run_over_list : (m : ℕ) (p : Progression) (xs : List ℕ) → IsNormalRun m p.base p.stride p.count
    → Includes m (Values xs) (Run p) → p.count ≤ length xs
run_over_list m p xs n inside = room_for p.count (λ i. (p.base + i * p.stride) % m) xs
    (λ i h. in_from_Contains xs _ (inside _ (steps_has m p.base p.stride p.count _ (i, h, refl))))
    (λ i j h k. run_apart m p i j n h k)

-- ---- runs

not_more : (m o d c n : ℕ) → 0 < d → o < m → 1 ≤ n → (c - 1) * d < m → Fitting m o d c d ((n - 1) * d) → c ≤ n
not_more m o d c n pos low some once fits = elim fits.2 [
  | inl straight ↦ let less = le_of_mul-le-mul_right {m = c - 1} {n = n - 1} {k = d} (omega (arith, straight.1)) pos in omega (arith, less)
  | inr round ↦
      let beyond = lt-div-mul-add {a = m - 1 - o} {b = d} pos in
      let less = lt_of_mul-lt-mul_right d {m = c - 1} {n = n - 1 + 1} (let e : (n - 1 + 1) * d ≡ (n - 1) * d + d = omega arith in omega (arith, e, once, round.2, beyond)) in
      omega (arith, less)
]

-- with one stride and one count there is no offset, or the run closes the round
closed : (m o d c : ℕ) → 0 < d → o < m → 1 ≤ c → (c - 1) * d < m → Fitting m o d c d ((c - 1) * d) → (o ≡ 0) ⊎ ((d ∣ m) × (c * d ≡ m))
closed m o d c pos low some once fits = elim fits.2 [
  | inl straight ↦ inl (omega (arith, straight.1))
  | inr round ↦
      let beyond = lt-div-mul-add {a = m - 1 - o} {b = d} pos in
      let whole : m / d * d ≡ m = div-mul_cancel d round.1 in
      let one : (c - 1 + 1) * d ≡ (c - 1) * d + d = omega arith in
      let back : c - 1 + 1 ≡ c = omega arith in
      let more = lt_of_mul-lt-mul_right d {m = c - 1} {n = m / d} (omega (arith, whole, once)) in
      let less = le_of_mul-le-mul_right {m = m / d} {n = c - 1 + 1} {k = d} (omega (arith, whole, one, round.2, beyond)) pos in
      let e : c ≡ m / d = omega (arith, more, less) in
      inr (round.1, ap (λ (k : ℕ). k * d) e ∙ whole)
]

same_base : (m : ℕ) (p q : Progression) → IsNormalRun m p.base p.stride p.count → IsNormalRun m q.base q.stride q.count
    → p.stride ≡ q.stride → p.count ≡ q.count
    → Fitting m (above m q.base p.base) p.stride p.count p.stride ((p.count - 1) * p.stride) → p.base ≡ q.base
same_base m p q n k strides counts fits =
    let pos : 0 < m = (let b = n.below in omega (arith, b)) in
    let low = above_below m q.base p.base pos in
    let back = above_back m q.base p.base k.below n.below in
    elim (closed m (above m q.base p.base) p.stride p.count n.strides low (let l = n.long in omega (arith, l)) n.once fits) [
      | inl none ↦ sym back ∙ ap (λ (o : ℕ). (q.base + o) % m) none ∙ (let e : q.base + 0 ≡ q.base = omega arith in ap (λ (w : ℕ). w % m) e) ∙ mod_low q.base m k.below
      | inr whole ↦
          let small : p.base < p.stride = n.least whole.1 in
          let small_too : q.base < p.stride = (let l = k.least (ap (λ (c : ℕ). c * q.stride) (sym counts) ∙ ap (λ (d : ℕ). p.count * d) (sym strides) ∙ whole.1) in omega (arith, l, strides)) in
          let none : above m q.base p.base % p.stride ≡ 0 = mod-eq-zero_of_dvd p.stride fits.0 in
          let step : (q.base + above m q.base p.base) % p.stride ≡ q.base % p.stride =
          sym (add-mod-mod q.base (above m q.base p.base) p.stride) ∙ (let e : q.base + above m q.base p.base % p.stride ≡ q.base = omega (arith, none) in ap (λ (w : ℕ). w % p.stride) e) in
          sym (mod_low p.base p.stride small) ∙ ap (λ (w : ℕ). w % p.stride) (sym back) ∙ mod-mod_of_dvd p.stride (q.base + above m q.base p.base) whole.0 ∙ step ∙ mod_low q.base p.stride small_too
    ]

same_runs : (m : ℕ) (p q : Progression) → IsNormalRun m p.base p.stride p.count → IsNormalRun m q.base q.stride q.count
    → Includes m (Run q) (Run p) → Includes m (Run p) (Run q) → Run p ≡ Run q
same_runs m p q n k to back =
    let pos : 0 < m = (let b = n.below in omega (arith, b)) in
    let fits = runs_fit m p q (above m q.base p.base) n k refl to in
    let fits_back = runs_fit m q p (above m p.base q.base) k n refl back in
    let strides : p.stride ≡ q.stride = dvd_antisymm fits_back.1 fits.1 in
    let fits' : Fitting m (above m q.base p.base) p.stride p.count p.stride ((q.count - 1) * p.stride) =
    subst (λ (g : ℕ). Fitting m (above m q.base p.base) p.stride p.count g ((q.count - 1) * g)) (sym strides) fits in
    let fits_back' : Fitting m (above m p.base q.base) p.stride q.count p.stride ((p.count - 1) * p.stride) =
    subst (λ (g : ℕ). Fitting m (above m p.base q.base) g q.count p.stride ((p.count - 1) * p.stride)) (sym strides) fits_back in
    let less = not_more m (above m q.base p.base) p.stride p.count q.count n.strides (above_below m q.base p.base pos) (let l = k.long in omega (arith, l)) n.once fits' in
    let once' : (q.count - 1) * p.stride < m = (let o = k.once in let e : (q.count - 1) * p.stride ≡ (q.count - 1) * q.stride = ap (λ (d : ℕ). (q.count - 1) * d) strides in omega (arith, o, e)) in
    let more = not_more m (above m p.base q.base) p.stride q.count p.count n.strides (above_below m p.base q.base pos) (let l = n.long in omega (arith, l)) once' fits_back' in
    let counts : p.count ≡ q.count = omega (arith, less, more) in
    let fits'' = subst (λ (c : ℕ). Fitting m (above m q.base p.base) p.stride p.count p.stride ((c - 1) * p.stride)) (sym counts) fits' in
    let bases = same_base m p q n k strides counts fits'' in
    let made = λ (b d c : ℕ). let run : Progression = record { base = b; stride = d; count = c } in Run run in
    ap (λ (b : ℕ). made b p.stride p.count) bases ∙ ap (λ (d : ℕ). made q.base d p.count) strides ∙ ap (λ (c : ℕ). made q.base q.stride c) counts

pub same_members : (m : ℕ) (a b : Form) → IsNormal m a → IsNormal m b → Includes m b a → Includes m a b → a ≡ b
same_members m (Values xs) (Values ys) n k to back = ap Values (same_ascending 0 m xs ys n.2 k.2
    (λ v h. in_from_Contains ys v (to v (Contains_from_in xs v h))) (λ v h. in_from_Contains xs v (back v (Contains_from_in ys v h))))
same_members m (Values xs) (Run q) n k to back = absurd (let l = k.long in let r = run_over_list m q xs k back in omega (arith, l, r, n.1))
same_members m (Run p) (Values ys) n k to back = absurd (let l = n.long in let r = run_over_list m p ys n to in omega (arith, l, r, k.1))
same_members m (Run p) (Run q) n k to back = same_runs m p q n k to back
