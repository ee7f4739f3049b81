-- What the loops that gather numbers keep.
use Rattle.std.proofs.Common.{◌≡◌, ℕ, ◌+◌, ◌-◌, ◌*◌, ◌%◌, ◌/◌, ◌<◌, ◌≤◌, ◌++◌, List, [], ◌∷◌, length, drop, get_or, refl, sym, ◌∙◌, ap, subst, inl, inr, arith, drop-cons}
use Prim.Native.Nat.{suc}
use Rattle.std.specs.Prelude.{Ok, Err}
use Rattle.std.specs.List.{fold, insert}
use Rattle.std.specs.List.Sorted.{IsBinarySearchResult}
use Rattle.std.specs.Ordering.{nat_cmp}
use Rattle.std.proofs.lemmas.List.{drop_all}
use Rattle.std.proofs.lemmas.List.Sorted.{searched}
use Rattle.std.proofs.lemmas.Bool.{cases_eq}
use Rattle.std.proofs.lemmas.Grind.{get_or_default_zero}
use Rattle.std.proofs.Math.Nat.{le_of_dvd}
use Rattle.value_set.specs.Gcd.{gcd}
use Rattle.value_set.specs.Form.{put, ascending, steps, Ascends, IsSpan, above, behind_widest, hull_base, common_stride, farthest, hull, make}
use Rattle.value_set.specs.declared.form.Progression.{Progression}
use Rattle.value_set.specs.declared.form.Form.TheVariants.{Run}
use Rattle.value_set.specs.ListFacts.{Contains_from_in}
use Rattle.value_set.specs.StepFacts.{length-steps, steps_from, steps_more}
use Rattle.value_set.proofs.Making.{make-whole, make-open}
use Rattle.value_set.proofs.Divisors.{gcd_right, gcd-zero, gcd-step}
use Rattle.value_set.proofs.Members.{Ascends-in, Ascends-order, Ascends-lower, Ascends-put, length-put, Ascends-put_all, length-put_all, put_found, put_insert, put_above_all, put_all-push}
use Rattle.value_set.proofs.Rounds.{above_below, run_below, mod_low}
use Rattle.value_set.proofs.Spans.{hull_base_in, hull_is, widest-wider, widest-narrow, widest-nil}

-- the lesser number first
pub gcd_turned : (a b : ℕ) → a < b → gcd b a ≡ gcd a b
gcd_turned a b h = sym (gcd-step a b (omega arith) ∙ ap (λ (n : ℕ). gcd b n) (mod_low a b h))

pub gcd_below : (a b m : ℕ) → a < m → b < m → gcd a b < m
gcd_below a b m h k = elim (cases_eq b 0) [
  | inl none ↦ let e = gcd-zero a b none in omega (arith, e)
  | inr some ↦ let low = le_of_dvd {m = gcd a b} {n = b} (omega (arith, some)) (gcd_right a b) in omega (arith, low)
]

strides_below : (m from g : ℕ) (xs : List ℕ) → 0 < m → g < m → fold (λ g v. gcd g (above m from v)) g xs < m
strides_below m from g [] pos h = h
strides_below m from g (x ∷ xs) pos h = strides_below m from (gcd g (above m from x)) xs pos (gcd_below g (above m from x) m h (above_below m from x pos))

pub common_stride_below : (m from : ℕ) (xs : List ℕ) → 0 < m → common_stride m from xs < m
common_stride_below m from xs pos = strides_below m from 0 xs pos pos

pub hull_base_below : (m : ℕ) (xs : List ℕ) → 1 ≤ length xs → Ascends 0 m xs → hull_base m xs < m
hull_base_below m xs h a = (Ascends-in 0 m (hull_base m xs) xs a (hull_base_in m xs h)).1

-- ---- a search among ascending numbers

pub placed : (m v place : ℕ) (xs ys : List ℕ) → xs ≡ ys → Ascends 0 m ys
    → IsBinarySearchResult (λ y. nat_cmp y v) xs (Err place) → insert ys place v ≡ put v ys
placed m v place xs ys same a h =
    let h' : IsBinarySearchResult (λ y. nat_cmp y v) ys (Err place) = subst (λ (zs : List ℕ). IsBinarySearchResult (λ y. nat_cmp y v) zs (Err place)) same h in
    let found = searched ys v (Err place) h' (λ i j l k. Ascends-order 0 m i j ys a l k) in
    put_insert v place ys found.0 found.1 found.2

pub there : (m v place : ℕ) (xs ys : List ℕ) → xs ≡ ys → Ascends 0 m ys
    → IsBinarySearchResult (λ y. nat_cmp y v) xs (Ok place) → ys ≡ put v ys
there m v place xs ys same a h =
    let h' : IsBinarySearchResult (λ y. nat_cmp y v) ys (Ok place) = subst (λ (zs : List ℕ). IsBinarySearchResult (λ y. nat_cmp y v) zs (Ok place)) same h in
    let found = searched ys v (Ok place) h' (λ i j l k. Ascends-order 0 m i j ys a l k) in
    sym (put_found 0 m v place ys a found.0 found.1)

-- a number above the last one goes behind it
put_behind : (m v : ℕ) (xs : List ℕ) → Ascends 0 m xs → (1 ≤ length xs → get_or xs (length xs - 1) 0 < v) → xs ++ v ∷ [] ≡ put v xs
put_behind m v xs a last = sym (put_above_all v xs (λ w i.
    let at = Contains_from_in xs w i in
    let high = Ascends-order 0 m at.0 (length xs - 1) xs a (omega (arith, at.1)) (omega (arith, at.1)) in
    omega (arith, high, last (omega (arith, at.1)), get_or_default_zero xs at.0 w at.1, at.2)))

pub behind : (m v : ℕ) (xs ys : List ℕ) → Ascends 0 m xs → ys ≡ xs → (1 ≤ length ys → get_or ys (length ys - 1) 0 < v)
    → xs ++ v ∷ [] ≡ put v xs
behind m v xs ys a same last = put_behind m v xs a (subst (λ (zs : List ℕ). 1 ≤ length zs → get_or zs (length zs - 1) 0 < v) same last)

pub put_ascends : (m v : ℕ) (xs ys : List ℕ) → ys ≡ put v xs → v < m → Ascends 0 m xs → Ascends 0 m ys
put_ascends m v xs ys is h a = subst (λ (zs : List ℕ). Ascends 0 m zs) (sym is) (Ascends-put 0 m v xs (omega arith) h a)

pub put_longer : (v : ℕ) (xs ys : List ℕ) → ys ≡ put v xs → length ys ≤ length xs + 1
put_longer v xs ys is = omega (arith, ap length is, length-put v xs)

-- ---- the numbers of a run

pub steps_ascend : (m base stride count : ℕ) → 0 < m → Ascends 0 m (ascending (steps m base stride count))
steps_ascend m base stride count pos = Ascends-put_all m [] (steps m base stride count)
    (λ v i. run_below m base stride count v pos (steps_from m base stride count v (Contains_from_in (steps m base stride count) v i))) tt

pub Ascends-wider : (low m n : ℕ) (xs : List ℕ) → m ≤ n → Ascends low m xs → Ascends low n xs
Ascends-wider low m n [] h a = tt
Ascends-wider low m n (x ∷ xs) h a = (a.0, omega arith, Ascends-wider (x + 1) m n xs h a.2)

pub steps_room : (m base stride count : ℕ) → length (ascending (steps m base stride count)) ≤ count
steps_room m base stride count = omega (arith, length-put_all [] (steps m base stride count), length-steps m base stride count)

pub one_more_step : (m base stride count : ℕ)
    → ascending (steps m base stride (count + 1)) ≡ put ((base + count * stride) % m) (ascending (steps m base stride count))
one_more_step m base stride count = ap (λ (xs : List ℕ). ascending xs) (steps_more m base stride count) ∙ put_all-push [] (steps m base stride count) ((base + count * stride) % m)

-- ---- the widest gap

pub hull_base-from : (m : ℕ) (xs : List ℕ) → 1 ≤ length xs
    → hull_base m xs ≡ behind_widest (get_or xs 0 0) (get_or xs 0 0 + m - get_or xs (length xs - 1) 0) (get_or xs 0 0) (drop 1 xs)
unfolding hull_base
hull_base-from m [] h = absurd (omega arith)
hull_base-from m (x ∷ xs) h = let e : length (x ∷ xs) - 1 ≡ length xs = omega arith in
    ap (λ (n : ℕ). behind_widest x (x + m - get_or (x ∷ xs) n 0) x xs) (sym e)

pub Ascends-rest : (m : ℕ) (xs : List ℕ) → 1 ≤ length xs → Ascends 0 m xs → Ascends (get_or xs 0 0) m (drop 1 xs)
Ascends-rest m [] h a = tt
Ascends-rest m (x ∷ xs) h a = Ascends-lower (x + 1) x m xs (omega arith) a.2

pub drop_at : (xs : List ℕ) (i : ℕ) → i < length xs → drop i xs ≡ get_or xs i 0 ∷ drop (i + 1) xs
drop_at xs i h = drop-cons xs i 0 h ∙ ap (λ (n : ℕ). get_or xs i 0 ∷ drop n xs) (let e : suc i ≡ i + 1 = omega arith in e)

pub Ascends-next : (low m i : ℕ) (xs : List ℕ) → i < length xs → Ascends low m (drop i xs)
    → (low ≤ get_or xs i 0) × (get_or xs i 0 < m) × Ascends (get_or xs i 0) m (drop (i + 1) xs)
Ascends-next low m i xs h a =
    let here = subst (λ (ys : List ℕ). Ascends low m ys) (drop_at xs i h) a in
    (here.0, here.1, Ascends-lower (get_or xs i 0 + 1) (get_or xs i 0) m (drop (i + 1) xs) (omega arith) here.2)

pub gap_wider : (best width previous i base gap : ℕ) (xs : List ℕ) → i < length xs → width < get_or xs i 0 - previous
    → base ≡ get_or xs i 0 → gap ≡ get_or xs i 0 - previous
    → behind_widest base gap (get_or xs i 0) (drop (i + 1) xs) ≡ behind_widest best width previous (drop i xs)
gap_wider best width previous i base gap xs h wider base_is gap_is =
    ap (λ (n : ℕ). behind_widest n gap (get_or xs i 0) (drop (i + 1) xs)) base_is
    ∙ ap (λ (n : ℕ). behind_widest (get_or xs i 0) n (get_or xs i 0) (drop (i + 1) xs)) gap_is
    ∙ sym (widest-wider best width previous (get_or xs i 0) (drop (i + 1) xs) wider)
    ∙ ap (λ (ys : List ℕ). behind_widest best width previous ys) (sym (drop_at xs i h))

pub gap_narrow : (best width previous i base gap : ℕ) (xs : List ℕ) → i < length xs → get_or xs i 0 - previous ≤ width
    → base ≡ best → gap ≡ width
    → behind_widest base gap (get_or xs i 0) (drop (i + 1) xs) ≡ behind_widest best width previous (drop i xs)
gap_narrow best width previous i base gap xs h narrow base_is gap_is =
    ap (λ (n : ℕ). behind_widest n gap (get_or xs i 0) (drop (i + 1) xs)) base_is
    ∙ ap (λ (n : ℕ). behind_widest best n (get_or xs i 0) (drop (i + 1) xs)) gap_is
    ∙ sym (widest-narrow best width previous (get_or xs i 0) (drop (i + 1) xs) narrow)
    ∙ ap (λ (ys : List ℕ). behind_widest best width previous ys) (sym (drop_at xs i h))

pub gap_end : (best width previous i : ℕ) (xs : List ℕ) → length xs ≤ i → behind_widest best width previous (drop i xs) ≡ best
gap_end best width previous i xs h = ap (λ (ys : List ℕ). behind_widest best width previous ys) (drop_all i xs h) ∙ widest-nil best width previous

-- ---- short runs, and what is made

pub steps_none : (m base stride : ℕ) → [] ≡ ascending (steps m base stride 0)
unfolding steps
steps_none m base stride = refl

pub made_whole : (m b d c base : ℕ) → 16 < c → c * d ≡ m → base ≡ b % d → Run (record { base = base; stride = d; count = c }) ≡ make m b d c
made_whole m b d c base h e is = ap (λ (n : ℕ). Run (record { base = n; stride = d; count = c })) is ∙ sym (make-whole m b d c h e)

pub made_open : (m b d c base : ℕ) → 16 < c → (c * d ≡ m → ⊥) → base ≡ b % m
    → Run (record { base = base; stride = d; count = c }) ≡ make m b d c
made_open m b d c base h e is = ap (λ (n : ℕ). Run (record { base = n; stride = d; count = c })) is ∙ sym (make-open m b d c h e)

pub hull_made : (m base stride far count : ℕ) (xs : List ℕ) → base ≡ hull_base m xs → stride ≡ common_stride m base xs
    → far ≡ farthest m base xs
    → count ≡ far / stride + 1 → let made : Progression = record { base = base; stride = stride; count = count } in made ≡ hull m xs
unfolding hull
hull_made m base stride far count xs b s f k =
    let s' : stride ≡ common_stride m (hull_base m xs) xs = s ∙ ap (λ (n : ℕ). common_stride m n xs) b in
    let f' : far ≡ farthest m (hull_base m xs) xs = f ∙ ap (λ (n : ℕ). farthest m n xs) b in
    let k' : count ≡ farthest m (hull_base m xs) xs / common_stride m (hull_base m xs) xs + 1 = k ∙ ap (λ (n : ℕ). n / stride + 1) f' ∙ ap (λ (n : ℕ). farthest m (hull_base m xs) xs / n + 1) s' in
    cc (b, s', k')

pub hull_spans : (m base stride far count : ℕ) (xs : List ℕ) → base ≡ hull_base m xs → stride ≡ common_stride m base xs
    → far ≡ farthest m base xs
    → count ≡ far / stride + 1 → 1 ≤ length xs → Ascends 0 m xs → IsSpan m base stride count
hull_spans m base stride far count xs b s f k h a =
    subst (λ (p : Progression). IsSpan m p.base p.stride p.count) (sym (hull_made m base stride far count xs b s f k)) (hull_is m xs h a)
