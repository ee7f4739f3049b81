-- The widest gap among ascending numbers that come one by one, or a page at a time.
use Rattle.std.proofs.Common.{◌≡◌, ℕ, ◌+◌, ◌-◌, ◌/◌, ◌<◌, ◌≤◌, List, [], ◌∷◌, length, drop, get_or, refl, sym, ◌∙◌, ap, subst, inl, inr, arith, map, take, ◌++◌, Bool, true, false, get_or-set_same, get_or-set_other}
use Prim.Native.Nat.{zero, suc, ◌∣◌}
use Rattle.std.specs.Prelude.{◌⊎◌}
use Rattle.std.specs.List.{fold, All, Contains}
use Rattle.std.proofs.Math.ListN.{set, replicate}
use Rattle.std.proofs.lemmas.List.Elements.{Contains-append_left, Contains-push, Contains-push_cases}
use Rattle.std.proofs.lemmas.Bool.{cases_lt, cases_eq, cases_order, lt-ltb, le-ltb, false≢true}
use Rattle.std.proofs.lemmas.List.{map-append, take-append-drop, take_more}
use Rattle.std.proofs.lemmas.List.Sums.{fold-append}
use Rattle.std.proofs.Math.Nat.{le_of_dvd}
use Rattle.value_set.specs.Form.{Ascends, put, put_all, ascending, behind_widest, hull_base, greater, above, common_stride, farthest, hull, make, gather, Fits, IsSpan}
use Rattle.value_set.specs.Gaps.{decided, onward, lesser, HasMarks}
use Rattle.value_set.specs.declared.gap.Gap.{Gap}
use Rattle.value_set.proofs.Members.{Ascends-in, put_all_has, in_ascending, put-same, put-below, put-above, put_all-append, put_all-push}
use Rattle.value_set.proofs.Gathers.{hull_base-from, hull_made}
use Rattle.value_set.proofs.Divisors.{gcd_is, gcd_left, gcd-zero}
use Rattle.value_set.proofs.Spans.{widest-wider, widest-narrow, widest-nil, greater_left, greater_right, stride_divides, farthest_has, hull_is, span_fits, set_of-many, divisor_positive}
use Rattle.std.proofs.lemmas.Nat.Gcd.{dvd-zero, dvd_antisymm}
use Rattle.value_set.specs.Gcd.{gcd}
use Rattle.value_set.specs.declared.form.Progression.{Progression}
use Rattle.value_set.specs.ListFacts.{IsIn, in_from_Contains, Contains_from_in}

pub wider : (gap : Gap) (value width : ℕ) (xs : List ℕ) → width ≡ value - gap.previous → gap.width < width
    → decided (record { base = value; width = width; previous = value }) xs ≡ decided gap (value ∷ xs)
wider gap value width xs is h = ap (λ (w : ℕ). behind_widest value w value xs) is
    ∙ sym (widest-wider gap.base gap.width gap.previous value xs (omega (arith, is, h)))

pub narrow : (gap : Gap) (value width : ℕ) (xs : List ℕ) → width ≡ value - gap.previous → width ≤ gap.width
    → decided (record { base = gap.base; width = gap.width; previous = value }) xs ≡ decided gap (value ∷ xs)
narrow gap value width xs is h = sym (widest-narrow gap.base gap.width gap.previous value xs (omega (arith, is, h)))

-- ---- from the least number round the circle

least_first : (least m : ℕ) (xs : List ℕ) → Ascends 0 m xs → IsIn least xs → ((v : ℕ) → IsIn v xs → least ≤ v) → get_or xs 0 0 ≡ least
least_first least m [] a here all = absurd here
least_first least m (x ∷ xs) a (inl e) all = e
least_first least m (x ∷ xs) a (inr i) all = let low = Ascends-in (x + 1) m least xs a.2 i in let high = all x (inl refl) in omega (arith, low.0, high)

greatest_last : (low m most x : ℕ) (xs : List ℕ) → Ascends low m (x ∷ xs) → IsIn most (x ∷ xs)
    → ((v : ℕ) → IsIn v (x ∷ xs) → v ≤ most) → get_or (x ∷ xs) (length xs) 0 ≡ most
greatest_last low m most x [] a (inl e) all = e
greatest_last low m most x [] a (inr i) all = absurd i
greatest_last low m most x (y ∷ ys) a (inl e) all = let next = all y (inr (inl refl)) in absurd (omega (arith, next, e, a.2.0))
greatest_last low m most x (y ∷ ys) a (inr i) all = greatest_last (x + 1) m most y ys a.2 i (λ v j. all v (inr j))

last_of : (m most : ℕ) (xs : List ℕ) → Ascends 0 m xs → IsIn most xs → ((v : ℕ) → IsIn v xs → v ≤ most) → get_or xs (length xs - 1) 0 ≡ most
last_of m most [] a i all = absurd i
last_of m most (x ∷ xs) a i all = let e : length (x ∷ xs) - 1 ≡ length xs = omega arith in
    ap (λ (n : ℕ). get_or (x ∷ xs) n 0) e ∙ greatest_last 0 m most x xs a i all

lesser_left : (a b : ℕ) → lesser a b ≤ a
lesser_left a b = elim (cases_lt b a) [ inl low ↦ rw (lt-ltb b a low) (omega arith) | inr high ↦ rw (le-ltb b a high) (omega arith) ]

lesser_right : (a b : ℕ) → lesser a b ≤ b
lesser_right a b = elim (cases_lt b a) [ inl low ↦ rw (lt-ltb b a low) (omega arith) | inr high ↦ rw (le-ltb b a high) high ]

fold_lesser_kept : (r : ℕ) (xs : List ℕ) → fold lesser r xs ≤ r
fold_lesser_kept r [] = omega arith
fold_lesser_kept r (x ∷ xs) = omega (arith, fold_lesser_kept (lesser r x) xs, lesser_left r x)

fold_lesser_all : (r v : ℕ) (xs : List ℕ) → IsIn v xs → fold lesser r xs ≤ v
fold_lesser_all r v [] i = absurd i
fold_lesser_all r v (x ∷ xs) (inl e) = omega (arith, e, fold_lesser_kept (lesser r x) xs, lesser_right r x)
fold_lesser_all r v (x ∷ xs) (inr i) = fold_lesser_all (lesser r x) v xs i

-- a fold that takes one of two numbers gives the first, or one of the list
fold_in : (f : ℕ → ℕ → ℕ) → ((a b : ℕ) → (f a b ≡ a) ⊎ (f a b ≡ b)) → (r : ℕ) (xs : List ℕ) → IsIn (fold f r xs) (r ∷ xs)
fold_in f one r [] = inl refl
fold_in f one r (x ∷ xs) = elim (fold_in f one (f r x) xs) [
  | inr i ↦ inr (inr i)
  | inl e ↦ elim (one r x) [ inl first ↦ inl (sym first ∙ e) | inr second ↦ inr (inl (sym second ∙ e)) ]
]

one_lesser : (a b : ℕ) → (lesser a b ≡ a) ⊎ (lesser a b ≡ b)
one_lesser a b = elim (cases_lt b a) [ inl low ↦ inr (rw (lt-ltb b a low) refl) | inr high ↦ inl (rw (le-ltb b a high) refl) ]

one_greater : (a b : ℕ) → (greater a b ≡ a) ⊎ (greater a b ≡ b)
one_greater a b = elim (cases_lt a b) [ inl low ↦ inr (rw (lt-ltb a b low) refl) | inr high ↦ inl (rw (le-ltb a b high) refl) ]

fold_greater_kept : (r : ℕ) (xs : List ℕ) → r ≤ fold greater r xs
fold_greater_kept r [] = omega arith
fold_greater_kept r (x ∷ xs) = omega (arith, fold_greater_kept (greater r x) xs, greater_left r x)

fold_greater_all : (r v : ℕ) (xs : List ℕ) → IsIn v xs → v ≤ fold greater r xs
fold_greater_all r v [] i = absurd i
fold_greater_all r v (x ∷ xs) (inl e) = omega (arith, e, fold_greater_kept (greater r x) xs, greater_right r x)
fold_greater_all r v (x ∷ xs) (inr i) = fold_greater_all (greater r x) v xs i

least_in : (xs : List ℕ) → 1 ≤ length xs → ((v : ℕ) → IsIn v xs → v < 65536) → IsIn (fold lesser 65535 xs) xs
least_in [] h below = absurd (omega arith)
least_in (x ∷ xs) h below = elim (fold_in lesser one_lesser 65535 (x ∷ xs)) [
  | inr i ↦ i
  | inl e ↦ inl (let low = fold_lesser_all 65535 x (x ∷ xs) (inl refl) in let fits = below x (inl refl) in omega (arith, low, e, fits))
]

greatest_in : (xs : List ℕ) → 1 ≤ length xs → IsIn (fold greater 0 xs) xs
greatest_in [] h = absurd (omega arith)
greatest_in (x ∷ xs) h = elim (fold_in greater one_greater 0 (x ∷ xs)) [
  | inr i ↦ i
  | inl e ↦ inl (let high = fold_greater_all 0 x (x ∷ xs) (inl refl) in omega (arith, high, e))
]

pub greatest_below : (m : ℕ) (xs : List ℕ) → 1 ≤ length xs → ((v : ℕ) → IsIn v xs → v < m) → fold greater 0 xs < m
greatest_below m xs h below = below (fold greater 0 xs) (greatest_in xs h)

pub from_around : (m : ℕ) (xs : List ℕ) (gap : Gap) → 1 ≤ length xs
    → gap ≡ record { base = get_or xs 0 0; width = get_or xs 0 0 + m - get_or xs (length xs - 1) 0; previous = get_or xs 0 0 }
    → decided gap (drop 1 xs) ≡ hull_base m xs
from_around m xs gap h is = ap (λ (g : Gap). decided g (drop 1 xs)) is ∙ sym (hull_base-from m xs h)

-- the first number changes nothing when it comes again
from_first : (m x last : ℕ) (xs : List ℕ) → last < x + m → behind_widest x (x + m - last) x (x ∷ xs) ≡ behind_widest x (x + m - last) x xs
from_first m x last xs h = widest-narrow x (x + m - last) x x xs (omega arith)

pub from_ends : (m : ℕ) (xs : List ℕ) (gap : Gap) → 1 ≤ length xs → Ascends 0 m xs
    → gap ≡ record { base = get_or xs 0 0; width = get_or xs 0 0 + m - get_or xs (length xs - 1) 0; previous = get_or xs 0 0 }
    → IsIn (get_or xs (length xs - 1) 0) xs
    → (decided gap xs ≡ hull_base m xs) × Ascends gap.previous m xs
from_ends m [] gap h a is i = absurd (omega arith)
from_ends m (x ∷ xs) gap h a is i =
    let low = Ascends-in 0 m (get_or (x ∷ xs) (length (x ∷ xs) - 1) 0) (x ∷ xs) a i in
    let first : gap.previous ≡ x = ap (λ (g : Gap). g.previous) is in (
      ap (λ (g : Gap). decided g (x ∷ xs)) is ∙ from_first m x (get_or (x ∷ xs) (length (x ∷ xs) - 1) 0) xs (omega (arith, low.1)) ∙ sym (hull_base-from m (x ∷ xs) h),
      (omega (arith, first), a.1, a.2),
    )

pub around_list : (m : ℕ) (xs : List ℕ) (gap : Gap) → 1 ≤ length xs → m ≤ 65536 → 1 ≤ length (ascending xs)
    → ((v : ℕ) → IsIn v xs → v < m) → Ascends 0 m (ascending xs)
    → gap ≡ record { base = fold lesser 65535 xs; width = fold lesser 65535 xs + m - fold greater 0 xs; previous = fold lesser 65535 xs }
    → (decided gap (ascending xs) ≡ hull_base m (ascending xs)) × Ascends gap.previous m (ascending xs)
around_list m xs gap h small some below a is =
    let first = least_first (fold lesser 65535 xs) m (ascending xs) a
    (put_all_has (fold lesser 65535 xs) [] xs (least_in xs h (λ v i. omega (arith, below v i)))) (λ v i. fold_lesser_all 65535 v xs (in_ascending v xs i)) in
    let last = last_of m (fold greater 0 xs) (ascending xs) a
    (put_all_has (fold greater 0 xs) [] xs (greatest_in xs h)) (λ v i. fold_greater_all 0 v xs (in_ascending v xs i)) in
    let there : IsIn (get_or (ascending xs) (length (ascending xs) - 1) 0) (ascending xs) =
    subst (λ (v : ℕ). IsIn v (ascending xs)) (sym last) (put_all_has (fold greater 0 xs) [] xs (greatest_in xs h)) in
    let same : gap ≡ record { base = get_or (ascending xs) 0 0; width = get_or (ascending xs) 0 0 + m - get_or (ascending xs) (length (ascending xs) - 1) 0; previous = get_or (ascending xs) 0 0 } =
    is ∙ ap (λ (f : ℕ). let g : Gap = record { base = f; width = f + m - fold greater 0 xs; previous = f } in g) (sym first)
    ∙ ap (λ (n : ℕ). let g : Gap = record { base = get_or (ascending xs) 0 0; width = get_or (ascending xs) 0 0 + m - n; previous = get_or (ascending xs) 0 0 } in g) (sym last) in
    from_ends m (ascending xs) gap some a same there

-- ---- the numbers from one on

onward_past : (from x : ℕ) (xs : List ℕ) → x < from → onward from (x ∷ xs) ≡ onward from xs
onward_past from x xs h = rw (lt-ltb x from h) refl

onward_stop : (from x : ℕ) (xs : List ℕ) → from ≤ x → onward from (x ∷ xs) ≡ x ∷ xs
onward_stop from x xs h = rw (le-ltb x from h) refl

pub onward_all : (from low m : ℕ) (xs : List ℕ) → from ≤ low → Ascends low m xs → onward from xs ≡ xs
onward_all from low m [] h a = refl
onward_all from low m (x ∷ xs) h a = onward_stop from x xs (omega (arith, a.0))

pub onward_end : (from low m : ℕ) (xs : List ℕ) → m ≤ from → Ascends low m xs → onward from xs ≡ []
onward_end from low m [] h a = refl
onward_end from low m (x ∷ xs) h a = onward_past from x xs (omega (arith, a.1)) ∙ onward_end from (x + 1) m xs h a.2

pub onward_here : (at low m : ℕ) (xs : List ℕ) → Ascends low m xs → IsIn at xs → onward at xs ≡ at ∷ onward (at + 1) xs
onward_here at low m [] a i = absurd i
onward_here at low m (x ∷ xs) a i = elim (cases_order at x) [
  | inl same ↦ onward_stop at x xs (omega arith) ∙ ap (λ (n : ℕ). n ∷ xs) (sym same)
      ∙ ap (λ (ys : List ℕ). at ∷ ys) (sym (onward_past (at + 1) x xs (omega arith) ∙ onward_all (at + 1) (x + 1) m xs (omega arith) a.2))
  | inr (inl below) ↦ absurd (elim i [ inl e ↦ omega (arith, e) | inr j ↦ (let low = Ascends-in (x + 1) m at xs a.2 j in omega (arith, low.0)) ])
  | inr (inr above) ↦ onward_past at x xs above
      ∙ onward_here at (x + 1) m xs a.2 (elim i [ inl e ↦ absurd (omega (arith, e)) | inr j ↦ j ])
      ∙ ap (λ (ys : List ℕ). at ∷ ys) (sym (onward_past (at + 1) x xs (omega arith)))
]

pub onward_gap : (at low m : ℕ) (xs : List ℕ) → Ascends low m xs → (IsIn at xs → ⊥) → onward at xs ≡ onward (at + 1) xs
onward_gap at low m [] a none = refl
onward_gap at low m (x ∷ xs) a none = elim (cases_order at x) [
  | inl same ↦ absurd (none (inl (sym same)))
  | inr (inl below) ↦ onward_stop at x xs (omega arith) ∙ sym (onward_stop (at + 1) x xs (omega arith))
  | inr (inr above) ↦ onward_past at x xs above ∙ onward_gap at (x + 1) m xs a.2 (λ i. none (inr i)) ∙ sym (onward_past (at + 1) x xs (omega arith))
]

pub onward_rises : (from low m : ℕ) (xs : List ℕ) → Ascends low m xs → Ascends from m (onward from xs)
onward_rises from low m [] a = tt
onward_rises from low m (x ∷ xs) a = elim (cases_lt x from) [
  | inl past ↦ rw (onward_past from x xs past) (onward_rises from (x + 1) m xs a.2)
  | inr stop ↦ rw (onward_stop from x xs stop) (stop, a.1, a.2)
]

-- ---- page by page

pub pushed : {X : Type 0} (f : X → ℕ) (list : List X) (i v : ℕ) (item : X) → i < length list → item ≡ get_or list i item → v ≡ f item
    → map f (take (i + 1) list) ≡ map f (take i list) ++ v ∷ []
pushed {X} f list i v item h is value =
    ap (λ (xs : List X). map f xs) (take_more list i item h) ∙ map-append f (take i list) (get_or list i item ∷ [])
    ∙ ap (λ (x : X). map f (take i list) ++ f x ∷ []) (sym is) ∙ ap (λ (n : ℕ). map f (take i list) ++ n ∷ []) (sym value)

pub marked_here : (low v place : ℕ) (xs : List ℕ) (marked : List Bool) → HasMarks low xs marked → length marked ≡ 4096
    → v ≡ low + place → place < 4096 → HasMarks low (xs ++ v ∷ []) (set marked place true)
marked_here low v place xs marked marks size is short k below = elim (cases_eq k place) [
  | inl same ↦ let e : v ≡ low + k = omega arith in (
    λ t. subst (λ (n : ℕ). Contains (xs ++ v ∷ []) n) e (Contains-push xs v),
    λ t. let here : place < length marked = omega arith in subst (λ (n : ℕ). get_or (set marked place true) n false ≡ true) (sym same) (get_or-set_same marked place true false here),
  )
  | inr other ↦ let e : get_or (set marked place true) k false ≡ get_or marked k false = get_or-set_other marked place k true false other in (
    λ t. Contains-append_left xs (v ∷ []) (low + k) ((marks k below).0 (sym e ∙ t)),
    λ t. e ∙ (marks k below).1 (elim (Contains-push_cases xs v (low + k) t) [ inl earlier ↦ earlier | inr last ↦ absurd (other (omega (arith, last, is))) ]),
  )
]

pub marked_elsewhere : (low v : ℕ) (xs : List ℕ) (marked : List Bool) → HasMarks low xs marked
    → (v < low) ⊎ (low + 4096 ≤ v) → HasMarks low (xs ++ v ∷ []) marked
marked_elsewhere low v xs marked marks far k below = (
  λ t. Contains-append_left xs (v ∷ []) (low + k) ((marks k below).0 t),
  λ t. (marks k below).1 (elim (Contains-push_cases xs v (low + k) t) [
    | inl earlier ↦ earlier
    | inr last ↦ absurd (elim far [ inl under ↦ omega (arith, last, under) | inr over ↦ omega (arith, last, over, below) ])
  ]),
)

pub none_marked : (n k : ℕ) → get_or (replicate n false) k false ≡ false
none_marked zero k = refl
none_marked (suc n) zero = refl
none_marked (suc n) (suc k) = none_marked n k

pub no_marks : (low : ℕ) → HasMarks low [] (replicate 4096 false)
no_marks low k below = (λ t. absurd (false≢true (sym (none_marked 4096 k) ∙ t)), λ t. absurd (omega (arith, t.1)))

put_wider : (w : ℕ) (xs : List ℕ) → length xs ≤ length (put w xs)
put_wider w [] = omega arith
put_wider w (x ∷ xs) = elim (cases_order w x) [
  | inl same ↦ rw (put-same w x xs same) (omega arith)
  | inr (inl below) ↦ rw (put-below w x xs below) (omega arith)
  | inr (inr above) ↦ rw (put-above w x xs above) (omega (arith, put_wider w xs))
]

pub few_enough : (held xs : List ℕ) → length held ≤ length (put_all held xs)
few_enough held [] = omega arith
few_enough held (x ∷ xs) = omega (arith, few_enough (put x held) xs, put_wider x held)

-- what has come makes more than there was
pub many_so_far : {X : Type 0} (f : X → ℕ) (i : ℕ) (list : List X)
    → length (ascending (map f (take i list))) ≤ length (ascending (map f list))
many_so_far {X} f i list =
    let split : map f list ≡ map f (take i list) ++ map f (drop i list) = ap (λ (xs : List X). map f xs) (sym (take-append-drop i list)) ∙ map-append f (take i list) (drop i list) in
    let whole : ascending (map f list) ≡ put_all (ascending (map f (take i list))) (map f (drop i list)) =
    ap (λ (xs : List ℕ). ascending xs) split ∙ put_all-append [] (map f (take i list)) (map f (drop i list)) in
    omega (arith, ap length whole, few_enough (ascending (map f (take i list))) (map f (drop i list)))

pub one_more : {X : Type 0} (f : X → ℕ) (list : List X) (i v : ℕ) (item : X) → i < length list → item ≡ get_or list i item → v ≡ f item
    → ascending (map f (take (i + 1) list)) ≡ put v (ascending (map f (take i list)))
one_more {X} f list i v item h is value = ap (λ (xs : List ℕ). ascending xs) (pushed f list i v item h is value) ∙ put_all-push [] (map f (take i list)) v

-- once a stride is 1 it stays so
gcd_one : (n : ℕ) → gcd 1 n ≡ 1
gcd_one n = elim (cases_eq n 0) [
  | inl none ↦ gcd-zero 1 n none
  | inr some ↦
      let least = divisor_positive n 1 (omega (arith, some)) in
      let most = le_of_dvd {m = gcd 1 n} {n = 1} (omega arith) (gcd_left 1 n) in
      omega (arith, least, most)
]

stays_one : (m from : ℕ) (xs : List ℕ) → fold (λ g v. gcd g (above m from v)) 1 xs ≡ 1
stays_one m from [] = refl
stays_one m from (x ∷ xs) = ap (λ (g : ℕ). fold (λ g v. gcd g (above m from v)) g xs) (gcd_one (above m from x)) ∙ stays_one m from xs

pub one_already : {X : Type 0} (f : X → ℕ) (m from i stride : ℕ) (list : List X)
    → stride ≡ common_stride m from (map f (take i list)) → stride ≡ 1
    → 1 ≡ common_stride m from (map f list)
one_already {X} f m from i stride list so_far is =
    let split : map f list ≡ map f (take i list) ++ map f (drop i list) = ap (λ (xs : List X). map f xs) (sym (take-append-drop i list)) ∙ map-append f (take i list) (drop i list) in
    sym (ap (λ (xs : List ℕ). common_stride m from xs) split
    ∙ fold-append (λ g v. gcd g (above m from v)) 0 (map f (take i list)) (map f (drop i list))
    ∙ ap (λ (g : ℕ). fold (λ g v. gcd g (above m from v)) g (map f (drop i list))) (sym so_far ∙ is)
    ∙ stays_one m from (map f (drop i list)))

pub All_below : (low m : ℕ) (xs : List ℕ) → Ascends low m xs → All (λ x. x < m) xs
All_below low m [] a i d h = absurd (omega arith)
All_below low m (x ∷ xs) a zero d h = a.1
All_below low m (x ∷ xs) a (suc i) d h = All_below (x + 1) m xs a.2 i d (omega arith)

-- a marked number comes next
pub next_marked : (low place m : ℕ) (numbers : List ℕ) (marked : List Bool) → Ascends 0 m (ascending numbers)
    → HasMarks low numbers marked → place < 4096 → get_or marked place false ≡ true
    → onward (low + place) (ascending numbers) ≡ (low + place) ∷ onward (low + (place + 1)) (ascending numbers)
next_marked low place m numbers marked a marks h t =
    let e : low + place + 1 ≡ low + (place + 1) = omega arith in
    onward_here (low + place) 0 m (ascending numbers) a (put_all_has (low + place) [] numbers (in_from_Contains numbers (low + place) ((marks place h).0 t)))
    ∙ ap (λ (n : ℕ). (low + place) ∷ onward n (ascending numbers)) e

-- an unmarked one doesn't
pub next_unmarked : (low place m : ℕ) (numbers : List ℕ) (marked : List Bool) → Ascends 0 m (ascending numbers)
    → HasMarks low numbers marked → place < 4096 → get_or marked place false ≡ false
    → onward (low + place) (ascending numbers) ≡ onward (low + (place + 1)) (ascending numbers)
next_unmarked low place m numbers marked a marks h t =
    let e : low + place + 1 ≡ low + (place + 1) = omega arith in
    onward_gap (low + place) 0 m (ascending numbers) a (λ i. false≢true (sym t ∙ (marks place h).1 (Contains_from_in numbers (low + place) (in_ascending (low + place) numbers i))))
    ∙ ap (λ (n : ℕ). onward n (ascending numbers)) e

-- ---- strides and distances of a list in any order

strides_greatest : (m b g d : ℕ) (xs : List ℕ) → d ∣ g → ((v : ℕ) → IsIn v xs → d ∣ above m b v)
    → d ∣ fold (λ g v. gcd g (above m b v)) g xs
strides_greatest m b g d [] h all = h
strides_greatest m b g d (x ∷ xs) h all = strides_greatest m b (gcd g (above m b x)) d xs ((gcd_is g (above m b x)).2 d h (all x (inl refl))) (λ v i. all v (inr i))

strides_within : (m b : ℕ) (xs ys : List ℕ) → ((v : ℕ) → IsIn v ys → IsIn v xs) → common_stride m b xs ∣ common_stride m b ys
strides_within m b xs ys all = strides_greatest m b 0 (common_stride m b xs) ys (dvd-zero (common_stride m b xs)) (λ v i. stride_divides m b 0 v xs (all v i))

pub stride_in_order : (m b : ℕ) (xs : List ℕ) → common_stride m b xs ≡ common_stride m b (ascending xs)
stride_in_order m b xs = dvd_antisymm (strides_within m b xs (ascending xs) (λ v i. in_ascending v xs i)) (strides_within m b (ascending xs) xs (λ v i. put_all_has v [] xs i))

greater_least : (a b n : ℕ) → a ≤ n → b ≤ n → greater a b ≤ n
greater_least a b n h k = elim (cases_lt a b) [ inl low ↦ rw (lt-ltb a b low) k | inr high ↦ rw (le-ltb a b high) h ]

farthest_least : (m b r n : ℕ) (xs : List ℕ) → r ≤ n → ((v : ℕ) → IsIn v xs → above m b v ≤ n)
    → fold (λ most v. greater most (above m b v)) r xs ≤ n
farthest_least m b r n [] h all = h
farthest_least m b r n (x ∷ xs) h all = farthest_least m b (greater r (above m b x)) n xs (greater_least r (above m b x) n h (all x (inl refl))) (λ v i. all v (inr i))

farthest_within : (m b : ℕ) (xs ys : List ℕ) → ((v : ℕ) → IsIn v ys → IsIn v xs) → farthest m b ys ≤ farthest m b xs
farthest_within m b xs ys all = farthest_least m b 0 (farthest m b xs) ys (omega arith) (λ v i. farthest_has m b 0 v xs (all v i))

pub farthest_in_order : (m b : ℕ) (xs : List ℕ) → farthest m b xs ≡ farthest m b (ascending xs)
farthest_in_order m b xs = omega (arith, farthest_within m b xs (ascending xs) (λ v i. in_ascending v xs i), farthest_within m b (ascending xs) xs (λ v i. put_all_has v [] xs i))

-- the hull of a list's numbers, made from the list as it is
pub hull_of_list : (m base stride far count : ℕ) (xs : List ℕ) → base ≡ hull_base m (ascending xs)
    → stride ≡ common_stride m base xs → far ≡ farthest m base xs
    → count ≡ far / stride + 1 → let made : Progression = record { base = base; stride = stride; count = count } in made ≡ hull m (ascending xs)
hull_of_list m base stride far count xs b s f k =
    hull_made m base stride far count (ascending xs) b (s ∙ stride_in_order m base xs) (f ∙ farthest_in_order m base xs) k

pub list_fits : (m base stride count : ℕ) (xs : List ℕ) → let made : Progression = record { base = base; stride = stride; count = count } in made ≡ hull m (ascending xs)
    → 1 ≤ length (ascending xs) → Ascends 0 m (ascending xs) → Fits m stride count
list_fits m base stride count xs is h a =
    span_fits m base stride count (subst (λ (p : Progression). IsSpan m p.base p.stride p.count) (sym is) (hull_is m (ascending xs) h a))

pub list_gathered : (m base stride count : ℕ) (xs : List ℕ) → let made : Progression = record { base = base; stride = stride; count = count } in made ≡ hull m (ascending xs)
    → 16 < length (ascending xs) → make m base stride count ≡ gather m xs
list_gathered m base stride count xs is h = ap (λ (p : Progression). make m p.base p.stride p.count) is ∙ sym (set_of-many m (ascending xs) h)

pub onward_none : (from m best : ℕ) (xs : List ℕ) (gap : Gap) → m ≤ from → Ascends 0 m xs
    → decided gap (onward from xs) ≡ best → gap.base ≡ best
onward_none from m best xs gap h a is = sym (widest-nil gap.base gap.width gap.previous) ∙ ap (λ (ys : List ℕ). decided gap ys) (sym (onward_end from 0 m xs h a)) ∙ is
