-- A cut has each member in the window, in the one form, and it is there exactly where some member is.
use Rattle.std.proofs.Common.{◌≡◌, ℕ, ◌+◌, ◌-◌, ◌*◌, ◌%◌, ◌/◌, ◌<◌, ◌≤◌, Bool, true, List, [], ◌∷◌, length, refl, sym, ◌∙◌, ap, subst, inl, inr, arith, ltb, Option, Some, None}
use Rattle.std.specs.List.{filter}
use Rattle.std.proofs.lemmas.Bool.{cases_lt, cases_eq, cases_Bool, eq-eqb, ne_eqb, lt-ltb, le-ltb, ltb-true}
use Rattle.std.proofs.Math.Nat.{mod-lt, le-div_iff_mul-le, mul-le-mul_right}
use Rattle.value_set.specs.declared.form.Progression.{Progression}
use Rattle.value_set.specs.declared.form.Form.{Form}
use Rattle.value_set.specs.declared.form.Form.TheVariants.{Values, Run}
use Rattle.value_set.specs.Form.{make, Has, IsNormal, IsNormalRun, Ascends, Fits, above}
use Rattle.value_set.specs.Joining.{join}
use Rattle.value_set.specs.Widening.{lesser}
use Rattle.value_set.specs.Cutting.{IfThere, list_or_none, count_below, part, join_parts, front_count, behind_base, cut_run, cut}
use Rattle.value_set.specs.ListFacts.{IsIn, in_from_Contains, Contains_from_in}
use Rattle.value_set.specs.StepFacts.{steps_from}
use Rattle.value_set.proofs.Members.{InRun, Ascends-lower, steps_has}
use Rattle.value_set.proofs.Rounds.{mod_low, mod_once, mod_cases, above_back, above_below, product_below, base_mod}
use Rattle.value_set.proofs.Making.{make_has, make_normal}
use Rattle.value_set.proofs.Inclusion.{seen}
use Rattle.value_set.proofs.Joins.{join_includes_first, join_includes_second, join_normal}

-- ---- lists

filtered_in : (test : ℕ → Bool) (v : ℕ) (xs : List ℕ) → IsIn v xs → test v ≡ true → IsIn v (filter test xs)
filtered_in test v [] i h = absurd i
filtered_in test v (x ∷ xs) (inl e) h = let t : test x ≡ true = ap test e ∙ h in rw t (inl e)
filtered_in test v (x ∷ xs) (inr i) h = elim (cases_Bool (test x)) [ inl t ↦ rw t (inr (filtered_in test v xs i h)) | inr f ↦ rw f (filtered_in test v xs i h) ]

pub in_filtered : (test : ℕ → Bool) (v : ℕ) (xs : List ℕ) → IsIn v (filter test xs) → IsIn v xs × (test v ≡ true)
in_filtered test v [] i = absurd i
in_filtered test v (x ∷ xs) i = elim (cases_Bool (test x)) [
  | inl t ↦ elim (rw t at i) [ inl e ↦ (inl e, ap test (sym e) ∙ t) | inr r ↦ let rest = in_filtered test v xs r in (inr rest.0, rest.1) ]
  | inr f ↦ let rest = in_filtered test v xs (rw f at i) in (inr rest.0, rest.1)
]

filtered_ascends : (test : ℕ → Bool) (low m : ℕ) (xs : List ℕ) → Ascends low m xs → Ascends low m (filter test xs)
filtered_ascends test low m [] a = tt
filtered_ascends test low m (x ∷ xs) a = elim (cases_Bool (test x)) [
  | inl t ↦ rw t (a.0, a.1, filtered_ascends test (x + 1) m xs a.2)
  | inr f ↦ rw f (Ascends-lower (x + 1) low m (filter test xs) (omega (arith, a.0)) (filtered_ascends test (x + 1) m xs a.2))
]

filtered_length : (test : ℕ → Bool) (xs : List ℕ) → length (filter test xs) ≤ length xs
filtered_length test [] = omega arith
filtered_length test (x ∷ xs) = let rest = filtered_length test xs in elim (cases_Bool (test x)) [ inl t ↦ rw t (omega (arith, rest)) | inr f ↦ rw f (omega (arith, rest)) ]

pub list_there : (ys : List ℕ) (P : Form → Type 0) → (1 ≤ length ys → P (Values ys)) → IfThere P (list_or_none ys)
list_there [] P h = tt
list_there (y ∷ ys) P h = h (omega arith)

list_none : (ys : List ℕ) → list_or_none ys ≡ None → (v : ℕ) → IsIn v ys → ⊥
list_none [] h v i = i
list_none (y ∷ ys) h v i = cc h

none_from_list : (ys : List ℕ) → ((v : ℕ) → IsIn v ys → ⊥) → list_or_none ys ≡ None
none_from_list [] h = refl
none_from_list (y ∷ ys) h = absurd (h y (inl refl))

-- ---- how many numbers lie below an end

pub count_below-some : (end base stride count : ℕ) → base < end
    → count_below end base stride count ≡ lesser count ((end - 1 - base) / stride + 1)
unfolding count_below
count_below-some end base stride count h = rw (lt-ltb base end h) refl

pub count_below-none : (end base stride count : ℕ) → end ≤ base → count_below end base stride count ≡ 0
unfolding count_below
count_below-none end base stride count h = rw (le-ltb base end h) refl

lesser_below : (i a b : ℕ) → i < a → i < b → i < lesser a b
lesser_below i a b h k = elim (cases_lt b a) [ inl low ↦ rw (lt-ltb b a low) k | inr high ↦ rw (le-ltb b a high) h ]

below_lesser : (i a b : ℕ) → i < lesser a b → (i < a) × (i < b)
below_lesser i a b h = elim (cases_lt b a) [ inl low ↦ let k : i < b = rw (lt-ltb b a low) at h in (omega arith, k) | inr high ↦ let k : i < a = rw (le-ltb b a high) at h in (k, omega arith) ]

pub counted : (end base stride count i : ℕ) → 0 < stride → i < count → base + i * stride < end → i < count_below end base stride count
counted end base stride count i pos short low =
    let under : i ≤ (end - 1 - base) / stride = (le-div_iff_mul-le {k = stride} {x = i} {y = end - 1 - base} pos).1 (omega arith) in
    let found = lesser_below i count ((end - 1 - base) / stride + 1) short (omega (arith, under)) in
    omega (arith, count_below-some end base stride count (omega arith), found)

pub count_tells : (end base stride count i : ℕ) → 0 < stride → i < count_below end base stride count
    → (i < count) × (base + i * stride < end)
count_tells end base stride count i pos h = elim (cases_lt base end) [
  | inl low ↦
      let found = below_lesser i count ((end - 1 - base) / stride + 1) (omega (arith, h, count_below-some end base stride count low)) in
      let under = (le-div_iff_mul-le {k = stride} {x = i} {y = end - 1 - base} pos).0 (omega (arith, found.1)) in
      (found.0, omega (arith, under, low))
  | inr high ↦ absurd (omega (arith, h, count_below-none end base stride count high))
]

-- ---- parts

pub part-none : (m base stride count : ℕ) → count ≡ 0 → part m base stride count ≡ None
part-none m base stride count h = rw (eq-eqb count 0 h) refl

pub part-some : (m base stride count : ℕ) → (count ≡ 0 → ⊥) → part m base stride count ≡ Some (make m base stride count)
part-some m base stride count h = rw (ne_eqb count 0 h) refl

pub part_normal : (m base stride count : ℕ) → (1 ≤ count → Fits m stride count) → IfThere (λ set. IsNormal m set) (part m base stride count)
part_normal m base stride count fits = elim (cases_eq count 0) [
  | inl none ↦ rw (part-none m base stride count none) tt
  | inr some ↦ rw (part-some m base stride count some) (make_normal m base stride count (fits (omega (arith, some))))
]

-- each number of the run is in the part
abbrev pub HasPart : (m v : ℕ) → Option Form → Type 0
HasPart m v found = (set : Form) × (found ≡ Some set) × Has m set v

part_has : (m base stride count v : ℕ) → Fits m stride count → InRun m base stride count v → HasPart m v (part m base stride count)
part_has m base stride count v fits run =
    (make m base stride count, part-some m base stride count (let some = fits.some in λ none. omega (arith, none, some)), make_has m base stride count v fits run)

joined_front : (m v : ℕ) (front behind : Option Form) → IfThere (λ set. IsNormal m set) front
    → IfThere (λ set. IsNormal m set) behind → HasPart m v front → HasPart m v (join_parts m front behind)
joined_front m v None behind n k (set, is, h) = cc is
joined_front m v (Some a) None n k (set, is, h) = (set, is, h)
joined_front m v (Some a) (Some b) n k (set, is, h) = let e : set ≡ a = cc is in (join m a b, refl, join_includes_first m a b n k v (subst (λ (s : Form). Has m s v) e h))

joined_behind : (m v : ℕ) (front behind : Option Form) → IfThere (λ set. IsNormal m set) front
    → IfThere (λ set. IsNormal m set) behind → HasPart m v behind → HasPart m v (join_parts m front behind)
joined_behind m v None behind n k h = h
joined_behind m v (Some a) None n k (set, is, h) = cc is
joined_behind m v (Some a) (Some b) n k (set, is, h) = let e : set ≡ b = cc is in (join m a b, refl, join_includes_second m a b n k v (subst (λ (s : Form). Has m s v) e h))

joined_normal : (m : ℕ) (front behind : Option Form) → IfThere (λ set. IsNormal m set) front
    → IfThere (λ set. IsNormal m set) behind → IfThere (λ set. IsNormal m set) (join_parts m front behind)
joined_normal m None behind n k = k
joined_normal m (Some a) None n k = n
joined_normal m (Some a) (Some b) n k = join_normal m a b n k

joined_none : (m : ℕ) (front behind : Option Form) → join_parts m front behind ≡ None → (front ≡ None) × (behind ≡ None)
joined_none m None behind h = (refl, h)
joined_none m (Some a) None h = cc h
joined_none m (Some a) (Some b) h = cc h

none_joined : (m : ℕ) (front behind : Option Form) → front ≡ None → behind ≡ None → join_parts m front behind ≡ None
none_joined m None behind h k = k
none_joined m (Some a) behind h k = cc h

-- ---- runs

-- the base, seen from the low end
pub base_seen : (m low : ℕ) (p : Progression) → low < m → p.base < m → (low + above m low p.base) % m ≡ p.base
base_seen m low p h k = above_back m low p.base h k

number_seen : (m low i : ℕ) (p : Progression) → low < m → p.base < m
    → above m low ((p.base + i * p.stride) % m) ≡ (above m low p.base + i * p.stride) % m
number_seen m low i p h k = let pos : 0 < m = omega arith in
    ap (λ (b : ℕ). above m low ((b + i * p.stride) % m)) (sym (base_seen m low p h k)) ∙ seen m low (above m low p.base) p.stride i h (above_below m low p.base pos)

fewer_fit : (m stride count fewer : ℕ) → 0 < m → 1 ≤ stride → (count - 1) * stride < m → fewer ≤ count → 1 ≤ fewer → Fits m stride fewer
fewer_fit m stride count fewer pos strides once less some =
    let step = mul-le-mul_right {m = fewer - 1} {n = count - 1} stride (omega arith) in
    record { positive = pos; some = some; once = omega (arith, step, once); strides = λ more. strides }

-- a count is not above the count that it is taken from
pub count_less : (end base stride count : ℕ) → 0 < stride → count_below end base stride count ≤ count
count_less end base stride count pos = elim (cases_lt count (count_below end base stride count)) [
  | inl above_it ↦ absurd (let t = count_tells end base stride count count pos above_it in omega (arith, t.0))
  | inr fine ↦ fine
]

abbrev pub Low : (m : ℕ) (p : Progression) (low : ℕ) → Type 0
Low m p low = IsNormalRun m p.base p.stride p.count × (low < m)

front_holds : (m low i : ℕ) (p : Progression) → 0 < p.stride → i < front_count m p low
    → (i < p.count) × (above m low p.base + i * p.stride < m)
front_holds m low i p pos h = count_tells m (above m low p.base) p.stride p.count i pos h

pub behind_starts : (m low : ℕ) (p : Progression) → 0 < p.stride → front_count m p low < p.count
    → m ≤ above m low p.base + front_count m p low * p.stride
behind_starts m low p pos h = elim (cases_lt (above m low p.base + front_count m p low * p.stride) m) [
  | inl under ↦ absurd (let again = counted m (above m low p.base) p.stride p.count (front_count m p low) pos h under in omega (arith, again))
  | inr over ↦ over
]

unfoldable pub front_part : (m : ℕ) (p : Progression) (low len : ℕ) → Option Form
front_part m p low len = part m p.base p.stride (count_below len (above m low p.base) p.stride (front_count m p low))

unfoldable pub behind_part : (m : ℕ) (p : Progression) (low len : ℕ) → Option Form
behind_part m p low len = part m ((low + behind_base m p low) % m) p.stride (count_below len (behind_base m p low) p.stride (p.count - front_count m p low))

pub cut_run-is : (m : ℕ) (p : Progression) (low len : ℕ)
    → cut_run m p low len ≡ join_parts m (front_part m p low len) (behind_part m p low len)
unfolding cut_run front_part behind_part
cut_run-is m p low len = refl

front_fits : (m : ℕ) (p : Progression) (low len : ℕ) → Low m p low → 1 ≤ count_below len (above m low p.base) p.stride (front_count m p low)
    → Fits m p.stride (count_below len (above m low p.base) p.stride (front_count m p low))
front_fits m p low len (n, h) some =
    let few = count_less len (above m low p.base) p.stride (front_count m p low) n.strides in
    let fewer = count_less m (above m low p.base) p.stride p.count n.strides in
    fewer_fit m p.stride p.count _ (omega (arith, h)) n.strides n.once (omega (arith, few, fewer)) some

behind_fits : (m : ℕ) (p : Progression) (low len : ℕ) → Low m p low
    → 1 ≤ count_below len (behind_base m p low) p.stride (p.count - front_count m p low)
    → Fits m p.stride (count_below len (behind_base m p low) p.stride (p.count - front_count m p low))
behind_fits m p low len (n, h) some =
    let few = count_less len (behind_base m p low) p.stride (p.count - front_count m p low) n.strides in
    fewer_fit m p.stride p.count _ (omega (arith, h)) n.strides n.once (omega (arith, few)) some

pub front_normal : (m : ℕ) (p : Progression) (low len : ℕ) → Low m p low → IfThere (λ set. IsNormal m set) (front_part m p low len)
unfolding front_part
front_normal m p low len l = part_normal m p.base p.stride (count_below len (above m low p.base) p.stride (front_count m p low)) (front_fits m p low len l)

pub behind_normal : (m : ℕ) (p : Progression) (low len : ℕ) → Low m p low → IfThere (λ set. IsNormal m set) (behind_part m p low len)
unfolding behind_part
behind_normal m p low len l = part_normal m ((low + behind_base m p low) % m) p.stride (count_below len (behind_base m p low) p.stride (p.count - front_count m p low)) (behind_fits m p low len l)

front_has : (m low len i v : ℕ) (p : Progression) → Low m p low → i < p.count → v ≡ (p.base + i * p.stride) % m
    → above m low p.base + i * p.stride < m
    → above m low p.base + i * p.stride < len → HasPart m v (front_part m p low len)
unfolding front_part
front_has m low len i v p (n, h) short is under inside =
    let near = counted m (above m low p.base) p.stride p.count i n.strides short under in
    let there = counted len (above m low p.base) p.stride (front_count m p low) i n.strides near inside in
    part_has m p.base p.stride (count_below len (above m low p.base) p.stride (front_count m p low)) v (front_fits m p low len (n, h) (omega (arith, there))) (i, there, is)

parts_of : (i f d : ℕ) → f ≤ i → i * d ≡ f * d + (i - f) * d
parts_of i f d h = let e : f + (i - f) ≡ i = omega arith in let both : (f + (i - f)) * d ≡ f * d + (i - f) * d = omega arith in ap (λ (k : ℕ). k * d) (sym e) ∙ both

behind_has : (m low len i v : ℕ) (p : Progression) → Low m p low → i < p.count → v < m → m ≤ above m low p.base + i * p.stride
    → above m low v ≡ above m low p.base + i * p.stride - m → above m low v < len → HasPart m v (behind_part m p low len)
unfolding behind_part
behind_has m low len i v p (n, h) short vm over at inside =
    let late : front_count m p low ≤ i = elim (cases_lt i (front_count m p low)) [
      | inl early ↦ absurd (let t = front_holds m low i p n.strides early in omega (arith, t.1, over))
      | inr fine ↦ fine
    ] in
    let starts = behind_starts m low p n.strides (omega (arith, late, short)) in
    let j = i - front_count m p low in
    let split : i * p.stride ≡ front_count m p low * p.stride + (i - front_count m p low) * p.stride = parts_of i (front_count m p low) p.stride late in
    let place : behind_base m p low + (i - front_count m p low) * p.stride ≡ above m low v = omega (arith, split, starts, at) in
    let there = counted len (behind_base m p low) p.stride (p.count - front_count m p low) (i - front_count m p low) n.strides (omega (arith, late, short)) (omega (arith, place, inside)) in
    let is : v ≡ ((low + behind_base m p low) % m + (i - front_count m p low) * p.stride) % m =
    sym (above_back m low v h vm) ∙ ap (λ (k : ℕ). (low + k) % m) (sym place)
    ∙ ap (λ (k : ℕ). k % m) (let e : low + (behind_base m p low + (i - front_count m p low) * p.stride) ≡ low + behind_base m p low + (i - front_count m p low) * p.stride = omega arith in e)
    ∙ sym (base_mod m (low + behind_base m p low) ((i - front_count m p low) * p.stride)) in
    part_has m ((low + behind_base m p low) % m) p.stride _ v (behind_fits m p low len (n, h) (omega (arith, there))) (i - front_count m p low, there, is)

cut_run_has : (m : ℕ) (p : Progression) (low len v : ℕ) → Low m p low → Has m (Run p) v → above m low v < len
    → HasPart m v (cut_run m p low len)
cut_run_has m p low len v l has inside =
    let n = l.0 in
    let run = steps_from m p.base p.stride p.count v has in
    let i = run.0 in
    let pos : 0 < m = omega (arith, l.1) in
    let vm : v < m = let r = mod-lt (p.base + run.0 * p.stride) {m = m} pos in omega (arith, r, run.2) in
    let at : above m low v ≡ (above m low p.base + run.0 * p.stride) % m = ap (λ (w : ℕ). above m low w) run.2 ∙ number_seen m low run.0 p l.1 n.below in
    let once = product_below run.0 p.count p.stride m run.1 n.once in
    let near = above_below m low p.base pos in
    rw (cut_run-is m p low len) (elim (mod_cases (above m low p.base + run.0 * p.stride) m (omega (arith, once, near))) [
      | inl under ↦ joined_front m v (front_part m p low len) (behind_part m p low len) (front_normal m p low len l) (behind_normal m p low len l)
          (front_has m low len run.0 v p l run.1 run.2 under.0 (omega (arith, at, under.1, inside)))
      | inr over ↦ joined_behind m v (front_part m p low len) (behind_part m p low len) (front_normal m p low len l) (behind_normal m p low len l)
          (behind_has m low len run.0 v p l run.1 vm over.0 (at ∙ over.1) inside)
    ])

cut_run_normal : (m : ℕ) (p : Progression) (low len : ℕ) → Low m p low → IfThere (λ set. IsNormal m set) (cut_run m p low len)
cut_run_normal m p low len l = rw (cut_run-is m p low len) (joined_normal m (front_part m p low len) (behind_part m p low len) (front_normal m p low len l) (behind_normal m p low len l))

front_empty : (m : ℕ) (p : Progression) (low len : ℕ) → Low m p low
    → ((v : ℕ) → Has m (Run p) v → above m low v < len → ⊥) → front_part m p low len ≡ None
unfolding front_part
front_empty m p low len (n, h) nobody = part-none m p.base p.stride _ (elim (cases_eq (count_below len (above m low p.base) p.stride (front_count m p low)) 0) [
  | inl none ↦ none
  | inr some ↦ absurd (
      let here = count_tells len (above m low p.base) p.stride (front_count m p low) 0 n.strides (omega (arith, some)) in
      let first = front_holds m low 0 p n.strides here.0 in
      nobody ((p.base + 0 * p.stride) % m) (steps_has m p.base p.stride p.count _ (0, first.0, refl))
      (omega (arith, number_seen m low 0 p h n.below, mod_low (above m low p.base + 0 * p.stride) m first.1, here.1)))
])

behind_empty : (m : ℕ) (p : Progression) (low len : ℕ) → Low m p low
    → ((v : ℕ) → Has m (Run p) v → above m low v < len → ⊥) → behind_part m p low len ≡ None
unfolding behind_part
behind_empty m p low len (n, h) nobody = part-none m ((low + behind_base m p low) % m) p.stride _
    (elim (cases_eq (count_below len (behind_base m p low) p.stride (p.count - front_count m p low)) 0) [
      | inl none ↦ none
      | inr some ↦ absurd (
          let here = count_tells len (behind_base m p low) p.stride (p.count - front_count m p low) 0 n.strides (omega (arith, some)) in
          let short : front_count m p low < p.count = omega (arith, here.0) in
          let starts = behind_starts m low p n.strides short in
          let once = product_below (front_count m p low) p.count p.stride m short n.once in
          let near = above_below m low p.base (let pos : 0 < m = omega (arith, h) in pos) in
          nobody ((p.base + front_count m p low * p.stride) % m) (steps_has m p.base p.stride p.count _ (front_count m p low, short, refl))
          (omega (arith, number_seen m low (front_count m p low) p h n.below, mod_once (above m low p.base + front_count m p low * p.stride) m starts (omega (arith, once, near)), here.1)))
    ])

-- ---- cuts

listed : (ys : List ℕ) (v m : ℕ) → IsIn v ys → (set : Form) × (list_or_none ys ≡ Some set) × Has m set v
listed [] v m i = absurd i
listed (y ∷ ys) v m i = (Values (y ∷ ys), refl, Contains_from_in (y ∷ ys) v i)

pub cut_has : (m : ℕ) (set : Form) (low len v : ℕ) → IsNormal m set → low < m → Has m set v → above m low v < len
    → HasPart m v (cut m set low len)
unfolding cut
cut_has m (Values xs) low len v n h has inside =
    let i = filtered_in (λ v. ltb (above m low v) len) v xs (in_from_Contains xs v has) (lt-ltb (above m low v) len inside) in
    listed (filter (λ v. ltb (above m low v) len) xs) v m i
cut_has m (Run p) low len v n h has inside = cut_run_has m p low len v (n, h) has inside

pub cut_normal : (m : ℕ) (set : Form) (low len : ℕ) → IsNormal m set → low < m → IfThere (λ set. IsNormal m set) (cut m set low len)
unfolding cut
cut_normal m (Values xs) low len n h = list_there (filter (λ v. ltb (above m low v) len) xs) (λ set. IsNormal m set)
    (λ some. (some, (let less = filtered_length (λ v. ltb (above m low v) len) xs in omega (arith, less, n.1)), filtered_ascends (λ v. ltb (above m low v) len) 0 m xs n.2))
cut_normal m (Run p) low len n h = cut_run_normal m p low len (n, h)

pub cut_none : (m : ℕ) (set : Form) (low len v : ℕ) → IsNormal m set → low < m → cut m set low len ≡ None → Has m set v
    → above m low v < len → ⊥
cut_none m set low len v n h none has inside = let found = cut_has m set low len v n h has inside in cc (none, found.1)

pub none_cut : (m : ℕ) (set : Form) (low len : ℕ) → IsNormal m set → low < m
    → ((v : ℕ) → Has m set v → above m low v < len → ⊥) → cut m set low len ≡ None
unfolding cut
none_cut m (Values xs) low len n h nobody = none_from_list (filter (λ v. ltb (above m low v) len) xs)
    (λ v i. let found = in_filtered (λ v. ltb (above m low v) len) v xs i in nobody v (Contains_from_in xs v found.0) (ltb-true (above m low v) len found.1))
none_cut m (Run p) low len n h nobody = cut_run-is m p low len ∙ none_joined m (front_part m p low len) (behind_part m p low len)
    (front_empty m p low len (n, h) nobody) (behind_empty m p low len (n, h) nobody)

-- ---- as the code finds them

pub count_is-most : (end base stride count most : ℕ) → base < end → most ≡ (end - 1 - base) / stride → most < count
    → most + 1 ≡ count_below end base stride count
count_is-most end base stride count most h is low = rw (count_below-some end base stride count h, ← is) (elim (cases_lt (most + 1) count) [
  | inl under ↦ rw (lt-ltb (most + 1) count under) refl
  | inr at ↦ rw (le-ltb (most + 1) count at) (omega arith)
])

pub count_is-all : (end base stride count most : ℕ) → base < end → most ≡ (end - 1 - base) / stride → count ≤ most
    → count ≡ count_below end base stride count
count_is-all end base stride count most h is high = rw (count_below-some end base stride count h, ← is) (let over : count ≤ most + 1 = omega arith in rw (le-ltb (most + 1) count over) refl)

pub cut_made : (m low len base front turned near far : ℕ) (p : Progression) (first second : Option Form)
    → base ≡ above m low p.base → front ≡ count_below m base p.stride p.count
    → turned ≡ base + front * p.stride - m → near ≡ count_below len base p.stride front
    → far ≡ count_below len turned p.stride (p.count - front)
    → first ≡ part m p.base p.stride near → second ≡ part m ((low + turned) % m) p.stride far
    → join_parts m first second ≡ cut_run m p low len
unfolding cut_run
cut_made m low len base front turned near far p first second a b c d e f g = cc

pub cut-list : (m : ℕ) (set : Form) (xs kept : List ℕ) (low len : ℕ) → set ≡ Values xs
    → kept ≡ filter (λ v. ltb (above m low v) len) xs → list_or_none kept ≡ cut m set low len
unfolding cut
cut-list m set xs kept low len is k = rw is (ap list_or_none k)

pub cut-run : (m : ℕ) (set : Form) (p : Progression) (low len : ℕ) → set ≡ Run p → cut_run m p low len ≡ cut m set low len
unfolding cut
cut-run m set p low len is = rw is refl
