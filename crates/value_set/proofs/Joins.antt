-- The join includes both sets, in the one form.
use Rattle.std.proofs.Common.{◌≡◌, ℕ, ◌+◌, ◌-◌, ◌*◌, ◌%◌, ◌/◌, ◌<◌, ◌≤◌, ◌++◌, Bool, true, false, List, [], ◌∷◌, length, refl, sym, ◌∙◌, ap, subst, inl, inr, arith, eqb, Option, Some, None, length-append}
use Prim.Native.Nat.{◌∣◌}
use Rattle.std.specs.Prelude.{◌⊎◌, ◌↔◌, IsTrue}
use Rattle.std.specs.List.{list_any}
use Rattle.std.proofs.lemmas.Bool.{cases_lt, cases_Bool, eqb-true, eq-eqb, or_cases, or_left, or_right, lt-leb, le-leb, lt-ltb, le-ltb}
use Rattle.std.proofs.Math.Nat.{mod-lt, le_of_dvd, dvd_trans, dvd-add, dvd-mul_left_of_dvd, mul-le-mul_right}
use Rattle.value_set.specs.Gcd.{gcd}
use Rattle.value_set.specs.declared.form.Progression.{Progression}
use Rattle.value_set.specs.declared.form.Stretch.{Stretch}
use Rattle.value_set.specs.declared.form.Form.{Form}
use Rattle.value_set.specs.declared.form.Form.TheVariants.{Values, Run}
use Rattle.value_set.specs.Form.{make, members, Has, Includes, ascending, Ascends, IsNormal, IsSpan, above, greater, hull, span, class}
use Rattle.value_set.specs.Joining.{is_in, is_within, reach, candidate, stretched, is_second, choose, join_spans, few_together, values_or, join_apart, join}
use Rattle.value_set.specs.ListFacts.{IsIn, in_from_Contains, Contains_from_in, in_front, in_behind, in_either, list_all_in, all_in}
use Rattle.value_set.proofs.Divisors.{gcd_left, gcd_right}
use Rattle.value_set.proofs.Members.{InRun, put_all_has, Ascends-put_all, Ascends-in, ascending_some}
use Rattle.value_set.proofs.Rounds.{above_back, above_sum, base_mod}
use Rattle.value_set.proofs.Making.{fits_to, make_has, make_normal}
use Rattle.value_set.proofs.Spans.{greater_left, greater_right, reached, span_is, span_has, class_normal, class_reached, modulus_positive}

-- ---- the test of inclusion

pub any_in : (v : ℕ) (xs : List ℕ) → list_any (λ x. eqb x v) xs ≡ true → IsIn v xs
any_in v [] h = cc h
any_in v (x ∷ xs) h = elim (or_cases (eqb x v) (list_any (λ x. eqb x v) xs) h) [ inl e ↦ inl (eqb-true x v e) | inr r ↦ inr (any_in v xs r) ]

pub in_any : (v : ℕ) (xs : List ℕ) → IsIn v xs → list_any (λ x. eqb x v) xs ≡ true
in_any v [] h = absurd h
in_any v (x ∷ xs) (inl e) = or_left (eqb x v) (list_any (λ x. eqb x v) xs) (eq-eqb x v e)
in_any v (x ∷ xs) (inr h) = or_right (eqb x v) (list_any (λ x. eqb x v) xs) (in_any v xs h)

pub includes_from_test : (m : ℕ) (smaller larger : Form) → is_within m smaller larger ≡ true → Includes m larger smaller
unfolding is_within
includes_from_test m smaller larger h v i = Contains_from_in (members m larger) v
    (any_in v (members m larger) (list_all_in (λ v. is_in m larger v) v (members m smaller) h (in_from_Contains (members m smaller) v i)))

pub test_from_includes : (m : ℕ) (smaller larger : Form) → Includes m larger smaller → is_within m smaller larger ≡ true
unfolding is_within
test_from_includes m smaller larger h = all_in (λ v. is_in m larger v) (members m smaller)
    (λ v i. in_any v (members m larger) (in_from_Contains (members m larger) v (h v (Contains_from_in (members m smaller) v i))))

pub test_fails : (m : ℕ) (smaller larger : Form) → (Includes m larger smaller → ⊥) → is_within m smaller larger ≡ false
test_fails m smaller larger h = elim (cases_Bool (is_within m smaller larger)) [ inl agreed ↦ absurd (h (includes_from_test m smaller larger agreed)) | inr refused ↦ refused ]

-- an answer that tells inclusion is the test's
pub tested : (m : ℕ) (smaller larger : Form) (answer : Bool) → (IsTrue answer ↔ Includes m larger smaller)
    → answer ≡ is_within m smaller larger
tested m smaller larger true h = sym (test_from_includes m smaller larger (h.0 refl))
tested m smaller larger false h = sym (test_fails m smaller larger (λ includes. absurd (cc (h.1 includes))))

pub join-first : (m : ℕ) (first second : Form) → is_within m second first ≡ true → join m first second ≡ first
unfolding join
join-first m first second h = rw h refl

pub join-second : (m : ℕ) (first second : Form) → is_within m second first ≡ false → is_within m first second ≡ true
    → join m first second ≡ second
unfolding join
join-second m first second h k = rw (h, k) refl

pub join-neither : (m : ℕ) (first second : Form) → is_within m second first ≡ false → is_within m first second ≡ false
    → join m first second ≡ join_apart m first second
unfolding join
join-neither m first second h k = rw (h, k) refl

-- ---- one stretch from the base of the first run

stride_first : (m : ℕ) (p q : Progression) → (candidate m p q).stride ∣ p.stride
unfolding candidate
stride_first m p q = dvd_trans _ (gcd_left (gcd p.stride q.stride) (above m p.base q.base)) (gcd_left p.stride q.stride)

stride_second : (m : ℕ) (p q : Progression) → (candidate m p q).stride ∣ q.stride
unfolding candidate
stride_second m p q = dvd_trans _ (gcd_left (gcd p.stride q.stride) (above m p.base q.base)) (gcd_right p.stride q.stride)

stride_offset : (m : ℕ) (p q : Progression) → (candidate m p q).stride ∣ above m p.base q.base
unfolding candidate
stride_offset m p q = gcd_right (gcd p.stride q.stride) (above m p.base q.base)

end_first : (m : ℕ) (p q : Progression) → (p.count - 1) * p.stride ≤ (candidate m p q).end
unfolding candidate
end_first m p q = greater_left (reach p) (above m p.base q.base + reach q)

end_second : (m : ℕ) (p q : Progression) → above m p.base q.base + (q.count - 1) * q.stride ≤ (candidate m p q).end
unfolding candidate
end_second m p q = greater_right (reach p) (above m p.base q.base + reach q)

pub candidate_base : (m : ℕ) (p q : Progression) → (candidate m p q).base ≡ p.base
unfolding candidate
candidate_base m p q = refl

abbrev pub IsRun : ℕ → Progression → Type 0
IsRun m p = IsSpan m p.base p.stride p.count

abbrev pub InSpan : ℕ → Progression → ℕ → Type 0
InSpan m p v = InRun m p.base p.stride p.count v

-- where the members of the second run stand, seen from the first
rest_of : (m : ℕ) (p q : Progression) (v : ℕ) → IsRun m p → IsRun m q → InSpan m q v
    → (k : ℕ) × (k ≤ above m p.base q.base + (q.count - 1) * q.stride) × ((candidate m p q).stride ∣ k) × (v ≡ (p.base + k) % m)
rest_of m p q v s t (j, short, is) =
    let o = above m p.base q.base in
    let most = mul-le-mul_right {m = j} {n = q.count - 1} q.stride (omega (arith, short)) in
    let back : q.base ≡ (p.base + above m p.base q.base) % m = sym (above_back m p.base q.base s.below t.below) in
    let sum : p.base + above m p.base q.base + j * q.stride ≡ p.base + (above m p.base q.base + j * q.stride) = omega arith in (
      above m p.base q.base + j * q.stride,
      omega (arith, most),
      dvd-add _ (stride_offset m p q) (dvd-mul_left_of_dvd _ (stride_second m p q) j),
      is ∙ ap (λ (b : ℕ). (b + j * q.stride) % m) back ∙ base_mod m (p.base + above m p.base q.base) (j * q.stride) ∙ ap (λ (n : ℕ). n % m) sum,
    )

pub at_multiple : (m b g end k v : ℕ) → b < m → end < m → g ∣ k → k ≤ end → v ≡ (b + k) % m → Has m (make m b g (end / g + 1)) v
at_multiple m b g end k v h low div short is =
    let pos : 0 < m = omega arith in
    let here = mod-lt (b + k) {m = m} pos in
    let far : above m b v ≡ k = ap (λ (w : ℕ). above m b w) is ∙ above_sum m b k h (omega arith) in
    make_has m b g (end / g + 1) v (fits_to m g end low)
    (reached m b g end v h (omega (arith, is, here)) (subst (λ (w : ℕ). g ∣ w) (sym far) div) (omega (arith, far, short)))

pub stretched_first : (m : ℕ) (p q : Progression) (v : ℕ) → IsRun m p → (candidate m p q).end < m → InSpan m p v
    → Has m (stretched m (candidate m p q)) v
stretched_first m p q v s low (i, short, is) =
    let most = mul-le-mul_right {m = i} {n = p.count - 1} p.stride (omega (arith, short)) in
    let e = candidate_base m p q in
    at_multiple m (candidate m p q).base (candidate m p q).stride (candidate m p q).end (i * p.stride) v (rw e s.below) low
    (dvd-mul_left_of_dvd _ (stride_first m p q) i) (omega (arith, most, end_first m p q)) (rw e is)

pub stretched_second : (m : ℕ) (p q : Progression) (v : ℕ) → IsRun m p → IsRun m q → (candidate m p q).end < m
    → InSpan m q v → Has m (stretched m (candidate m p q)) v
stretched_second m p q v s t low run =
    let found = rest_of m p q v s t run in
    let e = candidate_base m p q in
    at_multiple m (candidate m p q).base (candidate m p q).stride (candidate m p q).end found.0 v (rw e s.below) low found.2
    (omega (arith, found.1, end_second m p q)) (rw e found.3)

pub stretched_normal : (m : ℕ) (s : Stretch) → s.end < m → IsNormal m (stretched m s)
stretched_normal m s low = make_normal m s.base s.stride (s.end / s.stride + 1) (fits_to m s.stride s.end low)

class_first : (m : ℕ) (p q : Progression) (v : ℕ) → IsRun m p → InSpan m p v
    → Has m (class m (candidate m p q).base (candidate m p q).stride) v
class_first m p q v s (i, short, is) = let e = candidate_base m p q in
    class_reached m (candidate m p q).base (candidate m p q).stride v (i * p.stride) (let b = s.below in omega (arith, b)) (rw e is) (dvd-mul_left_of_dvd _ (stride_first m p q) i)

class_second : (m : ℕ) (p q : Progression) (v : ℕ) → IsRun m p → IsRun m q → InSpan m q v
    → Has m (class m (candidate m p q).base (candidate m p q).stride) v
class_second m p q v s t run = let found = rest_of m p q v s t run in let e = candidate_base m p q in
    class_reached m (candidate m p q).base (candidate m p q).stride v found.0 (let b = s.below in omega (arith, b)) (rw e found.3) found.2

-- ---- the choice

second_below : (m : ℕ) (one other : Stretch) → is_second m one other ≡ true → other.end < m
second_below m one other h = elim (cases_lt other.end m) [ inl low ↦ low | inr high ↦ absurd (let e = le-leb m other.end high in cc (h, e)) ]

pub choose_cases : (m : ℕ) (one other : Stretch) (P : Form → Type 0) → (other.end < m → P (stretched m other))
    → (one.end < m → P (stretched m one))
    → P (class m one.base one.stride) → P (choose m one other)
unfolding choose
choose_cases m one other P second first neither = elim (cases_Bool (is_second m one other)) [
  | inl agreed ↦ rw agreed (second (second_below m one other agreed))
  | inr refused ↦ rw refused (elim (cases_lt one.end m) [
    | inl low ↦ rw (lt-ltb one.end m low) (first low)
    | inr high ↦ rw (le-ltb one.end m high) neither
  ])
]

pub join_spans_first : (m : ℕ) (p q : Progression) (v : ℕ) → IsRun m p → IsRun m q → InSpan m p v → Has m (join_spans m p q) v
join_spans_first m p q v s t run = choose_cases m (candidate m p q) (candidate m q p) (λ set. Has m set v)
    (λ low. stretched_second m q p v t s low run) (λ low. stretched_first m p q v s low run) (class_first m p q v s run)

pub join_spans_second : (m : ℕ) (p q : Progression) (v : ℕ) → IsRun m p → IsRun m q → InSpan m q v → Has m (join_spans m p q) v
join_spans_second m p q v s t run = choose_cases m (candidate m p q) (candidate m q p) (λ set. Has m set v)
    (λ low. stretched_first m q p v t low run) (λ low. stretched_second m p q v s t low run) (class_second m p q v s t run)

pub join_spans_normal : (m : ℕ) (p q : Progression) → 0 < m → IsNormal m (join_spans m p q)
join_spans_normal m p q pos = choose_cases m (candidate m p q) (candidate m q p) (λ set. IsNormal m set)
    (λ low. stretched_normal m (candidate m q p) low) (λ low. stretched_normal m (candidate m p q) low) (class_normal m (candidate m p q).base (candidate m p q).stride pos)

-- ---- the join

pub few_cases : (xs ys : List ℕ)
    → ((length (ascending (xs ++ ys)) ≤ 16) × (few_together xs ys ≡ Some (ascending (xs ++ ys)))) ⊎ (few_together xs ys ≡ None)
few_cases xs ys = elim (cases_lt 16 (length (ascending (xs ++ ys)))) [
  | inr few ↦ inl (few, rw (le-leb (length (ascending (xs ++ ys))) 16 few) refl)
  | inl many ↦ inr (rw (lt-leb (length (ascending (xs ++ ys))) 16 many) refl)
]

pub apart-lists : (m : ℕ) (xs ys : List ℕ)
    → join_apart m (Values xs) (Values ys) ≡ values_or (few_together xs ys) (join_spans m (hull m xs) (hull m ys))
unfolding join_apart
apart-lists m xs ys = refl

pub apart-list_run : (m : ℕ) (xs : List ℕ) (q : Progression) → join_apart m (Values xs) (Run q) ≡ join_spans m (hull m xs) q
unfolding join_apart
apart-list_run m xs q = refl

pub apart-run : (m : ℕ) (p : Progression) (second : Form) → join_apart m (Run p) second ≡ join_spans m p (span m second)
unfolding join_apart
apart-run m p second = refl

pub apart_cases : (m : ℕ) (first second : Form) (P : Form → Type 0)
    → ((xs ys : List ℕ) → first ≡ Values xs → second ≡ Values ys → length (ascending (xs ++ ys)) ≤ 16 → P (Values (ascending (xs ++ ys))))
    → P (join_spans m (span m first) (span m second)) → P (join_apart m first second)
apart_cases m (Values xs) (Values ys) P few spans = elim (few_cases xs ys) [
  | inl short ↦ rw (apart-lists m xs ys, short.1) (few xs ys refl refl short.0)
  | inr long ↦ rw (apart-lists m xs ys, long) spans
]
apart_cases m (Values xs) (Run q) P few spans = rw (apart-list_run m xs q) spans
apart_cases m (Run p) second P few spans = rw (apart-run m p second) spans

apart_first : (m : ℕ) (first second : Form) → IsNormal m first → IsNormal m second → Includes m (join_apart m first second) first
apart_first m first second n k v h = apart_cases m first second (λ set. Has m set v)
    (λ xs ys a b short. Contains_from_in (ascending (xs ++ ys)) v (put_all_has v [] (xs ++ ys) (in_front v xs ys (in_from_Contains xs v (subst (λ (set : Form). Has m set v) a h)))))
    (join_spans_first m (span m first) (span m second) v (span_is m first n) (span_is m second k) (span_has m v first n h))

apart_second : (m : ℕ) (first second : Form) → IsNormal m first → IsNormal m second → Includes m (join_apart m first second) second
apart_second m first second n k v h = apart_cases m first second (λ set. Has m set v)
    (λ xs ys a b short. Contains_from_in (ascending (xs ++ ys)) v (put_all_has v [] (xs ++ ys) (in_behind v xs ys (in_from_Contains ys v (subst (λ (set : Form). Has m set v) b h)))))
    (join_spans_second m (span m first) (span m second) v (span_is m first n) (span_is m second k) (span_has m v second k h))

pub lists_below : (m : ℕ) (xs ys : List ℕ) → Ascends 0 m xs → Ascends 0 m ys → (v : ℕ) → IsIn v (xs ++ ys) → v < m
lists_below m xs ys a b v h = elim (in_either v xs ys h) [ inl i ↦ (Ascends-in 0 m v xs a i).1 | inr i ↦ (Ascends-in 0 m v ys b i).1 ]

apart_normal : (m : ℕ) (first second : Form) → IsNormal m first → IsNormal m second → IsNormal m (join_apart m first second)
apart_normal m first second n k = apart_cases m first second (λ set. IsNormal m set)
    (λ xs ys a b short.
    let n' : IsNormal m (Values xs) = subst (λ (set : Form). IsNormal m set) a n in
    let k' : IsNormal m (Values ys) = subst (λ (set : Form). IsNormal m set) b k in
    (ascending_some (xs ++ ys) (omega (arith, n'.0, length-append xs ys)), short, Ascends-put_all m [] (xs ++ ys) (lists_below m xs ys n'.2 k'.2) tt))
    (join_spans_normal m (span m first) (span m second) (modulus_positive m first n))

pub join_cases : (m : ℕ) (first second : Form) (P : Form → Type 0) → (Includes m first second → P first)
    → (Includes m second first → P second)
    → P (join_apart m first second) → P (join m first second)
join_cases m first second P one other neither = elim (cases_Bool (is_within m second first)) [
  | inl agreed ↦ rw (join-first m first second agreed) (one (includes_from_test m second first agreed))
  | inr refused ↦ elim (cases_Bool (is_within m first second)) [
    | inl agreed ↦ rw (join-second m first second refused agreed) (other (includes_from_test m first second agreed))
    | inr both ↦ rw (join-neither m first second refused both) neither
  ]
]

pub join_includes_first : (m : ℕ) (first second : Form) → IsNormal m first → IsNormal m second → Includes m (join m first second) first
join_includes_first m first second n k = join_cases m first second (λ set. Includes m set first) (λ i v h. h) (λ i. i) (apart_first m first second n k)

pub join_includes_second : (m : ℕ) (first second : Form) → IsNormal m first → IsNormal m second → Includes m (join m first second) second
join_includes_second m first second n k = join_cases m first second (λ set. Includes m set second) (λ i. i) (λ i v h. h) (apart_second m first second n k)

pub join_normal : (m : ℕ) (first second : Form) → IsNormal m first → IsNormal m second → IsNormal m (join m first second)
join_normal m first second n k = join_cases m first second (λ set. IsNormal m set) (λ i. n) (λ i. k) (apart_normal m first second n k)

-- ---- as the code finds them

pub class-is : (m b d g : ℕ) → g ≡ gcd d m → make m (b % g) g (m / g) ≡ class m b d
unfolding class
class-is m b d g e = ap (λ (n : ℕ). make m (b % n) n (m / n)) e

pub divisor_small : (m d : ℕ) → 0 < m → gcd d m ≤ m
divisor_small m d pos = le_of_dvd {m = gcd d m} {n = m} pos (gcd_right d m)

pub candidate_made : (m : ℕ) (p q : Progression) (offset strides stride end first rest : ℕ)
    → offset ≡ above m p.base q.base → strides ≡ gcd p.stride q.stride
    → stride ≡ gcd strides offset → first ≡ reach p → rest ≡ reach q → end ≡ greater first (offset + rest)
    → let made : Stretch = record { base = p.base; stride = stride; end = end } in made ≡ candidate m p q
unfolding candidate
candidate_made m p q offset strides stride end first rest o s t f r e =
    let t' : stride ≡ gcd (gcd p.stride q.stride) (above m p.base q.base) = t ∙ ap (λ (n : ℕ). gcd n offset) s ∙ ap (λ (n : ℕ). gcd (gcd p.stride q.stride) n) o in
    let e' : end ≡ greater (reach p) (above m p.base q.base + reach q) = e ∙ ap (λ (n : ℕ). greater n (offset + rest)) f ∙ ap (λ (n : ℕ). greater (reach p) (n + rest)) o ∙ ap (λ (n : ℕ). greater (reach p) (above m p.base q.base + n)) r in
    cc (t', e')

pub choose-second : (m : ℕ) (one other : Stretch) → is_second m one other ≡ true → choose m one other ≡ stretched m other
unfolding choose
choose-second m one other h = rw h refl

pub choose-first : (m : ℕ) (one other : Stretch) → is_second m one other ≡ false → one.end < m → choose m one other ≡ stretched m one
unfolding choose
choose-first m one other h low = rw (h, lt-ltb one.end m low) refl

pub choose-neither : (m : ℕ) (one other : Stretch) → is_second m one other ≡ false → m ≤ one.end
    → choose m one other ≡ class m one.base one.stride
unfolding choose
choose-neither m one other h high = rw (h, le-ltb one.end m high) refl

pub choose_same : (m : ℕ) (p q : Progression) (one other : Stretch) → one ≡ candidate m p q → other ≡ candidate m q p
    → choose m one other ≡ join_spans m p q
choose_same m p q one other a b = ap (λ (s : Stretch). choose m s other) a ∙ ap (λ (s : Stretch). choose m (candidate m p q) s) b

pub values_found : (m : ℕ) (xs ys values : List ℕ) → Some values ≡ few_together xs ys → Values values ≡ join_apart m (Values xs) (Values ys)
values_found m xs ys values h = ap (λ (found : Option (List ℕ)). values_or found (join_spans m (hull m xs) (hull m ys))) h ∙ sym (apart-lists m xs ys)

pub values_missing : (m : ℕ) (xs ys : List ℕ) → None ≡ few_together xs ys
    → join_spans m (hull m xs) (hull m ys) ≡ join_apart m (Values xs) (Values ys)
values_missing m xs ys h = ap (λ (found : Option (List ℕ)). values_or found (join_spans m (hull m xs) (hull m ys))) h ∙ sym (apart-lists m xs ys)

pub hulls_same : (m : ℕ) (xs ys cs ds : List ℕ) (p q : Progression) → cs ≡ xs → ds ≡ ys → p ≡ hull m cs → q ≡ hull m ds
    → join_spans m p q ≡ join_spans m (hull m xs) (hull m ys)
hulls_same m xs ys cs ds p q a b h k =
    ap (λ (n : Progression). join_spans m n q) (h ∙ ap (λ (zs : List ℕ). hull m zs) a) ∙ ap (λ (n : Progression). join_spans m (hull m xs) n) (k ∙ ap (λ (zs : List ℕ). hull m zs) b)

pub list_and_run : (m : ℕ) (xs cs : List ℕ) (p q : Progression) → cs ≡ xs → p ≡ hull m cs
    → join_spans m p q ≡ join_apart m (Values xs) (Run q)
list_and_run m xs cs p q a h = ap (λ (n : Progression). join_spans m n q) (h ∙ ap (λ (zs : List ℕ). hull m zs) a) ∙ sym (apart-list_run m xs q)

pub run_and_any : (m : ℕ) (p : Progression) (first second : Form) (q : Progression) → first ≡ Run p → q ≡ span m second
    → join_spans m p q ≡ join_apart m first second
run_and_any m p first second q a h =
    ap (λ (n : Progression). join_spans m p n) h ∙ sym (apart-run m p second) ∙ ap (λ (set : Form). join_apart m set second) (sym a)
