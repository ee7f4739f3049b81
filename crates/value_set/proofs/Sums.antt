-- The set of a sum, a difference or any operation has each result, in the one form.
use Rattle.std.proofs.Common.{◌≡◌, ℕ, ◌+◌, ◌-◌, ◌*◌, ◌%◌, ◌/◌, ◌<◌, ◌≤◌, ◌++◌, List, [], ◌∷◌, length, take, get_or, append-nil, refl, sym, ◌∙◌, ap, subst, inl, inr, arith}
use Rattle.std.proofs.lemmas.List.{take_more, take_all, map-append}
use Rattle.std.proofs.lemmas.Grind.{flat_map-append}
use Prim.Native.Nat.{◌∣◌}
use Rattle.std.specs.Prelude.{map}
use Rattle.std.specs.List.{flat_map}
use Rattle.std.proofs.lemmas.Bool.{cases_lt, lt-ltb, le-ltb, lt-leb, le-leb}
use Rattle.std.proofs.Math.Nat.{mod-lt, dvd-add, dvd-mul_left, dvd-mul_left_of_dvd, mul-le-mul_right, add-mod-mod, add-mod_right}
use Rattle.value_set.specs.Gcd.{gcd}
use Rattle.value_set.specs.declared.form.Progression.{Progression}
use Rattle.value_set.specs.declared.form.Form.{Form}
use Rattle.value_set.specs.declared.form.Form.TheVariants.{Values, Run}
use Rattle.value_set.specs.Form.{make, members, Has, gather, set_of, put, put_all, ascending, Ascends, IsNormal, Fits, span, class}
use Rattle.value_set.specs.Joining.{reach}
use Rattle.value_set.specs.Summing.{single, results, combine, count_of, sum_answer, difference_answer, add_spans, negated, add, sub, signed, signed_answer, signed_span, twice}
use Rattle.value_set.specs.Operations.{StaysBelow, sum_stays, difference_stays}
use Rattle.value_set.specs.declared.summing.Sign.{Sign}
use Rattle.value_set.specs.declared.summing.Sign.TheVariants.{Plus, Minus}
use Rattle.value_set.specs.ListFacts.{IsIn, in_from_Contains, Contains_from_in, in_map, in_mapped, in_flat_map, in_flat}
use Rattle.value_set.specs.StepFacts.{steps_from, length-steps}
use Rattle.value_set.proofs.Divisors.{gcd_left, gcd_right}
use Rattle.value_set.proofs.Members.{put_all-append, put_all-push, Ascends-put_all, ascending_some}
use Rattle.value_set.proofs.Rounds.{mod_cases, base_mod, run_below, product_below}
use Rattle.value_set.proofs.Making.{fits_to, make_has, make_normal}
use Rattle.value_set.proofs.Spans.{multiple, span_is, span_has, gather_normal, gather_has, class_normal, class_reached, modulus_positive}
use Rattle.value_set.proofs.Joins.{IsRun, InSpan}
use Rattle.value_set.proofs.Answering.{member_below}

-- ---- results of an operation

pub results_have : (f : ℕ → ℕ → ℕ → ℕ) (x y z : ℕ) (xs ys zs : List ℕ) → IsIn x xs → IsIn y ys → IsIn z zs
    → IsIn (f x y z) (results f xs ys zs)
results_have f x y z xs ys zs i j k = in_flat_map (λ x. flat_map (λ y. map (λ z. f x y z) zs) ys) x (f x y z) xs i
    (in_flat_map (λ y. map (λ z. f x y z) zs) y (f x y z) ys j (in_map (λ z. f x y z) z zs k))

pub results_are : (f : ℕ → ℕ → ℕ → ℕ) (v : ℕ) (xs ys zs : List ℕ) → IsIn v (results f xs ys zs)
    → (x : ℕ) × (y : ℕ) × (z : ℕ) × IsIn x xs × IsIn y ys × IsIn z zs × (f x y z ≡ v)
results_are f v xs ys zs h =
    let a = in_flat (λ x. flat_map (λ y. map (λ z. f x y z) zs) ys) v xs h in
    let b = in_flat (λ y. map (λ z. f a.0 y z) zs) v ys a.2 in
    let c = in_mapped (λ z. f a.0 b.0 z) v zs b.2 in
    (a.0, b.0, c.0, a.1, b.1, c.1, c.2)

pub first_in : (xs : List ℕ) → 1 ≤ length xs → (v : ℕ) × IsIn v xs
first_in [] h = absurd (omega arith)
first_in (x ∷ xs) h = (x, inl refl)

pub some_members : (m : ℕ) (set : Form) → IsNormal m set → 1 ≤ length (members m set)
some_members m (Values xs) n = n.0
some_members m (Run p) n = omega (arith, length-steps m p.base p.stride p.count, n.long)

pub some_from_in : (v : ℕ) (xs : List ℕ) → IsIn v xs → 1 ≤ length xs
some_from_in v [] h = absurd h
some_from_in v (x ∷ xs) h = omega arith

pub results_some : (answer : ℕ → ℕ → ℕ → ℕ) (xs ys zs : List ℕ) → 1 ≤ length xs → 1 ≤ length ys → 1 ≤ length zs
    → 1 ≤ length (results answer xs ys zs)
results_some answer xs ys zs n k l =
    let x = first_in xs n in
    let y = first_in ys k in
    let z = first_in zs l in
    some_from_in _ _ (results_have answer x.0 y.0 z.0 xs ys zs x.1 y.1 z.1)

pub some_results : (m : ℕ) (answer : ℕ → ℕ → ℕ → ℕ) (a b c : Form) → IsNormal m a → IsNormal m b → IsNormal m c
    → 1 ≤ length (results answer (members m a) (members m b) (members m c))
some_results m answer a b c n k l = results_some answer (members m a) (members m b) (members m c) (some_members m a n) (some_members m b k) (some_members m c l)

pub results_below : (m : ℕ) (answer : ℕ → ℕ → ℕ → ℕ) (a b c : Form) (v : ℕ) → IsNormal m a → IsNormal m b → IsNormal m c
    → StaysBelow m answer
    → IsIn v (results answer (members m a) (members m b) (members m c)) → v < m
results_below m answer a b c v n k l stays h =
    let found = results_are answer v (members m a) (members m b) (members m c) h in
    let low = stays found.0 found.1 found.2 (member_below m found.0 a n (Contains_from_in (members m a) found.0 found.3))
    (member_below m found.1 b k (Contains_from_in (members m b) found.1 found.4)) (member_below m found.2 c l (Contains_from_in (members m c) found.2 found.5)) in
    omega (arith, low, found.6)

pub combine_normal : (m : ℕ) (answer : ℕ → ℕ → ℕ → ℕ) (a b c : Form) → IsNormal m a → IsNormal m b → IsNormal m c
    → StaysBelow m answer → IsNormal m (combine m answer a b c)
unfolding combine
combine_normal m answer a b c n k l stays = gather_normal m (results answer (members m a) (members m b) (members m c)) (some_results m answer a b c n k l)
    (λ v h. results_below m answer a b c v n k l stays h)

pub combine_has : (m : ℕ) (answer : ℕ → ℕ → ℕ → ℕ) (a b c : Form) (x y z : ℕ) → IsNormal m a → IsNormal m b
    → IsNormal m c → StaysBelow m answer
    → Has m a x → Has m b y → Has m c z → Has m (combine m answer a b c) (answer x y z)
unfolding combine
combine_has m answer a b c x y z n k l stays h i j = gather_has m (answer x y z) (results answer (members m a) (members m b) (members m c)) (some_results m answer a b c n k l)
    (λ v h. results_below m answer a b c v n k l stays h)
    (results_have answer x y z (members m a) (members m b) (members m c) (in_from_Contains (members m a) x h) (in_from_Contains (members m b) y i) (in_from_Contains (members m c) z j))

-- ---- sums of runs

pub add_spans_cases : (m : ℕ) (p q : Progression) (P : Form → Type 0)
    → (reach p + reach q < m → P (make m (p.base + q.base) (gcd p.stride q.stride) ((reach p + reach q) / gcd p.stride q.stride + 1)))
    → P (class m (p.base + q.base) (gcd p.stride q.stride)) → P (add_spans m p q)
unfolding add_spans
add_spans_cases m p q P one all = elim (cases_lt (reach p + reach q) m) [
  | inl low ↦ rw (lt-ltb (reach p + reach q) m low) (one low)
  | inr high ↦ rw (le-ltb (reach p + reach q) m high) all
]

pub add_spans_normal : (m : ℕ) (p q : Progression) → 0 < m → IsNormal m (add_spans m p q)
add_spans_normal m p q pos = add_spans_cases m p q (λ set. IsNormal m set) (λ low. make_normal m _ _ _ (fits_to m (gcd p.stride q.stride) (reach p + reach q) low))
    (class_normal m (p.base + q.base) (gcd p.stride q.stride) pos)

pub sum_mod : (m a b x y : ℕ) → x ≡ a % m → y ≡ b % m → (x + y) % m ≡ (a + b) % m
sum_mod m a b x y h k = ap (λ (n : ℕ). (n + y) % m) h ∙ base_mod m a y ∙ ap (λ (n : ℕ). (a + n) % m) k ∙ add-mod-mod a b m

pub add_spans_has : (m : ℕ) (p q : Progression) (x y : ℕ) → IsRun m p → IsRun m q → InSpan m p x → InSpan m q y
    → Has m (add_spans m p q) ((x + y) % m)
add_spans_has m p q x y s t (i, short, is) (j, shorter, are) =
    let g = gcd p.stride q.stride in
    let k = i * p.stride + j * q.stride in
    let most = mul-le-mul_right {m = i} {n = p.count - 1} p.stride (omega (arith, short)) in
    let most_too = mul-le-mul_right {m = j} {n = q.count - 1} q.stride (omega (arith, shorter)) in
    let div : gcd p.stride q.stride ∣ i * p.stride + j * q.stride =
    dvd-add _ (dvd-mul_left_of_dvd _ (gcd_left p.stride q.stride) i) (dvd-mul_left_of_dvd _ (gcd_right p.stride q.stride) j) in
    let regroup : p.base + i * p.stride + (q.base + j * q.stride) ≡ p.base + q.base + (i * p.stride + j * q.stride) = omega arith in
    let sum : (x + y) % m ≡ (p.base + q.base + (i * p.stride + j * q.stride)) % m = sum_mod m (p.base + i * p.stride) (q.base + j * q.stride) x y is are ∙ ap (λ (n : ℕ). n % m) regroup in
    add_spans_cases m p q (λ set. Has m set ((x + y) % m))
    (λ low.
    let found = multiple (gcd p.stride q.stride) (i * p.stride + j * q.stride) (reach p + reach q) div (omega (arith, most, most_too)) in
    make_has m (p.base + q.base) (gcd p.stride q.stride) _ ((x + y) % m) (fits_to m (gcd p.stride q.stride) (reach p + reach q) low)
    (found.0, found.1, sum ∙ ap (λ (n : ℕ). (p.base + q.base + n) % m) found.2))
    (class_reached m (p.base + q.base) (gcd p.stride q.stride) ((x + y) % m) (i * p.stride + j * q.stride) (let b = s.below in omega (arith, b)) sum div)

-- ---- differences

pub negated_is : (m : ℕ) (p : Progression) → IsRun m p → IsRun m (negated m p)
unfolding negated
negated_is m p s = record { below = mod-lt (m - (p.base + reach p) % m) {m = m} (let b = s.below in omega (arith, b)); some = s.some; once = s.once; strides = s.strides }

turned : (m last y k : ℕ) → last < m → y < m → k < m → (y + k) % m ≡ last → (m - y) % m ≡ ((m - last) % m + k) % m
turned m last y k a b c h = elim (mod_cases (y + k) m (omega arith)) [
  | inl low ↦ let e : m - y ≡ m - last + k = omega (arith, h, low.1) in ap (λ (n : ℕ). n % m) e ∙ sym (base_mod m (m - last) k)
  | inr high ↦ let e : m - y + m ≡ m - last + k = omega (arith, h, high.1, high.0) in
      sym (add-mod_right (m - y) m) ∙ ap (λ (n : ℕ). n % m) e ∙ sym (base_mod m (m - last) k)
]

pub negated_has : (m : ℕ) (p : Progression) (y : ℕ) → IsRun m p → InSpan m p y → InSpan m (negated m p) ((m - y) % m)
unfolding negated
negated_has m p y s (j, short, is) =
    let pos : 0 < m = (let b = s.below in omega (arith, b)) in
    let k = (p.count - 1 - j) * p.stride in
    let e : j + (p.count - 1 - j) ≡ p.count - 1 = omega (arith, short) in
    let both : (j + (p.count - 1 - j)) * p.stride ≡ j * p.stride + (p.count - 1 - j) * p.stride = omega arith in
    let whole : j * p.stride + (p.count - 1 - j) * p.stride ≡ (p.count - 1) * p.stride = sym both ∙ ap (λ (n : ℕ). n * p.stride) e in
    let regroup : p.base + j * p.stride + (p.count - 1 - j) * p.stride ≡ p.base + reach p = omega (arith, whole) in
    let last : (y + (p.count - 1 - j) * p.stride) % m ≡ (p.base + reach p) % m =
    ap (λ (n : ℕ). (n + (p.count - 1 - j) * p.stride) % m) is ∙ base_mod m (p.base + j * p.stride) ((p.count - 1 - j) * p.stride) ∙ ap (λ (n : ℕ). n % m) regroup in
    let ym : y < m = run_below m p.base p.stride p.count y pos (j, short, is) in
    let once = product_below (p.count - 1 - j) p.count p.stride m (omega (arith, short)) s.once in
    (p.count - 1 - j, omega (arith, short), turned m ((p.base + reach p) % m) y ((p.count - 1 - j) * p.stride) (mod-lt (p.base + reach p) {m = m} pos) ym once last)

pub minus_mod : (m x y : ℕ) → y < m → (x + (m - y) % m) % m ≡ (x + m - y) % m
minus_mod m x y h = add-mod-mod x (m - y) m ∙ ap (λ (n : ℕ). n % m) (let e : x + (m - y) ≡ x + m - y = omega arith in e)

-- ---- add, sub and twice

pub add-few : (m : ℕ) (a b : Form) → count_of m a * count_of m b ≤ 256 → add m a b ≡ combine m (sum_answer m) a b (single 0)
unfolding add
add-few m a b h = rw (le-leb (count_of m a * count_of m b) 256 h) refl

pub add-many : (m : ℕ) (a b : Form) → 256 < count_of m a * count_of m b → add m a b ≡ add_spans m (span m a) (span m b)
unfolding add
add-many m a b h = rw (lt-leb (count_of m a * count_of m b) 256 h) refl

pub sub-few : (m : ℕ) (a b : Form) → count_of m a * count_of m b ≤ 256 → sub m a b ≡ combine m (difference_answer m) a b (single 0)
unfolding sub
sub-few m a b h = rw (le-leb (count_of m a * count_of m b) 256 h) refl

pub sub-many : (m : ℕ) (a b : Form) → 256 < count_of m a * count_of m b → sub m a b ≡ add_spans m (span m a) (negated m (span m b))
unfolding sub
sub-many m a b h = rw (lt-leb (count_of m a * count_of m b) 256 h) refl

pub single_normal : (m v : ℕ) → v < m → IsNormal m (single v)
single_normal m v h = (omega arith, omega arith, (omega arith, h, tt))

pub add_normal : (m : ℕ) (a b : Form) → IsNormal m a → IsNormal m b → IsNormal m (add m a b)
add_normal m a b n k = elim (cases_lt 256 (count_of m a * count_of m b)) [
  | inr few ↦ rw (add-few m a b few) (combine_normal m (sum_answer m) a b (single 0) n k (single_normal m 0 (modulus_positive m a n)) (sum_stays m))
  | inl many ↦ rw (add-many m a b many) (add_spans_normal m (span m a) (span m b) (modulus_positive m a n))
]

pub add_has : (m : ℕ) (a b : Form) (x y : ℕ) → IsNormal m a → IsNormal m b → Has m a x → Has m b y → Has m (add m a b) ((x + y) % m)
add_has m a b x y n k h i = elim (cases_lt 256 (count_of m a * count_of m b)) [
  | inr few ↦ rw (add-few m a b few) (combine_has m (sum_answer m) a b (single 0) x y 0 n k (single_normal m 0 (modulus_positive m a n)) (sum_stays m) h i (0, omega arith, refl))
  | inl many ↦ rw (add-many m a b many) (add_spans_has m (span m a) (span m b) x y (span_is m a n) (span_is m b k) (span_has m x a n h) (span_has m y b k i))
]

pub sub_normal : (m : ℕ) (a b : Form) → IsNormal m a → IsNormal m b → IsNormal m (sub m a b)
sub_normal m a b n k = elim (cases_lt 256 (count_of m a * count_of m b)) [
  | inr few ↦ rw (sub-few m a b few) (combine_normal m (difference_answer m) a b (single 0) n k (single_normal m 0 (modulus_positive m a n)) (difference_stays m))
  | inl many ↦ rw (sub-many m a b many) (add_spans_normal m (span m a) (negated m (span m b)) (modulus_positive m a n))
]

pub sub_has : (m : ℕ) (a b : Form) (x y : ℕ) → IsNormal m a → IsNormal m b → Has m a x → Has m b y → Has m (sub m a b) ((x + m - y) % m)
sub_has m a b x y n k h i = elim (cases_lt 256 (count_of m a * count_of m b)) [
  | inr few ↦ rw (sub-few m a b few) (combine_has m (difference_answer m) a b (single 0) x y 0 n k (single_normal m 0 (modulus_positive m a n)) (difference_stays m) h i (0, omega arith, refl))
  | inl many ↦ rw (sub-many m a b many) (subst (λ (v : ℕ). Has m (add_spans m (span m a) (negated m (span m b))) v) (minus_mod m x y (member_below m y b k i))
      (add_spans_has m (span m a) (negated m (span m b)) x ((m - y) % m) (span_is m a n) (negated_is m (span m b) (span_is m b k)) (span_has m x a n h)
      (negated_has m (span m b) y (span_is m b k) (span_has m y b k i))))
]

pub twice-list : (m : ℕ) (xs : List ℕ) → twice m (Values xs) ≡ gather m (map (λ v. (v + v) % m) xs)
unfolding twice
twice-list m xs = refl

pub twice-once : (m : ℕ) (p : Progression) → 2 * reach p < m → twice m (Run p) ≡ make m (2 * p.base) (2 * p.stride) p.count
unfolding twice
twice-once m p h = rw (lt-ltb (2 * reach p) m h) refl

pub twice-round : (m : ℕ) (p : Progression) → m ≤ 2 * reach p → twice m (Run p) ≡ class m (2 * p.base) (2 * p.stride)
unfolding twice
twice-round m p h = rw (le-ltb (2 * reach p) m h) refl

pub doubled_below : (m v : ℕ) (xs : List ℕ) → 0 < m → IsIn v (map (λ v. (v + v) % m) xs) → v < m
doubled_below m v xs pos h = let found = in_mapped (λ v. (v + v) % m) v xs h in let low = mod-lt (found.0 + found.0) {m = m} pos in omega (arith, low, found.2)

pub doubled_some : (f : ℕ → ℕ) (xs : List ℕ) → 1 ≤ length xs → 1 ≤ length (map f xs)
doubled_some f [] h = h
doubled_some f (x ∷ xs) h = omega arith

pub twice_fits : (m : ℕ) (p : Progression) → IsNormal m (Run p) → 2 * reach p < m → Fits m (2 * p.stride) p.count
twice_fits m p n low =
    let double : (p.count - 1) * (2 * p.stride) ≡ 2 * reach p = omega arith in
    record { positive = omega arith; some = (let l = n.long in omega (arith, l)); once = omega (arith, double, low); strides = λ _. (let s = n.strides in omega (arith, s)) }

pub twice_normal : (m : ℕ) (set : Form) → IsNormal m set → IsNormal m (twice m set)
twice_normal m (Values xs) n = rw (twice-list m xs) (gather_normal m (map (λ v. (v + v) % m) xs) (doubled_some (λ v. (v + v) % m) xs n.0)
    (λ v h. doubled_below m v xs (modulus_positive m (Values xs) n) h))
twice_normal m (Run p) n = elim (cases_lt (2 * reach p) m) [
  | inl low ↦ rw (twice-once m p low) (make_normal m (2 * p.base) (2 * p.stride) p.count (twice_fits m p n low))
  | inr high ↦ rw (twice-round m p high) (class_normal m (2 * p.base) (2 * p.stride) (modulus_positive m (Run p) n))
]

pub twice_has : (m : ℕ) (set : Form) (v : ℕ) → IsNormal m set → Has m set v → Has m (twice m set) ((v + v) % m)
twice_has m (Values xs) v n h = rw (twice-list m xs) (gather_has m ((v + v) % m) (map (λ v. (v + v) % m) xs) (doubled_some (λ v. (v + v) % m) xs n.0)
    (λ w i. doubled_below m w xs (modulus_positive m (Values xs) n) i) (in_map (λ v. (v + v) % m) v xs (in_from_Contains xs v h)))
twice_has m (Run p) v n h =
    let run = steps_from m p.base p.stride p.count v h in
    let regroup : p.base + run.0 * p.stride + (p.base + run.0 * p.stride) ≡ 2 * p.base + run.0 * (2 * p.stride) = omega arith in
    let sum : (v + v) % m ≡ (2 * p.base + run.0 * (2 * p.stride)) % m = sum_mod m (p.base + run.0 * p.stride) (p.base + run.0 * p.stride) v v run.2 run.2 ∙ ap (λ (k : ℕ). k % m) regroup in
    elim (cases_lt (2 * reach p) m) [
      | inl low ↦ rw (twice-once m p low) (make_has m (2 * p.base) (2 * p.stride) p.count ((v + v) % m) (twice_fits m p n low) (run.0, run.1, sum))
      | inr high ↦ rw (twice-round m p high) (class_reached m (2 * p.base) (2 * p.stride) ((v + v) % m) (run.0 * (2 * p.stride)) (modulus_positive m (Run p) n) sum (dvd-mul_left (2 * p.stride) run.0))
    ]

-- ---- as the code finds them

pub row_more : (held zs : List ℕ) (f : ℕ → ℕ) (i : ℕ) → i < length zs
    → put_all held (map f (take (i + 1) zs)) ≡ put (f (get_or zs i 0)) (put_all held (map f (take i zs)))
row_more held zs f i h =
    ap (λ (ys : List ℕ). put_all held (map f ys)) (take_more zs i 0 h) ∙ ap (λ (ys : List ℕ). put_all held ys) (map-append f (take i zs) (get_or zs i 0 ∷ []))
    ∙ put_all-push held (map f (take i zs)) (f (get_or zs i 0))

pub rows_more : (held ys : List ℕ) (f : ℕ → List ℕ) (i : ℕ) → i < length ys
    → put_all held (flat_map f (take (i + 1) ys)) ≡ put_all (put_all held (flat_map f (take i ys))) (f (get_or ys i 0))
rows_more held ys f i h =
    ap (λ (zs : List ℕ). put_all held (flat_map f zs)) (take_more ys i 0 h) ∙ ap (λ (zs : List ℕ). put_all held zs) (flat_map-append f (take i ys) (get_or ys i 0 ∷ []) ∙ ap (λ (zs : List ℕ). flat_map f (take i ys) ++ zs) (append-nil (f (get_or ys i 0))))
    ∙ put_all-append held (flat_map f (take i ys)) (f (get_or ys i 0))

pub combine-is : (m : ℕ) (answer : ℕ → ℕ → ℕ → ℕ) (a b c : Form) (values : List ℕ)
    → values ≡ ascending (results answer (members m a) (members m b) (members m c))
    → set_of m values ≡ combine m answer a b c
unfolding combine
combine-is m answer a b c values is = ap (λ (xs : List ℕ). set_of m xs) is

pub results_ascend : (m : ℕ) (answer : ℕ → ℕ → ℕ → ℕ) (a b c : Form) → IsNormal m a → IsNormal m b → IsNormal m c → StaysBelow m answer
    → Ascends 0 m (ascending (results answer (members m a) (members m b) (members m c))) × (1 ≤ length (ascending (results answer (members m a) (members m b) (members m c))))
results_ascend m answer a b c n k l stays = (
  Ascends-put_all m [] (results answer (members m a) (members m b) (members m c)) (λ v h. results_below m answer a b c v n k l stays h) tt,
  ascending_some (results answer (members m a) (members m b) (members m c)) (some_results m answer a b c n k l),
)

pub all_results : (answer : ℕ → ℕ → ℕ → ℕ) (i : ℕ) (values given xs ys zs : List ℕ)
    → values ≡ ascending (results answer (take i xs) ys zs) → given ≡ values → length xs ≤ i
    → given ≡ ascending (results answer xs ys zs)
all_results answer i values given xs ys zs is same h = same ∙ is ∙ ap (λ (ws : List ℕ). ascending (results answer ws ys zs)) (take_all i xs h)

pub spans_once : (m base stride end first second count : ℕ) (p q : Progression) → base ≡ p.base + q.base
    → stride ≡ gcd p.stride q.stride → first ≡ reach p → second ≡ reach q
    → end ≡ first + second → end < m → count ≡ end / stride + 1 → make m base stride count ≡ add_spans m p q
unfolding add_spans
spans_once m base stride end first second count p q a b f s e low c =
    let sum : end ≡ reach p + reach q = e ∙ ap (λ (n : ℕ). n + second) f ∙ ap (λ (n : ℕ). reach p + n) s in
    rw (lt-ltb (reach p + reach q) m (omega (arith, low, sum))) (
    ap (λ (n : ℕ). make m n stride count) a ∙ ap (λ (n : ℕ). make m (p.base + q.base) n count) b
    ∙ ap (λ (n : ℕ). make m (p.base + q.base) (gcd p.stride q.stride) n) (c ∙ ap (λ (n : ℕ). n / stride + 1) sum ∙ ap (λ (n : ℕ). (reach p + reach q) / n + 1) b))

pub spans_round : (m base stride end first second : ℕ) (p q : Progression) → base ≡ p.base + q.base
    → stride ≡ gcd p.stride q.stride → first ≡ reach p → second ≡ reach q
    → end ≡ first + second → m ≤ end → class m base stride ≡ add_spans m p q
unfolding add_spans
spans_round m base stride end first second p q a b f s e high =
    let sum : end ≡ reach p + reach q = e ∙ ap (λ (n : ℕ). n + second) f ∙ ap (λ (n : ℕ). reach p + n) s in
    rw (le-ltb (reach p + reach q) m (omega (arith, high, sum))) (ap (λ (n : ℕ). class m n stride) a ∙ ap (λ (n : ℕ). class m (p.base + q.base) n) b)

pub negated_made : (m last : ℕ) (p : Progression) → last ≡ (p.base + reach p) % m → let made : Progression = record { base = (m - last) % m; stride = p.stride; count = p.count } in made ≡ negated m p
unfolding negated
negated_made m last p is = ap (λ (n : ℕ). let made : Progression = record { base = (m - n) % m; stride = p.stride; count = p.count } in made) is

pub added_few : (m : ℕ) (a b carry : Form) → count_of m a * count_of m b ≤ 256 → carry ≡ single 0
    → combine m (sum_answer m) a b carry ≡ add m a b
added_few m a b carry few is = ap (λ (c : Form). combine m (sum_answer m) a b c) is ∙ sym (add-few m a b few)

pub added_many : (m : ℕ) (a b : Form) (p q : Progression) → (count_of m a * count_of m b ≤ 256 → ⊥) → p ≡ span m a
    → q ≡ span m b → add_spans m p q ≡ add m a b
added_many m a b p q many s t =
    let more : 256 < count_of m a * count_of m b = elim (cases_lt 256 (count_of m a * count_of m b)) [ inl over ↦ over | inr few ↦ absurd (many few) ] in
    ap (λ (n : Progression). add_spans m n q) s ∙ ap (λ (n : Progression). add_spans m (span m a) n) t ∙ sym (add-many m a b more)

pub taken_few : (m : ℕ) (a b carry : Form) → count_of m a * count_of m b ≤ 256 → carry ≡ single 0
    → combine m (difference_answer m) a b carry ≡ sub m a b
taken_few m a b carry few is = ap (λ (c : Form). combine m (difference_answer m) a b c) is ∙ sym (sub-few m a b few)

pub taken_many : (m : ℕ) (a b : Form) (p q down : Progression) → (count_of m a * count_of m b ≤ 256 → ⊥) → p ≡ span m a
    → q ≡ span m b → down ≡ negated m q → add_spans m p down ≡ sub m a b
taken_many m a b p q down many s t d =
    let more : 256 < count_of m a * count_of m b = elim (cases_lt 256 (count_of m a * count_of m b)) [ inl over ↦ over | inr few ↦ absurd (many few) ] in
    ap (λ (n : Progression). add_spans m n down) s ∙ ap (λ (n : Progression). add_spans m (span m a) n) (d ∙ ap (λ (n : Progression). negated m n) t) ∙ sym (sub-many m a b more)

-- ---- with either sign

pub summed_few : (m : ℕ) (sign : Sign) (a b carry : Form) → count_of m a * count_of m b ≤ 256 → carry ≡ single 0
    → combine m (signed_answer m sign) a b carry ≡ signed m sign a b
summed_few m Plus = added_few m
summed_few m Minus = taken_few m

pub summed_many : (m : ℕ) (sign : Sign) (a b : Form) (p q : Progression) → (count_of m a * count_of m b ≤ 256 → ⊥)
    → p ≡ span m a → q ≡ signed_span m sign b
    → add_spans m p q ≡ signed m sign a b
summed_many m Plus a b p q many s t = added_many m a b p q many s t
summed_many m Minus a b p q many s t = taken_many m a b p (span m b) q many s refl t

pub few_with_one : (m n : ℕ) (a b carry : Form) → count_of m a * count_of m b ≤ 256 → carry ≡ single n
    → count_of m a * (count_of m b * count_of m carry) ≤ 256
few_with_one m n a b carry few is =
    let one : count_of m carry ≡ 1 = rw is refl in
    let e : count_of m b * count_of m carry ≡ count_of m b = ap (λ (k : ℕ). count_of m b * k) one ∙ (let u : count_of m b * 1 ≡ count_of m b = omega arith in u) in
    subst (λ (k : ℕ). count_of m a * k ≤ 256) (sym e) few

pub carry_normal : (m n : ℕ) (carry : Form) → n < m → carry ≡ single n → IsNormal m carry
carry_normal m n carry h is = subst (λ (set : Form). IsNormal m set) (sym is) (single_normal m n h)

pub twice_of_list : (m i : ℕ) (values given list xs : List ℕ)
    → values ≡ ascending (map (λ v. (v + v) % m) (take i list)) → length list ≤ i → given ≡ values → list ≡ xs
    → given ≡ ascending (map (λ v. (v + v) % m) xs)
twice_of_list m i values given list xs is h same are =
    same ∙ is ∙ ap (λ (ys : List ℕ). ascending (map (λ v. (v + v) % m) ys)) (take_all i list h ∙ are)

pub twice_set : (m : ℕ) (given xs : List ℕ) → given ≡ ascending (map (λ v. (v + v) % m) xs) → set_of m given ≡ twice m (Values xs)
twice_set m given xs is = ap (λ (ys : List ℕ). set_of m ys) is ∙ sym (twice-list m xs)

pub twice_ascends : (m : ℕ) (xs : List ℕ) → IsNormal m (Values xs)
    → Ascends 0 m (ascending (map (λ v. (v + v) % m) xs)) × (1 ≤ length (ascending (map (λ v. (v + v) % m) xs)))
twice_ascends m xs n = (
  Ascends-put_all m [] (map (λ v. (v + v) % m) xs) (λ v h. doubled_below m v xs (modulus_positive m (Values xs) n) h) tt,
  ascending_some (map (λ v. (v + v) % m) xs) (doubled_some (λ v. (v + v) % m) xs n.0),
)

pub twice_made : (m far : ℕ) (p : Progression) → far ≡ reach p → 2 * far < m → make m (2 * p.base) (2 * p.stride) p.count ≡ twice m (Run p)
twice_made m far p is low = sym (twice-once m p (omega (arith, is, low)))

pub twice_class : (m far : ℕ) (p : Progression) → far ≡ reach p → m ≤ 2 * far → class m (2 * p.base) (2 * p.stride) ≡ twice m (Run p)
twice_class m far p is high = sym (twice-round m p (omega (arith, is, high)))
