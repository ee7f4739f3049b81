-- Where the members of sets have one remainder modulo a divisor of the modulus, those of joins, widenings, sums,
-- differences and cuts have one.
use Rattle.std.proofs.Common.{◌≡◌, ℕ, ◌+◌, ◌-◌, ◌*◌, ◌%◌, ◌/◌, ◌<◌, ◌≤◌, List, [], ◌∷◌, ◌++◌, length, map, refl, sym, ◌∙◌, ap, subst, inl, inr, arith, eqb, ltb, Option, Some, None}
use Prim.Native.Nat.{◌∣◌}
use Rattle.std.specs.List.{fold, filter}
use Rattle.std.specs.Prelude.{◌||◌, nat_le}
use Rattle.std.proofs.lemmas.Bool.{cases_lt, cases_eq, cases_Bool}
use Rattle.std.proofs.Math.Nat.{mod-lt, mod-mod, mod-mod_of_dvd, add-mod-mod, mod-add-mod, add-mod_right, mod-eq-zero_of_dvd, dvd_of_mod-eq-zero, dvd-mul_left_of_dvd, dvd-mul_right, dvd_trans, pos_of_dvd_of_pos}
use Rattle.value_set.specs.Gcd.{gcd}
use Rattle.value_set.specs.declared.form.Progression.{Progression}
use Rattle.value_set.specs.declared.form.Form.{Form}
use Rattle.value_set.specs.declared.form.Form.TheVariants.{Values, Run}
use Rattle.value_set.specs.Form.{make, members, Has, ascending, Ascends, IsNormal, above, hull_base, hull, span, gather, class}
use Rattle.value_set.specs.Remainders.{HasRemainder}
use Rattle.value_set.specs.Joining.{candidate, reach, join_spans, join}
use Rattle.value_set.specs.Widening.{widened_between, first_widened, last_widened, widen_span, widen, last_of}
use Rattle.value_set.specs.Summing.{single, results, combine, count_of, sum_answer, difference_answer, add_spans, negated, add, sub, twice}
use Rattle.value_set.specs.Cutting.{IfThere, count_below, part, join_parts, front_count, behind_base, cut}
use Rattle.value_set.specs.ListFacts.{IsIn, in_from_Contains, Contains_from_in, in_either, in_mapped}
use Rattle.value_set.specs.StepFacts.{steps_from}
use Rattle.value_set.proofs.Divisors.{gcd_is}
use Rattle.value_set.proofs.Members.{InRun, in_ascending, steps_has, Ascends-in, Ascends-put_all, ascending_some}
use Rattle.value_set.proofs.Rounds.{above_back, differ}
use Rattle.value_set.proofs.Making.{make-few, make-whole, make-open}
use Rattle.value_set.proofs.Spans.{hull_base_in, span_is, set_of-few, set_of-many, modulus_positive}
use Rattle.value_set.proofs.Joins.{IsRun, choose_cases, candidate_base, apart_cases, join_cases, join_normal}
use Rattle.value_set.proofs.Answering.{member_below}
use Rattle.value_set.proofs.Sums.{results_some, results_are, some_members, add_spans_cases, add-few, add-many, sub-few, sub-many, twice-list, twice-once, twice-round, doubled_below, doubled_some}
use Rattle.value_set.proofs.Cuts.{Low, part-none, part-some, count_less, base_seen, behind_starts, front_part, behind_part, front_normal, behind_normal, cut_run-is, in_filtered, list_there}
use Rattle.value_set.proofs.Widens.{widen_span-class, widen_span-between, first_cases, widen_cases}

-- ---- numbers

pub step_same : (m n b k : ℕ) → n ∣ m → n ∣ k → (b + k) % m % n ≡ b % n
step_same m n b k whole part =
    let none : k % n ≡ 0 = mod-eq-zero_of_dvd n part in
    let plain : b + k % n ≡ b = omega (arith, none) in
    mod-mod_of_dvd n (b + k) whole ∙ sym (add-mod-mod b k n) ∙ ap (λ (w : ℕ). w % n) plain

-- numbers with one remainder stand a multiple of the divisor apart
pub above_divides : (m n b v : ℕ) → n ∣ m → b < m → v < m → b % n ≡ v % n → n ∣ above m b v
above_divides m n b v whole h k same =
    differ b (above m b v) n (sym (mod-mod_of_dvd n (b + above m b v) whole) ∙ ap (λ (w : ℕ). w % n) (above_back m b v h k) ∙ sym same)

-- ---- what is made of a run

pub run_remainder : (m n b d c v : ℕ) → n ∣ m → n ∣ d → InRun m b d c v → v % n ≡ b % n
run_remainder m n b d c v whole part (i, short, is) = ap (λ (w : ℕ). w % n) is ∙ step_same m n b (i * d) whole (dvd-mul_left_of_dvd n part i)

pub make_remainder : (m n b d c : ℕ) → n ∣ m → n ∣ d → HasRemainder m n (b % n) (make m b d c)
make_remainder m n b d c whole part v h = elim (cases_lt 16 c) [
  | inr few ↦ run_remainder m n b d c v whole part (steps_from m b d c v (Contains_from_in _ v (in_ascending v _ (in_from_Contains _ v (rw (make-few m b d c few) at h)))))
  | inl many ↦ elim (cases_eq (c * d) m) [
    | inl round ↦ run_remainder m n (b % d) d c v whole part (steps_from m (b % d) d c v (rw (make-whole m b d c many round) at h)) ∙ mod-mod_of_dvd n b part
    | inr apart ↦ run_remainder m n (b % m) d c v whole part (steps_from m (b % m) d c v (rw (make-open m b d c many apart) at h)) ∙ mod-mod_of_dvd n b whole
  ]
]

gcd_above : (n a b : ℕ) → n ∣ a → n ∣ b → n ∣ gcd a b
gcd_above n a b h k = (gcd_is a b).2 n h k

pub class_remainder : (m n b d : ℕ) → n ∣ m → n ∣ d → HasRemainder m n (b % n) (class m b d)
unfolding class
class_remainder m n b d whole part v h =
    let both = gcd_above n d m part whole in
    make_remainder m n (b % gcd d m) (gcd d m) (m / gcd d m) whole both v h ∙ mod-mod_of_dvd n b both

-- ---- the run that a set is drawn from

-- a run of numbers with the remainder r
abbrev pub RunsWith : (n r : ℕ) → Progression → Type 0
RunsWith n r p = (p.base % n ≡ r) × (n ∣ p.stride)

strides_with : (m n b g : ℕ) (xs : List ℕ) → n ∣ g → ((v : ℕ) → IsIn v xs → n ∣ above m b v) → n ∣ fold (λ g v. gcd g (above m b v)) g xs
strides_with m n b g [] h each = h
strides_with m n b g (x ∷ xs) h each = strides_with m n b (gcd g (above m b x)) xs (gcd_above n g (above m b x) h (each x (inl refl))) (λ v i. each v (inr i))

nothing_divided : (n : ℕ) → n ∣ 0
nothing_divided n = dvd_of_mod-eq-zero n (omega arith)

pub ascending_with : (m n r : ℕ) (xs : List ℕ) → n ∣ m → 1 ≤ length xs → Ascends 0 m xs
    → ((v : ℕ) → IsIn v xs → v % n ≡ r) → RunsWith n r (hull m xs)
unfolding hull
ascending_with m n r xs whole some rises each =
    let first = hull_base_in m xs some in
    let base : hull_base m xs % n ≡ r = each (hull_base m xs) first in
    let low = Ascends-in 0 m (hull_base m xs) xs rises first in (
      base,
      strides_with m n (hull_base m xs) 0 xs (nothing_divided n)
          (λ v i. above_divides m n (hull_base m xs) v whole low.1 (Ascends-in 0 m v xs rises i).1 (base ∙ sym (each v i))),
    )

pub run_with : (m n r : ℕ) (p : Progression) → n ∣ m → IsNormal m (Run p) → HasRemainder m n r (Run p) → RunsWith n r p
run_with m n r p whole form each =
    let long = form.long in
    let none : p.base + 0 * p.stride ≡ p.base = omega arith in
    let one : p.base + 1 * p.stride ≡ p.base + p.stride = omega arith in
    let first = each ((p.base + 0 * p.stride) % m) (steps_has m p.base p.stride p.count _ (0, omega (arith, long), refl)) in
    let second = each ((p.base + 1 * p.stride) % m) (steps_has m p.base p.stride p.count _ (1, omega (arith, long), refl)) in
    let base : p.base % n ≡ r = ap (λ (w : ℕ). w % n) (sym none) ∙ sym (mod-mod_of_dvd n (p.base + 0 * p.stride) whole) ∙ first in
    let next : (p.base + p.stride) % n ≡ r = ap (λ (w : ℕ). w % n) (sym one) ∙ sym (mod-mod_of_dvd n (p.base + 1 * p.stride) whole) ∙ second in
    (base, differ p.base p.stride n (next ∙ sym base))

pub span_with : (m n r : ℕ) (set : Form) → n ∣ m → IsNormal m set → HasRemainder m n r set → RunsWith n r (span m set)
span_with m n r (Values xs) whole form each = ascending_with m n r xs whole form.0 form.2 (λ v i. each v (Contains_from_in xs v i))
span_with m n r (Run p) whole form each = run_with m n r p whole form each

-- ---- joins

candidate_with : (m n r : ℕ) (p q : Progression) → n ∣ m → IsRun m p → IsRun m q → RunsWith n r p → RunsWith n r q
    → n ∣ (candidate m p q).stride
unfolding candidate
candidate_with m n r p q whole s t first second =
    gcd_above n (gcd p.stride q.stride) (above m p.base q.base) (gcd_above n p.stride q.stride first.1 second.1)
    (above_divides m n p.base q.base whole s.below t.below (first.0 ∙ sym second.0))

pub join_spans_remainder : (m n r : ℕ) (p q : Progression) → n ∣ m → IsRun m p → IsRun m q → RunsWith n r p
    → RunsWith n r q → HasRemainder m n r (join_spans m p q)
join_spans_remainder m n r p q whole s t first second =
    let one = candidate m p q in
    let other = candidate m q p in
    let base : (candidate m p q).base % n ≡ r = ap (λ (w : ℕ). w % n) (candidate_base m p q) ∙ first.0 in
    let base_too : (candidate m q p).base % n ≡ r = ap (λ (w : ℕ). w % n) (candidate_base m q p) ∙ second.0 in
    let part = candidate_with m n r p q whole s t first second in
    let part_too = candidate_with m n r q p whole t s second first in
    choose_cases m one other (λ set. HasRemainder m n r set)
    (λ low v h. make_remainder m n other.base other.stride (other.end / other.stride + 1) whole part_too v h ∙ base_too)
    (λ low v h. make_remainder m n one.base one.stride (one.end / one.stride + 1) whole part v h ∙ base)
    (λ v h. class_remainder m n one.base one.stride whole part v h ∙ base)

pub join_remainder : (m n r : ℕ) (a b : Form) → n ∣ m → IsNormal m a → IsNormal m b → HasRemainder m n r a
    → HasRemainder m n r b → HasRemainder m n r (join m a b)
join_remainder m n r a b whole k l first second = join_cases m a b (λ set. HasRemainder m n r set) (λ i. first) (λ i. second)
    (apart_cases m a b (λ set. HasRemainder m n r set)
    (λ xs ys is are short v h.
    let first_list : HasRemainder m n r (Values xs) = subst (λ (set : Form). HasRemainder m n r set) is first in
    let second_list : HasRemainder m n r (Values ys) = subst (λ (set : Form). HasRemainder m n r set) are second in
    elim (in_either v xs ys (in_ascending v (xs ++ ys) (in_from_Contains (ascending (xs ++ ys)) v h))) [
      | inl i ↦ first_list v (Contains_from_in xs v i)
      | inr i ↦ second_list v (Contains_from_in ys v i)
    ])
    (join_spans_remainder m n r (span m a) (span m b) whole (span_is m a k) (span_is m b l) (span_with m n r a whole k first) (span_with m n r b whole l second)))

-- ---- widenings

lower_same : (n base first stride : ℕ) → n ∣ stride → first ≤ base → stride ∣ base - first → first % n ≡ base % n
lower_same n base first stride part low steps =
    let none : (base - first) % n ≡ 0 = mod-eq-zero_of_dvd n (dvd_trans n part steps) in
    let plain : first + (base - first) % n ≡ first = omega (arith, none) in
    let whole : first + (base - first) ≡ base = omega (arith, low) in
    ap (λ (w : ℕ). w % n) (sym plain) ∙ add-mod-mod first (base - first) n ∙ ap (λ (w : ℕ). w % n) whole

between_remainder : (m n r : ℕ) (run : Progression) (first last : Option ℕ) → n ∣ m → RunsWith n r run
    → ((k : ℕ) → first ≡ Some k → (k ≤ run.base) × (run.stride ∣ run.base - k)) → HasRemainder m n r (widened_between m run first last)
between_remainder m n r run None last whole k low v h = class_remainder m n run.base run.stride whole k.1 v h ∙ k.0
between_remainder m n r run (Some first) None whole k low v h = class_remainder m n run.base run.stride whole k.1 v h ∙ k.0
between_remainder m n r run (Some first) (Some last) whole k low v h = let found = low first refl in
    make_remainder m n first run.stride ((last - first) / run.stride + 1) whole k.1 v h ∙ lower_same n run.base first run.stride k.1 found.0 found.1 ∙ k.0

widen_span_remainder : (m n r : ℕ) (run held : Progression) (marks : List ℕ) → n ∣ m → RunsWith n r run
    → HasRemainder m n r (widen_span m run held marks)
widen_span_remainder m n r run held marks whole k = elim (cases_Bool ((eqb (length marks) 0) || nat_le m (last_of run))) [
  | inl all ↦ rw (widen_span-class m run held marks all) (λ v h. class_remainder m n run.base run.stride whole k.1 v h ∙ k.0)
  | inr marked ↦ rw (widen_span-between m run held marks marked)
      (between_remainder m n r run (first_widened run held marks) (last_widened m run held marks) whole k (λ first is. first_cases run held marks first is))
]

pub widen_remainder : (m n r : ℕ) (held new : Form) (marks : List ℕ) → n ∣ m → IsNormal m held → IsNormal m new
    → HasRemainder m n r held → HasRemainder m n r new
    → HasRemainder m n r (widen m held new marks)
widen_remainder m n r held new marks whole k l first second = widen_cases m held new marks (λ set. HasRemainder m n r set) (λ inside. first)
    (widen_span_remainder m n r (span m (join m held new)) (span m held) marks whole
    (span_with m n r (join m held new) whole (join_normal m held new k l) (join_remainder m n r held new whole k l first second)))

-- ---- numbers that are gathered, and all results of an operation

pub gather_remainder : (m n r : ℕ) (xs : List ℕ) → n ∣ m → 1 ≤ length xs → ((v : ℕ) → IsIn v xs → v < m)
    → ((v : ℕ) → IsIn v xs → v % n ≡ r) → HasRemainder m n r (gather m xs)
gather_remainder m n r xs whole some below each =
    let rises = Ascends-put_all m [] xs below tt in
    let long = ascending_some xs some in
    elim (cases_lt 16 (length (ascending xs))) [
      | inr few ↦ rw (set_of-few m (ascending xs) few) (λ v h. each v (in_ascending v xs (in_from_Contains (ascending xs) v h)))
      | inl many ↦
          let with_all = ascending_with m n r (ascending xs) whole long rises (λ v i. each v (in_ascending v xs i)) in
          rw (set_of-many m (ascending xs) many) (λ v h. make_remainder m n (hull m (ascending xs)).base (hull m (ascending xs)).stride (hull m (ascending xs)).count whole with_all.1 v h ∙ with_all.0)
    ]

pub combine_remainder : (m n r : ℕ) (answer : ℕ → ℕ → ℕ → ℕ) (a b c : Form) → n ∣ m
    → 1 ≤ length (members m a) → 1 ≤ length (members m b) → 1 ≤ length (members m c)
    → ((x y z : ℕ) → Has m a x → Has m b y → Has m c z → answer x y z < m)
    → ((x y z : ℕ) → Has m a x → Has m b y → Has m c z → answer x y z % n ≡ r) → HasRemainder m n r (combine m answer a b c)
unfolding combine
combine_remainder m n r answer a b c whole some_a some_b some_c below each =
    let xs = members m a in let ys = members m b in let zs = members m c in
    gather_remainder m n r (results answer xs ys zs) whole (results_some answer xs ys zs some_a some_b some_c)
    (λ v i. let found = results_are answer v xs ys zs i in subst (λ (w : ℕ). w < m) found.6
    (below found.0 found.1 found.2 (Contains_from_in xs found.0 found.3) (Contains_from_in ys found.1 found.4) (Contains_from_in zs found.2 found.5)))
    (λ v i. let found = results_are answer v xs ys zs i in subst (λ (w : ℕ). w % n ≡ r) found.6
    (each found.0 found.1 found.2 (Contains_from_in xs found.0 found.3) (Contains_from_in ys found.1 found.4) (Contains_from_in zs found.2 found.5)))

-- ---- sums and differences

sum_same : (n r s x y : ℕ) → x % n ≡ r → y % n ≡ s → (x + y) % n ≡ (r + s) % n
sum_same n r s x y h k = sym (mod-add-mod x n y) ∙ ap (λ (w : ℕ). (w + y) % n) h ∙ sym (add-mod-mod r y n) ∙ ap (λ (w : ℕ). (r + w) % n) k

add_spans_remainder : (m n r s : ℕ) (p q : Progression) → n ∣ m → RunsWith n r p → RunsWith n s q
    → HasRemainder m n ((r + s) % n) (add_spans m p q)
add_spans_remainder m n r s p q whole first second =
    let base = sum_same n r s p.base q.base first.0 second.0 in
    let part = gcd_above n p.stride q.stride first.1 second.1 in
    add_spans_cases m p q (λ set. HasRemainder m n ((r + s) % n) set)
    (λ low v h. make_remainder m n (p.base + q.base) (gcd p.stride q.stride) ((reach p + reach q) / gcd p.stride q.stride + 1) whole part v h ∙ base)
    (λ v h. class_remainder m n (p.base + q.base) (gcd p.stride q.stride) whole part v h ∙ base)

cancelled : (n s a b : ℕ) → s ≤ n → (a + s) % n ≡ (b + s) % n → a % n ≡ b % n
cancelled n s a b h same =
    let first : a + n ≡ a + s + (n - s) = omega (arith, h) in
    let second : b + s + (n - s) ≡ b + n = omega (arith, h) in
    sym (add-mod_right a n) ∙ ap (λ (w : ℕ). w % n) first ∙ sym (mod-add-mod (a + s) n (n - s)) ∙ ap (λ (w : ℕ). (w + (n - s)) % n) same
    ∙ mod-add-mod (b + s) n (n - s) ∙ ap (λ (w : ℕ). w % n) second ∙ add-mod_right b n

difference_same : (m n r s x y : ℕ) → n ∣ m → 0 < n → y < m → x % n ≡ r → y % n ≡ s → (x + m - y) % m % n ≡ (r + n - s) % n
difference_same m n r s x y whole pos low h k =
    let small : s < n = let l = mod-lt y {m = n} pos in omega (arith, l, k) in
    let none : m % n ≡ 0 = mod-eq-zero_of_dvd n whole in
    let back : x + m - y + y ≡ x + m = omega (arith, low) in
    let plain : x + m % n ≡ x = omega (arith, none) in
    let first : (x + m - y + s) % n ≡ r =
    ap (λ (w : ℕ). (x + m - y + w) % n) (sym k) ∙ add-mod-mod (x + m - y) y n ∙ ap (λ (w : ℕ). w % n) back ∙ sym (add-mod-mod x m n) ∙ ap (λ (w : ℕ). w % n) plain ∙ h in
    let again : r + n - s + s ≡ r + n = omega (arith, small) in
    let second : (r + n - s + s) % n ≡ r = ap (λ (w : ℕ). w % n) again ∙ add-mod_right r n ∙ ap (λ (w : ℕ). w % n) (sym h) ∙ mod-mod x n ∙ h in
    mod-mod_of_dvd n (x + m - y) whole ∙ cancelled n s (x + m - y) (r + n - s) (omega (arith, small)) (first ∙ sym second)

negated_with : (m n s : ℕ) (p : Progression) → n ∣ m → 0 < n → IsRun m p → RunsWith n s p → RunsWith n ((0 + n - s) % n) (negated m p)
unfolding negated
negated_with m n s p whole pos t k =
    let low = mod-lt (p.base + reach p) {m = m} (let b = t.below in omega (arith, b)) in
    let last : (p.base + reach p) % m % n ≡ s = step_same m n p.base (reach p) whole (dvd-mul_left_of_dvd n k.1 (p.count - 1)) ∙ k.0 in
    let none : 0 + m - (p.base + reach p) % m ≡ m - (p.base + reach p) % m = omega arith in
    (ap (λ (w : ℕ). w % m % n) (sym none) ∙ difference_same m n 0 s 0 ((p.base + reach p) % m) whole pos low (omega arith) last, k.1)

pub add_remainder : (m n r s : ℕ) (a b : Form) → n ∣ m → IsNormal m a → IsNormal m b → HasRemainder m n r a
    → HasRemainder m n s b → HasRemainder m n ((r + s) % n) (add m a b)
add_remainder m n r s a b whole k l first second = elim (cases_lt 256 (count_of m a * count_of m b)) [
  | inr few ↦ rw (add-few m a b few) (combine_remainder m n ((r + s) % n) (sum_answer m) a b (single 0) whole (some_members m a k) (some_members m b l) (omega arith)
      (λ x y z h i j. mod-lt (x + y) {m = m} (modulus_positive m a k))
      (λ x y z h i j. mod-mod_of_dvd n (x + y) whole ∙ sum_same n r s x y (first x h) (second y i)))
  | inl many ↦ rw (add-many m a b many) (add_spans_remainder m n r s (span m a) (span m b) whole (span_with m n r a whole k first) (span_with m n s b whole l second))
]

pub sub_remainder : (m n r s : ℕ) (a b : Form) → n ∣ m → IsNormal m a → IsNormal m b → HasRemainder m n r a
    → HasRemainder m n s b → HasRemainder m n ((r + n - s) % n) (sub m a b)
sub_remainder m n r s a b whole k l first second =
    let pos : 0 < n = pos_of_dvd_of_pos {m = n} {n = m} whole (modulus_positive m a k) in
    elim (cases_lt 256 (count_of m a * count_of m b)) [
      | inr few ↦ rw (sub-few m a b few) (combine_remainder m n ((r + n - s) % n) (difference_answer m) a b (single 0) whole (some_members m a k) (some_members m b l) (omega arith)
          (λ x y z h i j. mod-lt (x + m - y) {m = m} (modulus_positive m a k))
          (λ x y z h i j. difference_same m n r s x y whole pos (member_below m y b l i) (first x h) (second y i)))
      | inl many ↦
          let down = span_with m n s b whole l second in
          let small : s < n = let low = mod-lt (span m b).base {m = n} pos in omega (arith, low, down.0) in
          let sum : r + (0 + n - s) ≡ r + n - s = omega (arith, small) in
          let turned : (r + (0 + n - s) % n) % n ≡ (r + n - s) % n = add-mod-mod r (0 + n - s) n ∙ ap (λ (w : ℕ). w % n) sum in
          rw (sub-many m a b many) (λ v h.
          add_spans_remainder m n r ((0 + n - s) % n) (span m a) (negated m (span m b)) whole (span_with m n r a whole k first)
          (negated_with m n s (span m b) whole pos (span_is m b l) down) v h ∙ turned)
    ]

twice_list_remainder : (m n r : ℕ) (xs : List ℕ) → n ∣ m → IsNormal m (Values xs)
    → ((v : ℕ) → IsIn v xs → (v + v) % m % n ≡ r) → HasRemainder m n r (twice m (Values xs))
twice_list_remainder m n r xs whole k each = rw (twice-list m xs) (gather_remainder m n r (map (λ v. (v + v) % m) xs) whole (doubled_some (λ v. (v + v) % m) xs k.0)
    (λ v h. doubled_below m v xs (modulus_positive m (Values xs) k) h)
    (λ v h. let found = in_mapped (λ v. (v + v) % m) v xs h in subst (λ (w : ℕ). w % n ≡ r) found.2 (each found.0 found.1)))

twice_run_remainder : (m n r : ℕ) (p : Progression) → n ∣ m → n ∣ 2 * p.stride → 2 * p.base % n ≡ r → HasRemainder m n r (twice m (Run p))
twice_run_remainder m n r p whole part base = elim (cases_lt (2 * reach p) m) [
  | inl low ↦ rw (twice-once m p low) (λ v h. make_remainder m n (2 * p.base) (2 * p.stride) p.count whole part v h ∙ base)
  | inr high ↦ rw (twice-round m p high) (λ v h. class_remainder m n (2 * p.base) (2 * p.stride) whole part v h ∙ base)
]

pub twice_remainder : (m n r : ℕ) (a : Form) → n ∣ m → IsNormal m a → HasRemainder m n r a → HasRemainder m n ((r + r) % n) (twice m a)
twice_remainder m n r (Values xs) whole k first = twice_list_remainder m n ((r + r) % n) xs whole k
    (λ v i. let h = first v (Contains_from_in xs v i) in mod-mod_of_dvd n (v + v) whole ∙ sum_same n r r v v h h)
twice_remainder m n r (Run p) whole k first =
    let run = run_with m n r p whole k first in
    let double : 2 * p.base ≡ p.base + p.base = omega arith in
    twice_run_remainder m n ((r + r) % n) p whole (dvd-mul_left_of_dvd n run.1 2) (ap (λ (w : ℕ). w % n) double ∙ sum_same n r r p.base p.base run.0 run.0)

-- doubled numbers are even
pub twice_even : (m : ℕ) (a : Form) → 2 ∣ m → IsNormal m a → HasRemainder m 2 0 (twice m a)
twice_even m (Values xs) whole k = twice_list_remainder m 2 0 xs whole k (λ v i. mod-mod_of_dvd 2 (v + v) whole ∙ (let none : (v + v) % 2 ≡ 0 = omega arith in none))
twice_even m (Run p) whole k = twice_run_remainder m 2 0 p whole (dvd-mul_right 2 p.stride) (omega arith)

-- ---- cuts

joined_remainder : (m n r : ℕ) (front behind : Option Form) → n ∣ m → IfThere (λ set. IsNormal m set) front
    → IfThere (λ set. IsNormal m set) behind
    → IfThere (λ set. HasRemainder m n r set) front → IfThere (λ set. HasRemainder m n r set) behind
    → IfThere (λ set. HasRemainder m n r set) (join_parts m front behind)
joined_remainder m n r None behind whole k l first second = second
joined_remainder m n r (Some a) None whole k l first second = first
joined_remainder m n r (Some a) (Some b) whole k l first second = join_remainder m n r a b whole k l first second

part_remainder : (m n r base stride count : ℕ) → n ∣ m → n ∣ stride → (1 ≤ count → base % n ≡ r)
    → IfThere (λ set. HasRemainder m n r set) (part m base stride count)
part_remainder m n r base stride count whole part same = elim (cases_eq count 0) [
  | inl none ↦ rw (part-none m base stride count none) tt
  | inr some ↦ rw (part-some m base stride count some) (λ v h. make_remainder m n base stride count whole part v h ∙ same (omega (arith, some)))
]

behind_same : (m n r low : ℕ) (p : Progression) → n ∣ m → Low m p low → RunsWith n r p → front_count m p low < p.count
    → (low + behind_base m p low) % m % n ≡ r
behind_same m n r low p whole (k, h) run short =
    let starts = behind_starts m low p k.strides short in
    let seen : low + behind_base m p low + m ≡ low + above m low p.base + front_count m p low * p.stride = omega (arith, starts) in
    mod-mod_of_dvd n (low + behind_base m p low) whole ∙ sym (step_same m n (low + behind_base m p low) m whole whole) ∙ ap (λ (w : ℕ). w % m % n) seen
    ∙ step_same m n (low + above m low p.base) (front_count m p low * p.stride) whole (dvd-mul_left_of_dvd n run.1 (front_count m p low))
    ∙ sym (mod-mod_of_dvd n (low + above m low p.base) whole) ∙ ap (λ (w : ℕ). w % n) (base_seen m low p h k.below) ∙ run.0

front_remainder : (m n r : ℕ) (p : Progression) (low len : ℕ) → n ∣ m → RunsWith n r p
    → IfThere (λ set. HasRemainder m n r set) (front_part m p low len)
unfolding front_part
front_remainder m n r p low len whole run = part_remainder m n r p.base p.stride (count_below len (above m low p.base) p.stride (front_count m p low)) whole run.1 (λ _. run.0)

behind_remainder : (m n r : ℕ) (p : Progression) (low len : ℕ) → n ∣ m → Low m p low → RunsWith n r p
    → IfThere (λ set. HasRemainder m n r set) (behind_part m p low len)
unfolding behind_part
behind_remainder m n r p low len whole l run =
    part_remainder m n r ((low + behind_base m p low) % m) p.stride (count_below len (behind_base m p low) p.stride (p.count - front_count m p low)) whole run.1
    (λ some. let k = l.0 in let less = count_less len (behind_base m p low) p.stride (p.count - front_count m p low) k.strides in
    behind_same m n r low p whole l run (omega (arith, some, less)))

pub cut_remainder : (m n r : ℕ) (set : Form) (low len : ℕ) → n ∣ m → IsNormal m set → low < m → HasRemainder m n r set
    → IfThere (λ s. HasRemainder m n r s) (cut m set low len)
unfolding cut
cut_remainder m n r (Values xs) low len whole k h each = list_there (filter (λ v. ltb (above m low v) len) xs) (λ s. HasRemainder m n r s)
    (λ some v i. each v (Contains_from_in xs v (in_filtered (λ v. ltb (above m low v) len) v xs (in_from_Contains (filter (λ v. ltb (above m low v) len) xs) v i)).0))
cut_remainder m n r (Run p) low len whole k h each =
    let run = run_with m n r p whole k each in
    rw (cut_run-is m p low len) (joined_remainder m n r (front_part m p low len) (behind_part m p low len) whole
    (front_normal m p low len (k, h)) (behind_normal m p low len (k, h))
    (front_remainder m n r p low len whole run) (behind_remainder m n r p low len whole (k, h) run))
