-- Targets and ways ascend.
use Rattle.std.proofs.Common.{◌≡◌, ℕ, zero, suc, ◌+◌, ◌-◌, ◌*◌, ◌/◌, ◌%◌, ◌<◌, ◌≤◌, ◌==◌, ◌++◌, nat_lt, Option, None, Some, List, [], ◌∷◌, map, take, drop, refl, sym, ap, ◌∙◌, subst, inl, inr, arith}
use Rattle.std.specs.List.{range_with_len}
use Rattle.std.proofs.lemmas.Bool.{cases_Bool, ltb-true, ltb-false}
use Rattle.std.proofs.lemmas.Bool.Decides.{nat_tests}
use Rattle.std.proofs.lemmas.List.FromFn.{length-map-range_with_len, take-map-range_with_len}
use Rattle.std.proofs.lemmas.Nat.{div-add-mod', mul-le}
use Rattle.value_set.specs.declared.form.Form.{Form}
use Rattle.value_set.specs.declared.form.Form.TheVariants.{Values, Run}
use Rattle.value_set.specs.declared.form.Progression.{Progression}
use Rattle.value_set.specs.Form.{Ascends, IsNormal, IsNormalRun, steps}
use Rattle.unit_ways.specs.Between.{AreAscending}
use Rattle.unit_ways.specs.Targets.{ahead_of_turn, targets_of, turned}
use Rattle.unit_ways.specs.Ways.{Way, each_way, ways_of, ways_to}
use Rattle.unit_ways.proofs.Turning.{turned_whole}

-- LISTS

lowered : (low mid m : ℕ) (xs : List ℕ) → low ≤ mid → Ascends mid m xs → Ascends low m xs
lowered low mid m [] le h = tt
lowered low mid m (x ∷ xs) le h = let from = h.0 in (omega (arith, le, from), h.1, h.2)

-- one list behind another
both_ascend : (low mid m : ℕ) (xs ys : List ℕ) → low ≤ mid → mid ≤ m → Ascends low mid xs → Ascends mid m ys → Ascends low m (xs ++ ys)
both_ascend low mid m [] ys from below h k = lowered low mid m ys from k
both_ascend low mid m (x ∷ xs) ys from below h k =
    let under = h.1 in (h.0, omega (arith, under, below), both_ascend (x + 1) mid m xs ys (omega (arith, under)) below h.2 k)

-- the values of a function that rises
rising : (f : ℕ → ℕ) (low m start count : ℕ) → ((i : ℕ) → start ≤ i → i < start + count → (low ≤ f i) × (f i < m))
    → ((i j : ℕ) → start ≤ i → i < j → j < start + count → f i < f j) → Ascends low m (map f (range_with_len start count))
rising f low m start zero within up = tt
rising f low m start (suc count) within up =
    let here = within start (omega arith) (omega arith) in (
      here.0,
      here.1,
      rising f (f start + 1) m (start + 1) count
          (λ i from below. (let more = up start i (omega arith) (omega (arith, from)) (omega (arith, below)) in omega (arith, more), (within i (omega (arith, from)) (omega (arith, below))).1))
          (λ i j from less below. up i j (omega (arith, from)) less (omega (arith, below))),
    )

drop_range : (f : ℕ → ℕ) (a n k count : ℕ) → n + k ≡ count → drop n (map f (range_with_len a count)) ≡ map f (range_with_len (a + n) k)
drop_range f a zero k count is =
    let same : count ≡ k = omega (arith, is) in let at : a ≡ a + 0 = omega arith in
    ap (λ c. map f (range_with_len a c)) same ∙ ap (λ from. map f (range_with_len from k)) at
drop_range f a (suc n) k zero is = absurd (omega (arith, is))
drop_range f a (suc n) k (suc count) is =
    let at : a + 1 + n ≡ a + suc n = omega arith in
    drop_range f (a + 1) n k count (omega (arith, is)) ∙ ap (λ from. map f (range_with_len from k)) at

-- RUNS

abbrev at_step : Progression → ℕ → ℕ
at_step p i = (p.base + i * p.stride) % 65536

-- in front of the turn, and behind it
in_front : (p : Progression) (i : ℕ) → p.base < 65536 → i < ahead_of_turn p → at_step p i ≡ p.base + i * p.stride
in_front p i below short =
    let q = (65535 - p.base) / p.stride in
    let whole = div-add-mod' (65535 - p.base) p.stride in
    let most = mul-le i p.stride q p.stride (omega (arith, short)) (omega arith) in
    let small : p.base + i * p.stride < 65536 = omega (arith, whole, most, below) in
    omega (arith, small)

is_behind : (p : Progression) (i : ℕ) → IsNormalRun 65536 p.base p.stride p.count → ahead_of_turn p ≤ i → i < p.count
    → at_step p i + 65536 ≡ p.base + i * p.stride
is_behind p i run far short =
    let q = (65535 - p.base) / p.stride in
    let below = run.below in
    let strides = run.strides in
    let once = run.once in
    let whole = div-add-mod' (65535 - p.base) p.stride in
    let rest : (65535 - p.base) % p.stride < p.stride = omega (arith, strides) in
    let least = mul-le (q + 1) p.stride i p.stride (omega (arith, far)) (omega arith) in
    let most = mul-le i p.stride (p.count - 1) p.stride (omega (arith, short)) (omega arith) in
    let around : 65536 ≤ p.base + i * p.stride = omega (arith, whole, rest, least, below) in
    let twice : p.base + i * p.stride < 131072 = omega (arith, most, once, below) in
    omega (arith, around, twice)

climbs : (p : Progression) (i j : ℕ) → 1 ≤ p.stride → i < j → i * p.stride < j * p.stride
climbs p i j strides less = let more = mul-le (i + 1) p.stride j p.stride (omega (arith, less)) (omega arith) in omega (arith, more, strides)

front_ascends : (p : Progression) (count : ℕ) → IsNormalRun 65536 p.base p.stride p.count → count ≤ ahead_of_turn p
    → Ascends p.base 65536 (map (at_step p) (range_with_len 0 count))
front_ascends p count run few =
    let below = run.below in
    rising (at_step p) p.base 65536 0 count
    (λ i from short. let is = in_front p i below (omega (arith, few, short)) in (omega (arith, is), omega arith))
    (λ i j from less short.
    let first = in_front p i below (omega (arith, few, short, less)) in
    let second = in_front p j below (omega (arith, few, short)) in
    let more = climbs p i j run.strides less in omega (arith, first, second, more))

behind_ascends : (p : Progression) (k : ℕ) → IsNormalRun 65536 p.base p.stride p.count → ahead_of_turn p + k ≡ p.count
    → Ascends 0 p.base (map (at_step p) (range_with_len (0 + ahead_of_turn p) k))
behind_ascends p k run is =
    let once = run.once in
    rising (at_step p) 0 p.base (0 + ahead_of_turn p) k
    (λ i from short.
    let at = is_behind p i run (omega (arith, from)) (omega (arith, short, is)) in
    let most = mul-le i p.stride (p.count - 1) p.stride (omega (arith, short, is)) (omega arith) in
    (omega arith, omega (arith, at, most, once)))
    (λ i j from less short.
    let first = is_behind p i run (omega (arith, from)) (omega (arith, short, is, less)) in
    let second = is_behind p j run (omega (arith, from, less)) (omega (arith, short, is)) in
    let more = climbs p i j run.strides less in omega (arith, first, second, more))

run_ascends : (p : Progression) → IsNormalRun 65536 p.base p.stride p.count
    → Ascends 0 65536 (turned (ahead_of_turn p) (steps 65536 p.base p.stride p.count))
unfolding steps
run_ascends p run =
    let n = ahead_of_turn p in
    let all = map (at_step p) (range_with_len 0 p.count) in
    let below = run.below in
    elim (cases_Bool (nat_lt n p.count)) [
      | inl turns ↦
          let short = ltb-true n p.count turns in
          let k = p.count - n in
          let sum : n + k ≡ p.count = omega (arith, short) in
          let parts : drop n all ++ take n all ≡ map (at_step p) (range_with_len (0 + n) k) ++ map (at_step p) (range_with_len 0 n) =
          ap (λ behind. behind ++ take n all) (drop_range (at_step p) 0 n k p.count sum)
          ∙ ap (λ front. map (at_step p) (range_with_len (0 + n) k) ++ front) (take-map-range_with_len (at_step p) 0 p.count n (omega (arith, short))) in
          subst (Ascends 0 65536) (sym parts) (both_ascend 0 p.base 65536 (map (at_step p) (range_with_len (0 + n) k)) (map (at_step p) (range_with_len 0 n)) (omega arith) (omega (arith, below))
          (behind_ascends p k run sum) (front_ascends p n run (omega arith)))
      | inr stays ↦
          let long = ltb-false n p.count stays in
          let whole = turned_whole n all (omega (arith, long, length-map-range_with_len (at_step p) 0 p.count)) in
          subst (Ascends 0 65536) (sym whole) (lowered 0 p.base 65536 all (omega arith) (front_ascends p p.count run (omega (arith, long))))
    ]

pub targets_ascend : (set : Form) → IsNormal 65536 set → Ascends 0 65536 (targets_of set)
targets_ascend (Values xs) normal = normal.2
targets_ascend (Run p) normal = run_ascends p normal

-- WAYS

addresses : {A : Type 0} (tos : List ℕ) (a : A) → map (λ (way : Way A). way.0) (each_way tos a) ≡ tos
addresses [] a = refl
addresses (to ∷ tos) a = ap (λ rest. to ∷ rest) (addresses tos a)

pub ways_to_ascend : {A : Type 0} (set : Form) (a : A) → IsNormal 65536 set → AreAscending (ways_to set a)
ways_to_ascend set a normal = subst (Ascends 0 65536) (sym (addresses (targets_of set) a)) (targets_ascend set normal)

pub ways_of_ascend : {A : Type 0} (joined : A → A → A) (behind target : ℕ) (on jumped : Option A) → behind < 65536
    → target < 65536 → AreAscending (ways_of joined behind target on jumped)
ways_of_ascend joined behind target None None f g = tt
ways_of_ascend joined behind target (Some a) None f g = (omega arith, f, tt)
ways_of_ascend joined behind target None (Some b) f g = (omega arith, g, tt)
ways_of_ascend {A} joined behind target (Some a) (Some b) f g =
    let one : Way A = (behind, a) in
    let other : Way A = (target, b) in
    elim (cases_Bool (behind == target)) [
      | inl same ↦ rw same (omega arith, f, tt)
      | inr apart ↦ rw apart (elim (cases_Bool (nat_lt target behind)) [
        | inl less ↦ let below = ltb-true target behind less in rw less (omega arith, g, (omega (arith, below), f, tt))
        | inr least ↦ let from = ltb-false target behind least in
            let differ : behind ≡ target → ⊥ = λ e. absurd (grind (arith, nat_tests)) in
            rw least (omega arith, f, (omega (arith, from, differ), g, tt))
      ])
    ]
