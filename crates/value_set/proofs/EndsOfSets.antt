-- The least and the greatest member of a set are members, and every member stands between them.
use Rattle.std.proofs.Common.{◌≡◌, ℕ, ◌+◌, ◌-◌, ◌*◌, ◌/◌, ◌%◌, ◌<◌, ◌≤◌, List, [], ◌∷◌, length, get_or, refl, sym, ◌∙◌, inl, inr, arith}
use Prim.Native.Nat.{zero, suc}
use Rattle.std.proofs.lemmas.Bool.{cases_lt, lt-ltb, le-ltb}
use Rattle.std.proofs.lemmas.List.Elements.{Contains-get_or}
use Rattle.std.proofs.Math.Nat.{mod-eq_of_lt, mod-eq-sub-mod, div-mul-le_self, lt-div-mul-add, mul-le-mul_right, lt_of_mul-lt-mul_right}
use Rattle.value_set.specs.declared.form.Progression.{Progression}
use Rattle.value_set.specs.declared.form.Form.{Form}
use Rattle.value_set.specs.declared.form.Form.TheVariants.{Values, Run}
use Rattle.value_set.specs.Ends.{greatest, least}
use Rattle.value_set.specs.Form.{Ascends, Has, IsNormal}
use Rattle.value_set.specs.ListFacts.{IsIn, in_from_Contains}
use Rattle.value_set.specs.StepFacts.{steps_from}
use Rattle.value_set.specs.Widening.{last_of, up_to}
use Rattle.value_set.proofs.Members.{Ascends-in, steps_has}

-- ---- which number of a run it is

pub least-straight : (m : ℕ) (p : Progression) → last_of p < m → least m (Run p) ≡ p.base
unfolding least
least-straight m p low = rw (lt-ltb (last_of p) m low) refl

pub least-turned : (m : ℕ) (p : Progression) → m ≤ last_of p → least m (Run p) ≡ up_to p.base p.stride m + p.stride - m
unfolding least
least-turned m p high = rw (le-ltb (last_of p) m high) refl

pub greatest-straight : (m : ℕ) (p : Progression) → last_of p < m → greatest m (Run p) ≡ last_of p
unfolding greatest
greatest-straight m p low = rw (lt-ltb (last_of p) m low) refl

pub greatest-turned : (m : ℕ) (p : Progression) → m ≤ last_of p → greatest m (Run p) ≡ up_to p.base p.stride m
unfolding greatest
greatest-turned m p high = rw (le-ltb (last_of p) m high) refl

-- ---- which number of a list it is

pub listed_least : (m : ℕ) (set : Form) (xs ys : List ℕ) → set ≡ Values xs → ys ≡ xs → get_or ys 0 0 ≡ least m set
unfolding least
listed_least m set xs ys is same = rw (is, same) refl

pub listed_greatest : (m n : ℕ) (set : Form) (xs ys : List ℕ) → set ≡ Values xs → ys ≡ xs → n ≡ length xs
    → get_or ys (n - 1) 0 ≡ greatest m set
unfolding greatest
listed_greatest m n set xs ys is same long = rw (is, same, long) refl

-- ---- the ends of a list

first_below : (m v : ℕ) (xs : List ℕ) → Ascends 0 m xs → IsIn v xs → get_or xs 0 0 ≤ v
first_below m v [] a h = absurd h
first_below m v (x ∷ xs) a (inl e) = omega (arith, e)
first_below m v (x ∷ xs) a (inr h) = let rest = (Ascends-in (x + 1) m v xs a.2 h).0 in omega (arith, rest)

last_above : (low m v : ℕ) (xs : List ℕ) (k : ℕ) → k + 1 ≡ length xs → Ascends low m xs → IsIn v xs → v ≤ get_or xs k 0
last_above low m v [] k l a h = absurd h
last_above low m v (x ∷ []) zero l a (inl e) = omega (arith, e)
last_above low m v (x ∷ []) zero l a (inr h) = absurd h
last_above low m v (x ∷ []) (suc k) l a h = absurd (omega (arith, l))
last_above low m v (x ∷ y ∷ zs) zero l a h = absurd (omega (arith, l))
last_above low m v (x ∷ y ∷ zs) (suc k) l a (inl e) = let rest = last_above (x + 1) m y (y ∷ zs) k (omega (arith, l)) a.2 (inl refl) in omega (arith, e, rest, a.2.0)
last_above low m v (x ∷ y ∷ zs) (suc k) l a (inr h) = last_above (x + 1) m v (y ∷ zs) k (omega (arith, l)) a.2 h

-- ---- the ends of a run

mod_once : (n m : ℕ) → m ≤ n → n < m + m → n % m ≡ n - m
mod_once n m h k = mod-eq-sub-mod h ∙ mod-eq_of_lt (omega arith)

more_steps : (d i j : ℕ) → i ≤ j → i * d ≤ j * d
more_steps d i j h = mul-le-mul_right {m = i} {n = j} d h

-- the last number in front of the turn, and the next one behind it
pub front_below : (m base stride : ℕ) → base < m → up_to base stride m < m
front_below m base stride below = omega (arith, below, div-mul-le_self (m - 1 - base) stride)

pub next_behind : (m base stride : ℕ) → base < m → 0 < stride → m ≤ up_to base stride m + stride
next_behind m base stride below positive = omega (arith, below, lt-div-mul-add {a = m - 1 - base} {b = stride} positive)

record AreEnds (m : ℕ) (set : Form) (low high : ℕ) : Type 0 where
  low_has : Has m set low
  high_has : Has m set high
  between : (v : ℕ) → Has m set v → (low ≤ v) × (v ≤ high)

-- it doesn't go round
straight_ends : (m : ℕ) (p : Progression) → IsNormal m (Run p) → last_of p < m → AreEnds m (Run p) p.base (last_of p)
straight_ends m p n low =
    let long = n.long in
    record {
      low_has = steps_has m p.base p.stride p.count p.base (0, omega arith, let is = mod-eq_of_lt {n = p.base + 0 * p.stride} {m = m} (omega arith) in omega (arith, is));
      high_has = steps_has m p.base p.stride p.count (last_of p) (p.count - 1, omega arith, sym (mod-eq_of_lt low));
      between = λ v h.
          let at = steps_from m p.base p.stride p.count v h in
          let most = more_steps p.stride at.0 (p.count - 1) (omega (arith, at.1)) in
          let is = mod-eq_of_lt {n = p.base + at.0 * p.stride} {m = m} (omega (arith, most, low)) in
          (omega (arith, at.2, is), omega (arith, at.2, is, most));
    }

-- it goes round behind its greatest number
turned_ends : (m : ℕ) (p : Progression) → IsNormal m (Run p) → m ≤ last_of p
    → AreEnds m (Run p) (up_to p.base p.stride m + p.stride - m) (up_to p.base p.stride m)
turned_ends m p n high =
    let long = n.long in
    let positive = n.strides in
    let below = n.below in
    let once = n.once in
    let t = (m - 1 - p.base) / p.stride in
    let under : t * p.stride ≤ m - 1 - p.base = div-mul-le_self (m - 1 - p.base) p.stride in
    let over : m - 1 - p.base < t * p.stride + p.stride = lt-div-mul-add {a = m - 1 - p.base} {b = p.stride} positive in
    let next : (t + 1) * p.stride ≡ t * p.stride + p.stride = omega arith in
    let inside : t < p.count - 1 = lt_of_mul-lt-mul_right p.stride {m = t} {n = p.count - 1} (omega (arith, under, high, below)) in
    let step : (t + 1) * p.stride ≤ (p.count - 1) * p.stride = more_steps p.stride (t + 1) (p.count - 1) (omega (arith, inside)) in
    record {
      low_has = steps_has m p.base p.stride p.count (p.base + t * p.stride + p.stride - m) (
        t + 1,
        omega (arith, inside),
        let is = mod_once (p.base + (t + 1) * p.stride) m (omega (arith, over, next, below)) (omega (arith, step, once, below)) in omega (arith, is, next),
      );
      high_has = steps_has m p.base p.stride p.count (p.base + t * p.stride) (t, omega (arith, inside), sym (mod-eq_of_lt (omega (arith, under, below))));
      between = λ v h.
          let at = steps_from m p.base p.stride p.count v h in
          let most = more_steps p.stride at.0 (p.count - 1) (omega (arith, at.1)) in
          elim (cases_lt t at.0) [
            | inl behind ↦
                let far = more_steps p.stride (t + 1) at.0 (omega (arith, behind)) in
                let is = mod_once (p.base + at.0 * p.stride) m (omega (arith, far, over, next, below)) (omega (arith, most, once, below)) in
                (omega (arith, at.2, is, far, next), omega (arith, at.2, is, most, once, below))
            | inr front ↦
                let near = more_steps p.stride at.0 t front in
                let is = mod-eq_of_lt {n = p.base + at.0 * p.stride} {m = m} (omega (arith, near, under, below)) in
                (omega (arith, at.2, is, step, once, next), omega (arith, at.2, is, near))
          ];
    }

-- ---- of every set

ends_are : (m : ℕ) (set : Form) → IsNormal m set → AreEnds m set (least m set) (greatest m set)
unfolding least greatest
ends_are m (Values xs) n = let some = n.0 in record {
  low_has = Contains-get_or xs 0 0 (omega (arith, some));
  high_has = Contains-get_or xs (length xs - 1) 0 (omega (arith, some));
  between = λ v h. let there = in_from_Contains xs v h in (first_below m v xs n.2 there, last_above 0 m v xs (length xs - 1) (omega (arith, some)) n.2 there);
}
ends_are m (Run p) n = elim (cases_lt (last_of p) m) [
  | inl low ↦ rw (lt-ltb (last_of p) m low) (straight_ends m p n low)
  | inr high ↦ rw (le-ltb (last_of p) m high) (turned_ends m p n high)
]

pub least_has : (m : ℕ) (set : Form) → IsNormal m set → Has m set (least m set)
least_has m set n = (ends_are m set n).low_has

pub least_first : (m v : ℕ) (set : Form) → IsNormal m set → Has m set v → least m set ≤ v
least_first m v set n h = ((ends_are m set n).between v h).0

pub greatest_has : (m : ℕ) (set : Form) → IsNormal m set → Has m set (greatest m set)
greatest_has m set n = (ends_are m set n).high_has

pub greatest_last : (m v : ℕ) (set : Form) → IsNormal m set → Has m set v → v ≤ greatest m set
greatest_last m v set n h = ((ends_are m set n).between v h).1
