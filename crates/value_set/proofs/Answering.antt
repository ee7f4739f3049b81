-- The tests of members and of inclusion, as the code makes them.
use Rattle.std.proofs.Common.{◌≡◌, ℕ, ◌+◌, ◌-◌, ◌*◌, ◌%◌, ◌/◌, ◌<◌, ◌≤◌, Bool, true, false, List, length, refl, sym, ◌∙◌, ap, subst, inl, inr, arith, IsTrue, ltb, leb, below_more}
use Prim.Native.Nat.{◌∣◌}
use Rattle.std.specs.Prelude.{◌↔◌, slice_index}
use Rattle.std.proofs.lemmas.Bool.{ltb-true, lt-ltb, leb-true, le-leb, false≢true, iff_false}
use Rattle.std.proofs.lemmas.Grind.{get_or_default_zero}
use Rattle.std.proofs.Math.Nat.{dvd_of_mod-eq-zero, mod-eq-zero_of_dvd}
use Rattle.value_set.specs.declared.form.Progression.{Progression}
use Rattle.value_set.specs.declared.form.Form.{Form}
use Rattle.value_set.specs.declared.form.Form.TheVariants.{Values, Run}
use Rattle.value_set.specs.Form.{members, Has, Includes, IsNormal, IsNormalRun, above}
use Rattle.value_set.specs.ListFacts.{in_from_Contains}
use Rattle.value_set.specs.StepFacts.{length-steps, steps_from}
use Rattle.value_set.proofs.Members.{InRun, Ascends-in, get_or-steps, steps_has}
use Rattle.value_set.proofs.Rounds.{above_below, above_back, run_test, run_tested, run_below}
use Rattle.value_set.proofs.Inclusion.{Fitting, included, fitting}

-- ---- members

pub member_below : (m v : ℕ) (set : Form) → IsNormal m set → Has m set v → v < m
member_below m v (Values xs) n h = (Ascends-in 0 m v xs n.2 (in_from_Contains xs v h)).1
member_below m v (Run p) n h = run_below m p.base p.stride p.count v (let b = n.below in omega (arith, b)) (steps_from m p.base p.stride p.count v h)

pub count_of_run : (m : ℕ) (set : Form) (p : Progression) → set ≡ Run p → length (members m set) ≡ p.count
count_of_run m set p is = rw is (length-steps m p.base p.stride p.count)

pub nth_in_run : (m i : ℕ) (set : Form) (p : Progression) → set ≡ Run p → i < p.count
    → (p.base + i * p.stride) % m ≡ slice_index (members m set) i
nth_in_run m i set p is short = rw is (sym (get_or-steps m p.base p.stride p.count i 0 short))

pub not_in_run : (m v far : ℕ) (p : Progression) → IsNormalRun m p.base p.stride p.count → v < m → far ≡ above m p.base v
    → (p.stride ∣ far → ⊥) → Has m (Run p) v → ⊥
not_in_run m v far p n low is apart h =
    let found = run_test m p.base p.stride p.count v n.below n.strides n.once (steps_from m p.base p.stride p.count v h) in
    apart (subst (λ (w : ℕ). p.stride ∣ w) (sym is) (dvd_of_mod-eq-zero p.stride found.0))

pub in_run : (m v far : ℕ) (p : Progression) → IsNormalRun m p.base p.stride p.count → v < m → far ≡ above m p.base v
    → p.stride ∣ far → IsTrue (ltb (far / p.stride) p.count) ↔ Has m (Run p) v
in_run m v far p n low is whole = (
  λ t. steps_has m p.base p.stride p.count v (run_tested m p.base p.stride p.count v n.below low n.strides
      (let none = mod-eq-zero_of_dvd p.stride whole in rw (← is) none) (let short = ltb-true (far / p.stride) p.count t in rw (← is) short)),
  λ h. let found = run_test m p.base p.stride p.count v n.below n.strides n.once (steps_from m p.base p.stride p.count v h) in
      lt-ltb (far / p.stride) p.count (rw is found.1),
)

-- ---- inclusion of runs

-- the offset is that of the first base, seen from the second
rebased : (m : ℕ) (p q : Progression) (o : ℕ) → IsNormalRun m p.base p.stride p.count → IsNormalRun m q.base q.stride q.count
    → o ≡ above m q.base p.base → ((q.base + o) % m ≡ p.base) × (o < m)
rebased m p q o n k is =
    let low = above_below m q.base p.base (let b = n.below in omega (arith, b)) in
    (ap (λ (w : ℕ). (q.base + w) % m) is ∙ above_back m q.base p.base k.below n.below, omega (arith, is, low))

pub runs_fit : (m : ℕ) (p q : Progression) (o : ℕ) → IsNormalRun m p.base p.stride p.count → IsNormalRun m q.base q.stride q.count
    → o ≡ above m q.base p.base → Includes m (Run q) (Run p) → Fitting m o p.stride p.count q.stride ((q.count - 1) * q.stride)
runs_fit m p q o n k is inside = let at = rebased m p q o n k is in
    fitting m q.base o p.stride p.count q.stride q.count k.below at.1 n.strides (let l = n.long in omega (arith, l)) n.once k.once
    (λ v run. steps_from m q.base q.stride q.count v (inside v (steps_has m p.base p.stride p.count v (subst (λ (b : ℕ). InRun m b p.stride p.count v) at.0 run))))

pub fit_includes : (m : ℕ) (p q : Progression) (o : ℕ) → IsNormalRun m p.base p.stride p.count → IsNormalRun m q.base q.stride q.count
    → o ≡ above m q.base p.base → Fitting m o p.stride p.count q.stride ((q.count - 1) * q.stride) → Includes m (Run q) (Run p)
fit_includes m p q o n k is fits v h = let at = rebased m p q o n k is in
    steps_has m q.base q.stride q.count v
    (included m q.base o p.stride p.count q.stride q.count v k.below at.1 n.strides k.strides (let l = k.long in omega (arith, l)) n.once fits
    (subst (λ (b : ℕ). InRun m b p.stride p.count v) (sym at.0) (steps_from m p.base p.stride p.count v h)))

-- ---- answers

pub never : (P : Type 0) → (P → ⊥) → IsTrue false ↔ P
never P refused = (λ t. absurd (false≢true t), λ p. absurd (refused p))

pub always : (P : Type 0) → P → IsTrue true ↔ P
always P p = (λ t. p, λ q. refl)

pub denied : (b : Bool) (P : Type 0) → IsTrue b ↔ P → b ≡ false → P → ⊥
denied b P h refused p = iff_false h refused p

-- the run doesn't go round
pub within_straight : (m : ℕ) (p q : Progression) (o last end : ℕ) → IsNormalRun m p.base p.stride p.count
    → IsNormalRun m q.base q.stride q.count
    → o ≡ above m q.base p.base → q.stride ∣ o → q.stride ∣ p.stride → last ≡ o + (p.count - 1) * p.stride
    → end ≡ (q.count - 1) * q.stride → last < m
    → IsTrue (leb last end) ↔ Includes m (Run q) (Run p)
within_straight m p q o last end n k is start strides last_is end_is low = (
  λ t. fit_includes m p q o n k is (start, strides, inl (omega (arith, last_is), omega (arith, last_is, end_is, leb-true last end t))),
  λ inside. le-leb last end (elim (runs_fit m p q o n k is inside).2 [
    | inl straight ↦ omega (arith, straight.1, last_is, end_is)
    | inr round ↦ absurd (omega (arith, round.0, last_is))
  ]),
)

-- it goes round
pub within_round : (m : ℕ) (p q : Progression) (o last turn end : ℕ) → IsNormalRun m p.base p.stride p.count
    → IsNormalRun m q.base q.stride q.count
    → o ≡ above m q.base p.base → q.stride ∣ o → q.stride ∣ p.stride → last ≡ o + (p.count - 1) * p.stride
    → end ≡ (q.count - 1) * q.stride → m ≤ last
    → q.stride ∣ m → turn ≡ o + (m - 1 - o) / p.stride * p.stride → IsTrue (leb turn end) ↔ Includes m (Run q) (Run p)
within_round m p q o last turn end n k is start strides last_is end_is high whole turn_is = (
  λ t. fit_includes m p q o n k is (start, strides, inr (omega (arith, last_is), whole, omega (arith, turn_is, end_is, leb-true turn end t))),
  λ inside. le-leb turn end (elim (runs_fit m p q o n k is inside).2 [
    | inl straight ↦ absurd (omega (arith, straight.0, last_is))
    | inr round ↦ omega (arith, round.2, turn_is, end_is)
  ]),
)

pub within_no_turn : (m : ℕ) (p q : Progression) (o last : ℕ) → IsNormalRun m p.base p.stride p.count
    → IsNormalRun m q.base q.stride q.count
    → o ≡ above m q.base p.base → last ≡ o + (p.count - 1) * p.stride → m ≤ last → (q.stride ∣ m → ⊥) → Includes m (Run q) (Run p) → ⊥
within_no_turn m p q o last n k is last_is high refused inside = elim (runs_fit m p q o n k is inside).2 [
  | inl straight ↦ absurd (omega (arith, straight.0, last_is))
  | inr round ↦ refused round.1
]

-- ---- one member after another

pub each_more : (m i : ℕ) (smaller larger : Form) (v : ℕ) → ((k : ℕ) → k < i → Has m larger (slice_index (members m smaller) k))
    → v ≡ slice_index (members m smaller) i → Has m larger v → (k : ℕ) → k < i + 1 → Has m larger (slice_index (members m smaller) k)
each_more m i smaller larger v before is here = below_more (λ (k : ℕ). Has m larger (slice_index (members m smaller) k)) i before (subst (λ (w : ℕ). Has m larger w) is here)

pub each_all : (m i : ℕ) (smaller larger : Form) → length (members m smaller) ≤ i
    → ((k : ℕ) → k < i → Has m larger (slice_index (members m smaller) k))
    → Includes m larger smaller
each_all m i smaller larger whole every v (k, short, is) =
    subst (λ (w : ℕ). Has m larger w) (sym (get_or_default_zero (members m smaller) k v short) ∙ is) (every k (omega arith))

pub each_fails : (m i v : ℕ) (smaller larger : Form) → i < length (members m smaller)
    → v ≡ slice_index (members m smaller) i → (Has m larger v → ⊥)
    → Includes m larger smaller → ⊥
each_fails m i v smaller larger short is refused inside = refused (inside v (i, short, get_or_default_zero (members m smaller) i v short ∙ sym is))

pub nth_below : (m i v : ℕ) (set : Form) → IsNormal m set → i < length (members m set) → v ≡ slice_index (members m set) i → v < m
nth_below m i v set n short is = member_below m v set n (i, short, get_or_default_zero (members m set) i v short ∙ sym is)

pub listed_nth : (m i : ℕ) (set : Form) (xs ys : List ℕ) → set ≡ Values xs → ys ≡ xs → slice_index ys i ≡ slice_index (members m set) i
listed_nth m i set xs ys is same = rw (is, same) refl
