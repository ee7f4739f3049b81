-- What is promised of the calls, over what they answer.
use Rattle.std.proofs.Common.{◌≡◌, ℕ, ◌+◌, ◌-◌, ◌*◌, ◌%◌, ◌<◌, ◌≤◌, true, false, List, [], ◌∷◌, length, map, refl, sym, ◌∙◌, ap, subst, inl, inr, arith, get_or, Some, None, Option}
use Prim.Native.Nat.{zero, suc}
use Rattle.std.specs.Prelude.{◌↔◌}
use Rattle.std.specs.List.{Contains, All}
use Rattle.std.proofs.lemmas.Bool.{cases_lt, true≢false}
use Rattle.std.proofs.lemmas.List.{length-map}
use Rattle.std.proofs.Math.Nat.{mul-le-mul_left}
use Rattle.value_set.specs.declared.form.Form.{Form}
use Rattle.value_set.specs.declared.form.Form.TheVariants.{Values, Run}
use Rattle.value_set.specs.Form.{make, steps, members, Has, gather, Ascends, IsNormal, Fits, above}
use Rattle.value_set.specs.Cutting.{IfThere, cut}
use Rattle.value_set.specs.ListFacts.{IsIn}
use Rattle.value_set.specs.StepFacts.{steps_from, length-steps}
use Rattle.value_set.proofs.Members.{steps_has}
use Rattle.value_set.proofs.Rounds.{mod_low}
use Rattle.value_set.proofs.Making.{in_make, make_has}
use Rattle.value_set.proofs.Spans.{gather_normal, gather_has}
use Rattle.value_set.proofs.Widens.{AllBelow_from}
use Rattle.value_set.proofs.Collects.{all_below_in}
use Rattle.value_set.proofs.Cuts.{cut_has, cut_normal, cut_none, none_cut}

pub whole_fits : (m : ℕ) → 0 < m → Fits m 1 m
whole_fits m pos = record { positive = pos; some = omega arith; once = omega arith; strides = λ _. omega arith }

pub any_has : (m v : ℕ) (set : Form) → set ≡ make m 0 1 m → 0 < m → v < m → Has m set v
any_has m v set is pos low = subst (λ (s : Form). Has m s v) (sym is) (make_has m 0 1 m v (whole_fits m pos) (v, low, (let e : v ≡ 0 + v * 1 = omega arith in sym (mod_low v m low) ∙ ap (λ (n : ℕ). n % m) e)))

pub run_exact : (m base stride count v : ℕ) (set : Form) → set ≡ make m base stride count → Fits m stride count
    → Has m set v ↔ Contains (steps m base stride count) v
run_exact m base stride count v set is fits = (
  λ h. steps_has m base stride count v (in_make m base stride count v fits (subst (λ (s : Form). Has m s v) is h)),
  λ h. subst (λ (s : Form). Has m s v) (sym is) (make_has m base stride count v fits (steps_from m base stride count v h)),
)

in_map : {X : Type 0} (f : X → ℕ) (xs : List X) (k : ℕ) (d : X) → k < length xs → IsIn (f (get_or xs k d)) (map f xs)
in_map f [] k d h = absurd (omega arith)
in_map f (x ∷ xs) zero d h = inl refl
in_map f (x ∷ xs) (suc k) d h = inr (in_map f xs k d (omega arith))

pub gathered_normal : {X : Type 0} (f : X → ℕ) (m : ℕ) (xs : List X) (set : Form) → set ≡ gather m (map f xs)
    → All (λ n. f n < m) xs → 1 ≤ length xs → IsNormal m set
gathered_normal f m xs set is below some = subst (λ (s : Form). IsNormal m s) (sym is)
    (gather_normal m (map f xs) (omega (arith, length-map xs f, some)) (λ v i. all_below_in m v (map f xs) (AllBelow_from f m xs below) i))

pub gathered_holds : {X : Type 0} (f : X → ℕ) (m : ℕ) (xs : List X) (set : Form) → set ≡ gather m (map f xs)
    → All (λ n. f n < m) xs → 1 ≤ length xs → All (λ n. Has m set (f n)) xs
gathered_holds f m xs set is below some k d h = subst (λ (s : Form). Has m s (f (get_or xs k d))) (sym is)
    (gather_has m (f (get_or xs k d)) (map f xs) (omega (arith, length-map xs f, some)) (λ v i. all_below_in m v (map f xs) (AllBelow_from f m xs below) i) (in_map f xs k d h))

ascending_room : (low m : ℕ) (xs : List ℕ) → Ascends low m xs → low ≤ m → length xs + low ≤ m
ascending_room low m [] a h = omega arith
ascending_room low m (x ∷ xs) a h = let rest = ascending_room (x + 1) m xs a.2 (omega (arith, a.1)) in omega (arith, rest, a.0)

pub not_more_than_all : (m : ℕ) (set : Form) → IsNormal m set → length (members m set) ≤ m
not_more_than_all m (Values xs) n = (let room = ascending_room 0 m xs n.2 (omega arith) in omega (arith, room))
not_more_than_all m (Run p) n = let strides = n.strides in let once = n.once in let long = n.long in
    let step = mul-le-mul_left {m = 1} {n = p.stride} (p.count - 1) strides in omega (arith, length-steps m p.base p.stride p.count, step, once, long)

-- ---- cuts

pub cut_some_normal : (m : ℕ) (set part : Form) (low len : ℕ) → IsNormal m set → low < m → Some part ≡ cut m set low len → IsNormal m part
cut_some_normal m set part low len n h is = subst (λ (found : Option Form). IfThere (λ s. IsNormal m s) found) (sym is) (cut_normal m set low len n h)

pub cut_some_holds : (m : ℕ) (set part : Form) (low len v : ℕ) → IsNormal m set → low < m
    → Some part ≡ cut m set low len → Has m set v → above m low v < len → Has m part v
cut_some_holds m set part low len v n h is has inside =
    let found = cut_has m set low len v n h has inside in
    let e : Some found.0 ≡ Some part = sym found.1 ∙ sym is in
    let f : found.0 ≡ part = cc e in
    subst (λ (s : Form). Has m s v) f found.2

pub cut_is_none : (m : ℕ) (set : Form) (low len v : ℕ) → IsNormal m set → low < m → None ≡ cut m set low len
    → Has m set v → len ≤ above m low v
cut_is_none m set low len v n h is has = elim (cases_lt (above m low v) len) [
  | inl inside ↦ absurd (cut_none m set low len v n h (sym is) has inside)
  | inr outside ↦ outside
]

pub cut_is_empty : (m : ℕ) (set : Form) (low len : ℕ) → IsNormal m set → low < m
    → ((v : ℕ) → Has m set v → len ≤ above m low v) → cut m set low len ≡ None
cut_is_empty m set low len n h nobody = none_cut m set low len n h (λ v has inside. let out = nobody v has in omega (arith, out, inside))

pub cut_not_none : (m : ℕ) (set part : Form) (low len : ℕ) → IsNormal m set → low < m → Some part ≡ cut m set low len
    → ((v : ℕ) → Has m set v → len ≤ above m low v) → ⊥
cut_not_none m set part low len n h is nobody =
    let none = cut_is_empty m set low len n h nobody in cc (is, none)

pub not_false : (n : ℕ) → (true ≡ false) ↔ (n ≡ 0) → 1 ≤ n
not_false n h = elim (cases_lt 0 n) [ inl some ↦ some | inr none ↦ absurd (true≢false (h.1 (omega arith))) ]
