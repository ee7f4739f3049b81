-- What the laws say of made and gathered sets, and of all results of an operation.
use Rattle.std.proofs.Common.{ℕ, ◌<◌, ◌≤◌, List, length, subst}
use Rattle.std.specs.Prelude.{◌↔◌}
use Rattle.std.specs.List.{Contains}
use Rattle.value_set.specs.declared.form.Form.{Form}
use Rattle.value_set.specs.Form.{make, steps, members, Has, IsNormal, Fits, gather}
use Rattle.value_set.specs.Summing.{results, combine}
use Rattle.value_set.specs.Operations.{HasResultsBelow}
use Rattle.value_set.specs.ListFacts.{IsIn, in_from_Contains, Contains_from_in}
use Rattle.value_set.specs.StepFacts.{steps_from}
use Rattle.value_set.proofs.Members.{steps_has}
use Rattle.value_set.proofs.Making.{in_make, make_has}
use Rattle.value_set.proofs.Spans.{gather_normal, gather_has}
use Rattle.value_set.proofs.Sums.{results_have, results_some, results_are, some_from_in}

pub make_exact : (m base stride count v : ℕ) → Fits m stride count
    → Has m (make m base stride count) v ↔ Contains (steps m base stride count) v
make_exact m base stride count v fits = (
  λ h. steps_has m base stride count v (in_make m base stride count v fits h),
  λ h. make_has m base stride count v fits (steps_from m base stride count v h),
)

pub gathers_normal : (m : ℕ) (xs : List ℕ) → 1 ≤ length xs → ((v : ℕ) → Contains xs v → v < m) → IsNormal m (gather m xs)
gathers_normal m xs some below = gather_normal m xs some (λ v i. below v (Contains_from_in xs v i))

pub gathers_have : (m v : ℕ) (xs : List ℕ) → ((v : ℕ) → Contains xs v → v < m) → Contains xs v → Has m (gather m xs) v
gathers_have m v xs below there = let i = in_from_Contains xs v there in gather_has m v xs (some_from_in v xs i) (λ v i. below v (Contains_from_in xs v i)) i

each_below : (m : ℕ) (answer : ℕ → ℕ → ℕ → ℕ) (a b c : Form) → HasResultsBelow m answer a b c → (v : ℕ)
    → IsIn v (results answer (members m a) (members m b) (members m c)) → v < m
each_below m answer a b c below v i =
    let xs = members m a in let ys = members m b in let zs = members m c in
    let found = results_are answer v xs ys zs i in
    subst (λ (w : ℕ). w < m) found.6 (below found.0 found.1 found.2 (Contains_from_in xs found.0 found.3) (Contains_from_in ys found.1 found.4) (Contains_from_in zs found.2 found.5))

pub combines_normal : (m : ℕ) (answer : ℕ → ℕ → ℕ → ℕ) (a b c : Form) → 1 ≤ length (members m a)
    → 1 ≤ length (members m b) → 1 ≤ length (members m c)
    → HasResultsBelow m answer a b c → IsNormal m (combine m answer a b c)
unfolding combine
combines_normal m answer a b c some_a some_b some_c below =
    gather_normal m (results answer (members m a) (members m b) (members m c)) (results_some answer (members m a) (members m b) (members m c) some_a some_b some_c)
    (each_below m answer a b c below)

pub combines_have : (m x y z : ℕ) (answer : ℕ → ℕ → ℕ → ℕ) (a b c : Form) → HasResultsBelow m answer a b c → Has m a x
    → Has m b y → Has m c z
    → Has m (combine m answer a b c) (answer x y z)
unfolding combine
combines_have m x y z answer a b c below h i j =
    let xs = members m a in let ys = members m b in let zs = members m c in
    let there = results_have answer x y z xs ys zs (in_from_Contains xs x h) (in_from_Contains ys y i) (in_from_Contains zs z j) in
    gather_has m (answer x y z) (results answer xs ys zs) (some_from_in _ _ there) (each_below m answer a b c below) there
