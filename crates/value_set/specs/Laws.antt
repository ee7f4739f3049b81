-- What sets hold, for every modulus. A proof over sets takes these laws from one record.
use Rattle.std.specs.Prelude.{◌≡◌, true, ℕ, ◌+◌, ◌-◌, ◌*◌, ◌/◌, ◌%◌, ◌<◌, ◌≤◌, ◌==◌, ◌↔◌, Bool, IsTrue, All, List, [], ◌∷◌, length, get_or, Some, None}
use Rattle.std.specs.List.{Contains, list_any}
use Rattle.value_set.specs.declared.form.Form.{Form}
use Rattle.value_set.specs.declared.form.Form.TheVariants.{Values}
use Rattle.value_set.specs.Cutting.{cut}
use Rattle.value_set.specs.Ends as ends
use Rattle.value_set.specs.Form.{Fits, Has, Includes, IsNormal, above, gather, make, members, put, steps}
use Rattle.value_set.specs.Joining.{is_in, is_within, join}
use Rattle.value_set.specs.Operations.{HasResultsBelow}
use Rattle.value_set.specs.Remainders.{HasRemainder}
use Rattle.value_set.specs.Summing as sums
use Rattle.value_set.specs.Widening.{widen}

-- each member of a set is below n
abbrev pub IsBelow : (m n : ℕ) → Form → Type 0
IsBelow m n set = (v : ℕ) → Has m set v → v < n

-- each number of a list is below n
abbrev pub AreBelow : ℕ → List ℕ → Type 0
AreBelow n xs = (v : ℕ) → Contains xs v → v < n

abbrev pub AreMarks : ℕ → List ℕ → Type 0
AreMarks m marks = All (λ mark. mark < m) marks

pub record SetLaws : Type 0 where
  -- members
  pub below : (m v : ℕ) (set : Form) → IsNormal m set → Has m set v → v < m
  pub some : (m : ℕ) (set : Form) → IsNormal m set → 1 ≤ length (members m set)
  pub same : (m : ℕ) (a b : Form) → IsNormal m a → IsNormal m b → Includes m b a → Includes m a b → a ≡ b
  pub tested : (m : ℕ) (smaller larger : Form) → (is_within m smaller larger ≡ true) ↔ Includes m larger smaller
  pub member : (m v : ℕ) (set : Form) → Has m set v → is_in m set v ≡ true
  pub asked : (xs : List ℕ) (v : ℕ) (answer : Bool) → IsTrue answer ↔ Contains xs v → answer ≡ list_any (λ x. x == v) xs
  pub listed : (m k d : ℕ) (xs : List ℕ) → IsNormal m (Values xs) → k < length xs → get_or xs k d < m
  -- the least and the greatest member
  pub least_has : (m : ℕ) (set : Form) → IsNormal m set → Has m set (ends.least m set)
  pub least : (m v : ℕ) (set : Form) → IsNormal m set → Has m set v → ends.least m set ≤ v
  pub greatest_has : (m : ℕ) (set : Form) → IsNormal m set → Has m set (ends.greatest m set)
  pub greatest : (m v : ℕ) (set : Form) → IsNormal m set → Has m set v → v ≤ ends.greatest m set
  -- one number, and all numbers
  pub single : (m v : ℕ) → v < m → IsNormal m (sums.single v) × Has m (sums.single v) v
  pub only : (m n v : ℕ) → Has m (sums.single n) v → n ≡ v
  pub single_rest : (m n r v : ℕ) → v % n ≡ r → HasRemainder m n r (sums.single v)
  pub whole : (m v : ℕ) → v < m → Has m (make m 0 1 m) v
  pub whole_normal : (m : ℕ) → 0 < m → IsNormal m (make m 0 1 m)
  -- runs
  pub run_normal : (m base stride count : ℕ) → Fits m stride count → IsNormal m (make m base stride count)
  pub run_exact : (m base stride count v : ℕ) → Fits m stride count
      → Has m (make m base stride count) v ↔ Contains (steps m base stride count) v
  pub run_up_to : (m stride end : ℕ) → end < m → Fits m stride (end / stride + 1)
  pub run_remainder : (m n base stride count : ℕ) → m % n ≡ 0 → stride % n ≡ 0 → HasRemainder m n (base % n) (make m base stride count)
  pub run_below : (n m base stride count : ℕ) → base + (count - 1) * stride < n → n ≤ m → IsBelow m n (make m base stride count)
  -- the numbers of a run by their places
  pub steps_long : (m base stride count : ℕ) → length (steps m base stride count) ≡ count
  pub steps_have : (m base stride count i : ℕ) → i < count → Contains (steps m base stride count) ((base + i * stride) % m)
  pub steps_from : (m base stride count v : ℕ) → Contains (steps m base stride count) v
      → (i : ℕ) × (i < count) × (v ≡ (base + i * stride) % m)
  -- numbers that are gathered
  pub gather_normal : (m : ℕ) (xs : List ℕ) → 1 ≤ length xs → AreBelow m xs → IsNormal m (gather m xs)
  pub gather_holds : (m v : ℕ) (xs : List ℕ) → AreBelow m xs → Contains xs v → Has m (gather m xs) v
  pub gather_remainder : (m n r : ℕ) (xs : List ℕ) → m % n ≡ 0 → 1 ≤ length xs
      → AreBelow m xs → ((v : ℕ) → Contains xs v → v % n ≡ r) → HasRemainder m n r (gather m xs)
  pub gather_below : (n m : ℕ) (xs : List ℕ) → n + n ≤ m → AreBelow n xs → IsBelow m n (gather m xs)
  pub gather_same : (m : ℕ) (xs : List ℕ) → IsNormal m (Values xs) → gather m xs ≡ Values xs
  pub gather_two : (m low high : ℕ) → low < high → gather m (low ∷ high ∷ []) ≡ Values (low ∷ high ∷ [])
  pub put_below : (n v : ℕ) (xs : List ℕ) → v < n → AreBelow n xs → AreBelow n (put v xs)
  -- all results of an operation
  pub results_normal : (m : ℕ) (answer : ℕ → ℕ → ℕ → ℕ) (a b c : Form)
      → 1 ≤ length (members m a) → 1 ≤ length (members m b) → 1 ≤ length (members m c)
      → HasResultsBelow m answer a b c → IsNormal m (sums.combine m answer a b c)
  pub results_hold : (m x y z : ℕ) (answer : ℕ → ℕ → ℕ → ℕ) (a b c : Form)
      → HasResultsBelow m answer a b c → Has m a x → Has m b y → Has m c z → Has m (sums.combine m answer a b c) (answer x y z)
  pub results_remainder : (m n r : ℕ) (answer : ℕ → ℕ → ℕ → ℕ) (a b c : Form) → m % n ≡ 0
      → 1 ≤ length (members m a) → 1 ≤ length (members m b) → 1 ≤ length (members m c) → HasResultsBelow m answer a b c
      → ((x y z : ℕ) → Has m a x → Has m b y → Has m c z → answer x y z % n ≡ r) → HasRemainder m n r (sums.combine m answer a b c)
  -- joins
  pub join_normal : (m : ℕ) (a b : Form) → IsNormal m a → IsNormal m b → IsNormal m (join m a b)
  pub join_first : (m : ℕ) (a b : Form) → IsNormal m a → IsNormal m b → Includes m (join m a b) a
  pub join_second : (m : ℕ) (a b : Form) → IsNormal m a → IsNormal m b → Includes m (join m a b) b
  pub join_below : (n m : ℕ) (a b : Form) → n + n ≤ m → IsNormal m a → IsNormal m b → IsBelow m n a → IsBelow m n b
      → IsBelow m n (join m a b)
  pub join_rest : (m n r : ℕ) (a b : Form) → m % n ≡ 0 → IsNormal m a → IsNormal m b
      → HasRemainder m n r a → HasRemainder m n r b → HasRemainder m n r (join m a b)
  -- widened sets
  pub widen_normal : (m : ℕ) (held new : Form) (marks : List ℕ) → IsNormal m held → IsNormal m new → AreMarks m marks
      → IsNormal m (widen m held new marks)
  pub widen_held : (m : ℕ) (held new : Form) (marks : List ℕ) → IsNormal m held → IsNormal m new → AreMarks m marks
      → Includes m (widen m held new marks) held
  pub widen_new : (m : ℕ) (held new : Form) (marks : List ℕ) → IsNormal m held → IsNormal m new → AreMarks m marks
      → Includes m (widen m held new marks) new
  pub widen_rest : (m n r : ℕ) (held new : Form) (marks : List ℕ) → m % n ≡ 0 → IsNormal m held → IsNormal m new
      → HasRemainder m n r held → HasRemainder m n r new → HasRemainder m n r (widen m held new marks)
  -- sums and differences
  pub add_normal : (m : ℕ) (a b : Form) → IsNormal m a → IsNormal m b → IsNormal m (sums.add m a b)
  pub add : (m x y : ℕ) (a b : Form) → IsNormal m a → IsNormal m b → Has m a x → Has m b y → Has m (sums.add m a b) ((x + y) % m)
  pub add_rest : (m n r s : ℕ) (a b : Form) → m % n ≡ 0 → IsNormal m a → IsNormal m b
      → HasRemainder m n r a → HasRemainder m n s b → HasRemainder m n ((r + s) % n) (sums.add m a b)
  pub sub_normal : (m : ℕ) (a b : Form) → IsNormal m a → IsNormal m b → IsNormal m (sums.sub m a b)
  pub sub : (m x y : ℕ) (a b : Form) → IsNormal m a → IsNormal m b → Has m a x → Has m b y → Has m (sums.sub m a b) ((x + m - y) % m)
  pub sub_rest : (m n r s : ℕ) (a b : Form) → m % n ≡ 0 → IsNormal m a → IsNormal m b
      → HasRemainder m n r a → HasRemainder m n s b → HasRemainder m n ((r + n - s) % n) (sums.sub m a b)
  pub twice_normal : (m : ℕ) (a : Form) → IsNormal m a → IsNormal m (sums.twice m a)
  pub twice : (m x : ℕ) (a : Form) → IsNormal m a → Has m a x → Has m (sums.twice m a) ((x + x) % m)
  pub twice_rest : (m n r : ℕ) (a : Form) → m % n ≡ 0 → IsNormal m a → HasRemainder m n r a
      → HasRemainder m n ((r + r) % n) (sums.twice m a)
  pub twice_even : (m : ℕ) (a : Form) → m % 2 ≡ 0 → IsNormal m a → HasRemainder m 2 0 (sums.twice m a)
  -- cuts
  pub cut_normal : (m low len : ℕ) (a part : Form) → IsNormal m a → low < m → cut m a low len ≡ Some part → IsNormal m part
  pub cut_holds : (m low len v : ℕ) (a part : Form) → IsNormal m a → low < m → cut m a low len ≡ Some part → Has m a v
      → above m low v < len → Has m part v
  pub cut_none : (m low len v : ℕ) (a : Form) → IsNormal m a → low < m → cut m a low len ≡ None → Has m a v → len ≤ above m low v
  pub cut_empty : (m low len : ℕ) (a : Form) → IsNormal m a → low < m → ((v : ℕ) → Has m a v → len ≤ above m low v) → cut m a low len ≡ None
  pub cut_rest : (m n r low len : ℕ) (a part : Form) → m % n ≡ 0 → IsNormal m a → low < m → cut m a low len ≡ Some part
      → HasRemainder m n r a → HasRemainder m n r part
