-- Operations whose results stay below the modulus.
use Rattle.std.specs.Prelude.{ℕ, ◌+◌, ◌-◌, ◌%◌, ◌<◌}
use Rattle.std.proofs.Common.{arith}
use Rattle.std.proofs.Math.Nat.{mod-lt}
use Rattle.value_set.specs.declared.form.Form.{Form}
use Rattle.value_set.specs.Form.{Has}
use Rattle.value_set.specs.Summing.{signed_answer}
use Rattle.value_set.specs.declared.summing.Sign.{Sign}
use Rattle.value_set.specs.declared.summing.Sign.TheVariants.{Plus, Minus}

-- each result of numbers below m is below m
abbrev pub StaysBelow : ℕ → (ℕ → ℕ → ℕ → ℕ) → Type 0
StaysBelow m answer = (x y z : ℕ) → x < m → y < m → z < m → answer x y z < m

-- each result of members of three sets is below m
abbrev pub HasResultsBelow : (m : ℕ) → (ℕ → ℕ → ℕ → ℕ) → (a b c : Form) → Type 0
HasResultsBelow m answer a b c = (x y z : ℕ) → Has m a x → Has m b y → Has m c z → answer x y z < m

pub sum_stays : (m : ℕ) → StaysBelow m (λ x y z. (x + y) % m)
sum_stays m x y z h k l = mod-lt (x + y) {m = m} (omega arith)

pub difference_stays : (m : ℕ) → StaysBelow m (λ x y z. (x + m - y) % m)
difference_stays m x y z h k l = mod-lt (x + m - y) {m = m} (omega arith)

pub signed_stays : (m : ℕ) (sign : Sign) → StaysBelow m (signed_answer m sign)
signed_stays m Plus = sum_stays m
signed_stays m Minus = difference_stays m

pub remainder_stays : (m : ℕ) → (number : ℕ → ℕ → ℕ → ℕ) → StaysBelow m (λ x y z. number x y z % m)
remainder_stays m number x y z h k l = mod-lt (number x y z) {m = m} (omega arith)
