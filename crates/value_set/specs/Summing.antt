-- The sets of the results of an operation on the members of sets, and of sums and differences modulo m.
use Rattle.std.specs.Prelude.{ℕ, ◌+◌, ◌-◌, ◌*◌, ◌/◌, ◌%◌, nat_lt, nat_le, if◌then◌else◌, List, [], ◌∷◌, length, map}
use Rattle.std.specs.List.{flat_map}
use Rattle.value_set.specs.Gcd.{gcd}
use Rattle.value_set.specs.Form.{make, members, gather, span, class}
use Rattle.value_set.specs.Joining.{reach}
use Rattle.value_set.specs.declared.form.Progression.{Progression}
use Rattle.value_set.specs.declared.form.Form.{Form}
use Rattle.value_set.specs.declared.form.Form.TheVariants.{Values, Run}
use Rattle.value_set.specs.declared.summing.Sign.{Sign}
use Rattle.value_set.specs.declared.summing.Sign.TheVariants.{Plus, Minus}

-- the set of one number
abbrev pub single : ℕ → Form
single v = Values (v ∷ [])

-- the set of all numbers below m, where these are at least 17
abbrev pub whole : ℕ → Form
whole m = Run (record { base = 0; stride = 1; count = m })

-- the results of an operation on each x with each y and each carry
abbrev pub results : (ℕ → ℕ → ℕ → ℕ) → (xs ys zs : List ℕ) → List ℕ
results answer xs ys zs = flat_map (λ x. flat_map (λ y. map (λ z. answer x y z) zs) ys) xs

-- the set of all results
unfoldable pub combine : (m : ℕ) → (ℕ → ℕ → ℕ → ℕ) → (first second carry : Form) → Form
combine m answer first second carry = gather m (results answer (members m first) (members m second) (members m carry))

abbrev pub count_of : ℕ → Form → ℕ
count_of m set = length (members m set)

abbrev pub sum_answer : ℕ → ℕ → ℕ → ℕ → ℕ
sum_answer m x y carry = (x + y) % m

abbrev pub difference_answer : ℕ → ℕ → ℕ → ℕ → ℕ
difference_answer m x y carry = (x + m - y) % m

-- the sums of two runs: one run where it doesn't go round, else all with its remainder
unfoldable pub add_spans : (m : ℕ) (first second : Progression) → Form
add_spans m first second =
    if nat_lt (reach first + reach second) m
    then make m (first.base + second.base) (gcd first.stride second.stride) ((reach first + reach second) / gcd first.stride second.stride + 1)
    else class m (first.base + second.base) (gcd first.stride second.stride)

-- the run that goes down from 0 where the run goes up: it begins at its last number, taken from m
unfoldable pub negated : ℕ → Progression → Progression
negated m p = record { base = (m - (p.base + reach p) % m) % m; stride = p.stride; count = p.count }

unfoldable pub add : ℕ → Form → Form → Form
add m first second =
    if nat_le (count_of m first * count_of m second) 256 then combine m (sum_answer m) first second (single 0)
    else add_spans m (span m first) (span m second)

unfoldable pub sub : ℕ → Form → Form → Form
sub m first second =
    if nat_le (count_of m first * count_of m second) 256 then combine m (difference_answer m) first second (single 0)
    else add_spans m (span m first) (negated m (span m second))

-- the sums, or the differences
abbrev pub signed : ℕ → Sign → Form → Form → Form
signed m Plus first second = add m first second
signed m Minus first second = sub m first second

abbrev pub signed_answer : ℕ → Sign → ℕ → ℕ → ℕ → ℕ
signed_answer m Plus = sum_answer m
signed_answer m Minus = difference_answer m

-- the run that a set adds
abbrev pub signed_span : ℕ → Sign → Form → Progression
signed_span m Plus set = span m set
signed_span m Minus set = negated m (span m set)

-- the sums of each member with itself
unfoldable pub twice : ℕ → Form → Form
twice m (Values xs) = gather m (map (λ v. (v + v) % m) xs)
twice m (Run p) =
    if nat_lt (2 * reach p) m then make m (2 * p.base) (2 * p.stride) p.count
    else class m (2 * p.base) (2 * p.stride)
