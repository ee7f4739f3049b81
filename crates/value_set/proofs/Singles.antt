-- Of one number with one number there is one result.
use Rattle.std.proofs.Common.{◌≡◌, ℕ, ◌+◌, ◌-◌, ◌%◌, [], ◌∷◌, refl, sym, ◌∙◌, arith}
use Rattle.value_set.specs.declared.form.Form.{Form}
use Rattle.value_set.specs.Form.{put, gather}
use Rattle.value_set.specs.Summing.{single, combine, sum_answer, difference_answer, add, sub, twice}
use Rattle.value_set.proofs.Spans.{set_of-few}
use Rattle.value_set.proofs.Sums.{add-few, sub-few, twice-list}

pub gather_one : (m v : ℕ) → gather m (v ∷ []) ≡ single v
unfolding put
gather_one m v = set_of-few m (v ∷ []) (omega arith)

pub combine_one : (m : ℕ) (answer : ℕ → ℕ → ℕ → ℕ) (a b c : Form) (x y z : ℕ) → a ≡ single x → b ≡ single y
    → c ≡ single z → combine m answer a b c ≡ single (answer x y z)
unfolding combine
combine_one m answer a b c x y z h k l = rw (h, k, l) (gather_one m (answer x y z))

pub add_one : (m : ℕ) (a b : Form) (x y : ℕ) → a ≡ single x → b ≡ single y → add m a b ≡ single ((x + y) % m)
add_one m a b x y h k = rw (h, k) (add-few m (single x) (single y) (omega arith) ∙ combine_one m (sum_answer m) (single x) (single y) (single 0) x y 0 refl refl refl)

pub sub_one : (m : ℕ) (a b : Form) (x y : ℕ) → a ≡ single x → b ≡ single y → sub m a b ≡ single ((x + m - y) % m)
sub_one m a b x y h k = rw (h, k) (sub-few m (single x) (single y) (omega arith) ∙ combine_one m (difference_answer m) (single x) (single y) (single 0) x y 0 refl refl refl)

pub twice_one : (m : ℕ) (a : Form) (x : ℕ) → a ≡ single x → twice m a ≡ single ((x + x) % m)
twice_one m a x h = rw h (twice-list m (x ∷ []) ∙ gather_one m ((x + x) % m))

pub one_result : (m : ℕ) (answer : ℕ → ℕ → ℕ → ℕ) (a b c result : Form) (x y z value : ℕ) → result ≡ single value → value ≡ answer x y z
    → a ≡ single x → b ≡ single y → c ≡ single z → result ≡ combine m answer a b c
one_result m answer a b c result x y z value is same h k l = rw is (rw same (sym (combine_one m answer a b c x y z h k l)))
