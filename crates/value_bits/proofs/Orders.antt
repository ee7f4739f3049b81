-- What the least and the greatest members of two sets tell of an order over all combinations.
use Rattle.std.proofs.Common.{◌≡◌, ℕ, ◌*◌, ◌<◌, ◌≤◌, Bool, true, false, nat_le, refl, sym, arith}
use Rattle.std.proofs.lemmas.Bool.{le-leb, lt-leb}
use Rattle.value_set.specs.declared.form.Form.{Form}
use Rattle.value_set.specs.Form.{Has, IsNormal}
use Rattle.value_set.specs.Summing.{count_of, single}
use Rattle.value_bits.specs.declared.tri.Tri.{Tri}
use Rattle.value_bits.specs.declared.tri.Tri.TheVariants.{Zero, One, Either}
use Rattle.value_bits.specs.Flags.{IsFlag, agreed}
use Rattle.value_bits.proofs.Choosing.{single_has}
use Rattle.value_bits.proofs.Combinations.{positive, agreed_clear, agreed_is, agreed_set}

either_of : (t : Tri) (f g : Bool) → IsFlag t f → IsFlag t g → f ≡ true → g ≡ false → t ≡ Either
either_of Zero f g h k is other = absurd (cc (h, is))
either_of One f g h k is other = absurd (cc (k, other))
either_of Either f g h k is other = refl

pub agreed_mixed : (m : ℕ) (flag : ℕ → ℕ → ℕ → Bool) (a b c : Form) (x y z x' y' z' : ℕ) → Has m a x → Has m b y
    → Has m c z → Has m a x' → Has m b y' → Has m c z'
    → flag x y z ≡ true → flag x' y' z' ≡ false → agreed m flag a b c ≡ Either
agreed_mixed m flag a b c x y z x' y' z' i j k i' j' k' is other =
    either_of (agreed m flag a b c) (flag x y z) (flag x' y' z') (agreed_is m flag a b c x y z i j k) (agreed_is m flag a b c x' y' z' i' j' k') is other

abbrev pub is_at_least : ℕ → ℕ → ℕ → Bool
is_at_least x y z = nat_le y x

pub zero_normal : (m : ℕ) (a : Form) → IsNormal m a → IsNormal m (single 0)
zero_normal m a n = let pos = positive m a n in (omega arith, omega arith, (omega arith, pos, tt))

pub few_too : (n k : ℕ) → n * k ≤ 256 → n * (k * 1) ≤ 256
few_too n k h = omega (arith, h)

pub order_set : (m : ℕ) (a b : Form) (low high : ℕ) → count_of m a * count_of m b ≤ 256
    → ((v : ℕ) → Has m a v → low ≤ v) → ((v : ℕ) → Has m b v → v ≤ high) → high ≤ low → One ≡ agreed m is_at_least a b (single 0)
order_set m a b low high few from to over = sym (agreed_set m is_at_least a b (single 0) (few_too (count_of m a) (count_of m b) few)
    (λ x y z h k j. le-leb y x (omega (arith, from x h, to y k, over))))

pub order_clear : (m : ℕ) (a b : Form) (high low : ℕ) → IsNormal m a → IsNormal m b → count_of m a * count_of m b ≤ 256
    → ((v : ℕ) → Has m a v → v ≤ high) → ((v : ℕ) → Has m b v → low ≤ v) → high < low → Zero ≡ agreed m is_at_least a b (single 0)
order_clear m a b high low n k few to from under =
    sym (agreed_clear m is_at_least a b (single 0) n k (zero_normal m a n) (few_too (count_of m a) (count_of m b) few)
    (λ x y z h i j. lt-leb y x (omega (arith, to x h, from y i, under))))

pub order_open : (m : ℕ) (a b : Form) (low high low' high' : ℕ) → Has m a low → Has m a high → Has m b low' → Has m b high'
    → low < high' → low' ≤ high → Either ≡ agreed m is_at_least a b (single 0)
order_open m a b low high low' high' h i h' i' some other = sym (agreed_mixed m is_at_least a b (single 0) high low' 0 low high' 0
    i h' (single_has m 0) h i' (single_has m 0) (le-leb low' high other) (lt-leb high' low some))
