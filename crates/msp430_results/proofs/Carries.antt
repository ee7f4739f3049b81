-- Results of two sets and a carry.
use Rattle.std.proofs.Common.{◌≡◌, ℕ, ◌+◌, ◌-◌, ◌%◌, ◌<◌, [], ◌∷◌, refl, sym, ap, ◌∙◌, subst, inl, inr, arith}
use Rattle.std.proofs.Math.Nat.{add-mod-mod, add-mod_right, mod-lt, mod-eq_of_lt}
use Rattle.std.proofs.lemmas.Bool.{cond_both, cases_eq}
use Rattle.value_set.specs.declared.form.Form.{Form}
use Rattle.value_set.specs.declared.form.Form.TheVariants.{Values}
use Rattle.value_set.specs.Form.{Has, IsNormal}
use Rattle.value_set.specs.Operations.{StaysBelow, HasResultsBelow}
use Rattle.value_set.specs.Summing.{add, combine, single, sub}
use Rattle.value_bits.specs.declared.tri.Tri.{Tri}
use Rattle.value_bits.specs.declared.tri.Tri.TheVariants.{Zero, One, Either}
use Rattle.value_bits.specs.Bits.{IsBit}
use Rattle.value_bits.specs.Sets.{chosen, combine_or}
use Rattle.irq_frames.specs.KnownLaws.{KnownLaws}
use Rattle.msp430_results.specs.FlagSets.{IsResult, is_few}
use Rattle.msp430_results.specs.Results.{carry_answer, borrow_answer, borrowed, add_carry, sub_carry}

pub combined : (laws : KnownLaws) (m : ℕ) (answer : ℕ → ℕ → ℕ → ℕ) (a b c otherwise : Form) (x y z : ℕ)
    → StaysBelow m answer → IsResult m a x → IsResult m b y → IsResult m c z
    → IsResult m otherwise (answer x y z) → IsResult m (combine_or m answer a b c otherwise) (answer x y z)
unfolding combine_or
combined laws m answer a b c otherwise x y z stays h k l rest =
    let below : HasResultsBelow m answer a b c = λ i j n p q r. stays i j n (laws.sets.below m i a h.normal p) (laws.sets.below m j b k.normal q) (laws.sets.below m n c l.normal r) in
    cond_both (is_few m a b c) (combine m answer a b c) otherwise (λ set. IsResult m set (answer x y z))
    (λ e. record {
      normal = laws.sets.results_normal m answer a b c (laws.sets.some m a h.normal) (laws.sets.some m b k.normal) (laws.sets.some m c l.normal) below;
      has = laws.sets.results_hold m x y z answer a b c below h.has k.has l.has;
    })
    (λ e. rest)

pub single_is : (laws : KnownLaws) (m v : ℕ) → v < m → IsResult m (single v) v
single_is laws m v small = let is = laws.sets.single m v small in record { normal = is.0; has = is.1 }

two_normal : (m x y : ℕ) → x < y → y < m → IsNormal m (Values (x ∷ y ∷ []))
two_normal m x y less small = (omega arith, omega arith, (omega arith, omega arith, (omega arith, small, tt)))

two_first : (m x y : ℕ) → Has m (Values (x ∷ y ∷ [])) x
two_first m x y = (0, omega arith, refl)

two_second : (m x y : ℕ) → Has m (Values (x ∷ y ∷ [])) y
two_second m x y = (1, omega arith, refl)

pub chosen_is : (laws : KnownLaws) (m z : ℕ) (carry : Tri) → 1 < m → IsBit carry z → IsResult m (chosen carry) z
chosen_is laws m z carry some bit =
    record { normal = laws.bits.chosen_normal m carry (omega (arith, some)); has = laws.bits.chosen_has m z carry bit }

-- the carry less one, modulo m
borrowed_is : (laws : KnownLaws) (m z : ℕ) (carry : Tri) → 2 < m → IsBit carry z → IsResult m (borrowed m carry) ((z + (m - 1)) % m)
borrowed_is laws m z Zero some bit =
    let is : (z + (m - 1)) % m ≡ m - 1 = ap (λ n. (n + (m - 1)) % m) bit ∙ mod-eq_of_lt {n = 0 + (m - 1)} {m = m} (omega arith) ∙ omega arith in
    subst (IsResult m (single (m - 1))) (sym is) (single_is laws m (m - 1) (omega arith))
borrowed_is laws m z One some bit =
    let whole : 1 + (m - 1) ≡ 0 + m = omega arith in
    let is : (z + (m - 1)) % m ≡ 0 = ap (λ n. (n + (m - 1)) % m) bit ∙ ap (λ n. n % m) whole ∙ add-mod_right 0 m ∙ mod-eq_of_lt {n = 0} {m = m} (omega arith) in
    subst (IsResult m (single 0)) (sym is) (single_is laws m 0 (omega arith))
borrowed_is laws m z Either some bit = record {
  normal = two_normal m 0 (m - 1) (omega arith) (omega arith);
  has = elim (cases_eq z 0) [
    | inl none ↦
        let is : (z + (m - 1)) % m ≡ m - 1 = ap (λ n. (n + (m - 1)) % m) none ∙ mod-eq_of_lt {n = 0 + (m - 1)} {m = m} (omega arith) ∙ omega arith in
        subst (Has m (Values (0 ∷ (m - 1) ∷ []))) (sym is) (two_second m 0 (m - 1))
    | inr one ↦
        let whole : z + (m - 1) ≡ 0 + m = omega (arith, bit, one) in
        let is : (z + (m - 1)) % m ≡ 0 = ap (λ n. n % m) whole ∙ add-mod_right 0 m ∙ mod-eq_of_lt {n = 0} {m = m} (omega arith) in
        subst (Has m (Values (0 ∷ (m - 1) ∷ []))) (sym is) (two_first m 0 (m - 1))
  ];
}

pub add_is : (laws : KnownLaws) (m x y : ℕ) (a b : Form) → IsResult m a x → IsResult m b y → IsResult m (add m a b) ((x + y) % m)
add_is laws m x y a b h k = record { normal = laws.sets.add_normal m a b h.normal k.normal; has = laws.sets.add m x y a b h.normal k.normal h.has k.has }

pub sub_is : (laws : KnownLaws) (m x y : ℕ) (a b : Form) → IsResult m a x → IsResult m b y → IsResult m (sub m a b) ((x + m - y) % m)
sub_is laws m x y a b h k = record { normal = laws.sets.sub_normal m a b h.normal k.normal; has = laws.sets.sub m x y a b h.normal k.normal h.has k.has }

mod_inside : (a b m : ℕ) → (a % m + b) % m ≡ (a + b) % m
mod_inside a b m =
    let turn : a % m + b ≡ b + a % m = omega arith in
    let back : b + a ≡ a + b = omega arith in
    ap (λ n. n % m) turn ∙ add-mod-mod b a m ∙ ap (λ n. n % m) back

pub carry_is : (laws : KnownLaws) (m x y z : ℕ) (a b : Form) (carry : Tri) → 2 < m → IsResult m a x → IsResult m b y
    → IsBit carry z → IsResult m (add_carry m a b carry) ((x + y + z) % m)
carry_is laws m x y z a b carry some h k bit =
    let c = chosen_is laws m z carry (omega arith) bit in
    combined laws m (carry_answer m) a b (chosen carry) (add m (add m a b) (chosen carry)) x y z (λ i j n p q r. mod-lt (i + j + n) {m = m} (omega arith)) h k c
    (subst (IsResult m (add m (add m a b) (chosen carry))) (mod_inside (x + y) z m) (add_is laws m ((x + y) % m) z (add m a b) (chosen carry) (add_is laws m x y a b h k) c))

pub borrow_is : (laws : KnownLaws) (m x y z : ℕ) (a b : Form) (carry : Tri) → 2 < m → IsResult m a x → IsResult m b y → IsBit carry z
    → IsResult m (sub_carry m a b carry) ((x + (m - 1 - y) + z) % m)
borrow_is laws m x y z a b carry some h k bit =
    let c = chosen_is laws m z carry (omega arith) bit in
    let less = borrowed_is laws m z carry some bit in
    let small : y < m = laws.sets.below m y b k.normal k.has in
    let one = mod_inside (x + m - y) ((z + (m - 1)) % m) m in
    let two : (x + m - y + (z + (m - 1)) % m) % m ≡ (x + m - y + (z + (m - 1))) % m =
    ap (λ n. n % m) (omega arith) ∙ mod_inside (z + (m - 1)) (x + m - y) m ∙ ap (λ n. n % m) (omega arith) in
    let three : x + m - y + (z + (m - 1)) ≡ (x + (m - 1 - y) + z) + m = omega (arith, small) in
    let is : ((x + m - y) % m + (z + (m - 1)) % m) % m ≡ (x + (m - 1 - y) + z) % m = one ∙ two ∙ ap (λ n. n % m) three ∙ add-mod_right (x + (m - 1 - y) + z) m in
    combined laws m (borrow_answer m) a b (chosen carry) (add m (sub m a b) (borrowed m carry)) x y z (λ i j n p q r. mod-lt (i + (m - 1 - j) + n) {m = m} (omega arith)) h k c
    (subst (IsResult m (add m (sub m a b) (borrowed m carry))) is
    (add_is laws m ((x + m - y) % m) ((z + (m - 1)) % m) (sub m a b) (borrowed m carry) (sub_is laws m x y a b h k) less))
