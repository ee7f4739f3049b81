-- All combinations where they are few, and another set where they aren't.
use Rattle.std.proofs.Common.{◌≡◌, ℕ, ◌*◌, ◌%◌, ◌<◌, ◌≤◌, Bool, false, IsTrue, refl, sym, ap, inl, inr, arith}
use Prim.Native.Nat.{zero, suc}
use Rattle.std.specs.Prelude.{◌↔◌}
use Rattle.std.proofs.lemmas.Bool.{cases_lt, le-leb, lt-leb, iff_false}
use Rattle.value_set.specs.declared.form.Form.{Form}
use Rattle.value_set.specs.Form.{Has, set_of, put}
use Rattle.value_set.specs.Summing.{single, combine, count_of}
use Rattle.value_bits.specs.declared.tri.Tri.{Tri}
use Rattle.value_bits.specs.declared.tri.Tri.TheVariants.{Zero, One, Either}
use Rattle.value_bits.specs.declared.tri.Lowest.{Lowest}
use Rattle.value_bits.specs.declared.tri.Lowest.TheVariants.{High, Given}
use Rattle.value_bits.specs.declared.tri.Top.{Top}
use Rattle.value_bits.specs.declared.tri.Top.TheVariants.{Sign, Low, Put}
use Rattle.chip_numbers.specs.Numbers.{shifted_left, shifted_right}
use Rattle.value_bits.specs.Bits.{IsBit}
use Rattle.value_bits.specs.Sets.{chosen, combine_or, IsTop, IsOneTop, top_carry, shift_answer}
use Rattle.value_bits.specs.Lefts.{IsLowest, IsOneLowest, lowest_carry, left_answer}
use Rattle.value_bits.specs.BitFacts.{bit_below}

pub combine_few : (m : ℕ) (answer : ℕ → ℕ → ℕ → ℕ) (first second carry otherwise set : Form) → set ≡ combine m answer first second carry
    → count_of m first * (count_of m second * count_of m carry) ≤ 256 → set ≡ combine_or m answer first second carry otherwise
unfolding combine_or
combine_few m answer first second carry otherwise set is few = rw (le-leb (count_of m first * (count_of m second * count_of m carry)) 256 few) is

pub combine_many : (m : ℕ) (answer : ℕ → ℕ → ℕ → ℕ) (first second carry otherwise set : Form) → set ≡ otherwise
    → 256 < count_of m first * (count_of m second * count_of m carry) → set ≡ combine_or m answer first second carry otherwise
unfolding combine_or
combine_many m answer first second carry otherwise set is many = rw (lt-leb (count_of m first * (count_of m second * count_of m carry)) 256 many) is

pub single_has : (m v : ℕ) → Has m (single v) v
single_has m v = (0, omega arith, refl)

pub chosen_has : (m bit : ℕ) (b : Tri) → IsBit b bit → Has m (chosen b) bit
chosen_has m bit Zero h = (0, omega arith, sym h)
chosen_has m bit One h = (0, omega arith, sym h)
chosen_has m zero Either h = (0, omega arith, refl)
chosen_has m (suc zero) Either h = (1, omega arith, refl)
chosen_has m (suc (suc n)) Either h = absurd (omega arith)

pub not_few : (b : Bool) (n : ℕ) → IsTrue b ↔ (n ≤ 256) → b ≡ false → 256 < n
not_few b n test is = elim (cases_lt 256 n) [
  | inl more ↦ more
  | inr less ↦ absurd (iff_false test is less)
]

-- of one number each it is one result
pub combined_alone : (m : ℕ) (answer : ℕ → ℕ → ℕ → ℕ) (first second carry otherwise : Form) (x y z : ℕ)
    → first ≡ single x → second ≡ single y → carry ≡ single z
    → combine_or m answer first second carry otherwise ≡ single (answer x y z)
unfolding combine_or combine set_of put
combined_alone m answer first second carry otherwise x y z p q r = rw (p, q, r) refl

-- ---- shifts

pub top_choice : (m place : ℕ) (top : Top) (x bit : ℕ) → IsTop place top x bit
    → (z : ℕ) × Has m (top_carry top) z × (shift_answer place top x 0 z ≡ shifted_right place x bit)
top_choice m place Sign x bit is = (0, single_has m 0, ap (λ (b : ℕ). shifted_right place x b) (sym is))
top_choice m place Low x bit is = (0, single_has m 0, ap (λ (b : ℕ). shifted_right place x b) (sym is))
top_choice m place (Put given) x bit is = (bit, chosen_has m bit given is, ap (λ (b : ℕ). shifted_right place x b) (let small = bit_below given bit is in let low : bit % 2 ≡ bit = omega (arith, small) in low))

pub one_top : (place : ℕ) (top : Top) (x bit : ℕ) → IsOneTop top → IsTop place top x bit
    → (z : ℕ) × (top_carry top ≡ single z) × (shift_answer place top x 0 z ≡ shifted_right place x bit)
one_top place Sign x bit one is = (0, refl, ap (λ (b : ℕ). shifted_right place x b) (sym is))
one_top place Low x bit one is = (0, refl, ap (λ (b : ℕ). shifted_right place x b) (sym is))
one_top place (Put Zero) x bit one is = (0, refl, ap (λ (b : ℕ). shifted_right place x b) (sym is))
one_top place (Put One) x bit one is = (1, refl, ap (λ (b : ℕ). shifted_right place x b) (sym is))
one_top place (Put Either) x bit one is = absurd one

pub lowest_choice : (m place : ℕ) (lowest : Lowest) (x bit : ℕ) → IsLowest place lowest x bit
    → (z : ℕ) × Has m (lowest_carry lowest) z × (left_answer place lowest x 0 z ≡ shifted_left place x bit)
lowest_choice m place High x bit is = (0, single_has m 0, ap (λ (b : ℕ). shifted_left place x b) (sym is))
lowest_choice m place (Given given) x bit is = (bit, chosen_has m bit given is, ap (λ (b : ℕ). shifted_left place x b) (let small = bit_below given bit is in let low : bit % 2 ≡ bit = omega (arith, small) in low))

pub one_lowest : (place : ℕ) (lowest : Lowest) (x bit : ℕ) → IsOneLowest lowest → IsLowest place lowest x bit
    → (z : ℕ) × (lowest_carry lowest ≡ single z) × (left_answer place lowest x 0 z ≡ shifted_left place x bit)
one_lowest place High x bit one is = (0, refl, ap (λ (b : ℕ). shifted_left place x b) (sym is))
one_lowest place (Given Zero) x bit one is = (0, refl, ap (λ (b : ℕ). shifted_left place x b) (sym is))
one_lowest place (Given One) x bit one is = (1, refl, ap (λ (b : ℕ). shifted_left place x b) (sym is))
one_lowest place (Given Either) x bit one is = absurd one
