-- Sets of results, each with the number that an operation makes of members.
use Rattle.std.proofs.Common.{◌≡◌, ℕ, ◌+◌, ◌-◌, ◌*◌, ◌%◌, ◌<◌, refl, sym, subst, get_or, arith}
use Rattle.std.specs.Prelude.{nat_le}
use Rattle.std.proofs.lemmas.Bool.{cond_both}
use Rattle.std.proofs.lemmas.List.Elements.{Contains-get_or}
use Rattle.irq_frames.specs.KnownLaws.{KnownLaws}
use Rattle.value_set.specs.declared.form.Form.{Form}
use Rattle.value_set.specs.Form.{IsNormal, members}
use Rattle.value_set.specs.Operations.{StaysBelow, HasResultsBelow}
use Rattle.value_set.specs.Summing.{add, combine, count_of, single, sub}
use Rattle.value_bits.specs.declared.tri.Logic.{Logic}
use Rattle.value_bits.specs.declared.tri.Tri.{Tri}
use Rattle.value_bits.specs.BitFacts.{bit_below}
use Rattle.value_bits.specs.Bits.{IsBit, logic_of}
use Rattle.value_bits.specs.Sets.{chosen, combine_or, logic_set}
use Rattle.mcs51_state.specs.Known.{any_byte}
use Rattle.mcs51_results.specs.declared.combining.NumberRule.TheVariants.{CarrySum, CarryDifference}
use Rattle.mcs51_results.specs.declared.made.Operand.{Operand}
use Rattle.mcs51_results.specs.declared.made.Operand.TheVariants.{Constant, Among}
use Rattle.mcs51_results.specs.Holding.{IsResult, AreOperands, IsOperand}
use Rattle.mcs51_results.specs.Results.{set_of, add_carry, sub_carry}
use Rattle.mcs51_results.specs.Rules.{answer_by, answer_stays}

pub combined : (laws : KnownLaws) (answer : ℕ → ℕ → ℕ → ℕ) (a b c otherwise : Form) (x y z : ℕ) → StaysBelow 256 answer
    → IsResult 256 a x → IsResult 256 b y → IsResult 256 c z
    → IsResult 256 otherwise (answer x y z) → IsResult 256 (combine_or 256 answer a b c otherwise) (answer x y z)
unfolding combine_or
combined laws answer a b c otherwise x y z stays h k l rest =
    let below : HasResultsBelow 256 answer a b c = λ i j n p q r. stays i j n (laws.sets.below 256 i a h.normal p) (laws.sets.below 256 j b k.normal q) (laws.sets.below 256 n c l.normal r) in
    cond_both (nat_le (count_of 256 a * (count_of 256 b * count_of 256 c)) 256) (combine 256 answer a b c) otherwise (λ set. IsResult 256 set (answer x y z))
    (λ e. record {
      normal = laws.sets.results_normal 256 answer a b c (laws.sets.some 256 a h.normal) (laws.sets.some 256 b k.normal) (laws.sets.some 256 c l.normal) below;
      has = laws.sets.results_hold 256 x y z answer a b c below h.has k.has l.has;
    })
    (λ e. rest)

pub single_is : (laws : KnownLaws) (m v : ℕ) → v < m → IsResult m (single v) v
single_is laws m v small = let is = laws.sets.single m v small in record { normal = is.0; has = is.1 }

pub zero_is : (laws : KnownLaws) → IsResult 256 (single 0) 0
zero_is laws = single_is laws 256 0 (omega arith)

pub any_is : (laws : KnownLaws) (v : ℕ) → v < 256 → IsResult 256 any_byte v
any_is laws v small = record { normal = laws.sets.whole_normal 256 (omega arith); has = laws.sets.whole 256 v small }

pub chosen_is : (laws : KnownLaws) (z : ℕ) (carry : Tri) → IsBit carry z → IsResult 256 (chosen carry) z
chosen_is laws z carry bit = record { normal = laws.bits.chosen_normal 256 carry (omega arith); has = laws.bits.chosen_has 256 z carry bit }

-- some member, and some value of an operand
pub member : (laws : KnownLaws) (m : ℕ) (set : Form) → IsNormal m set → (v : ℕ) × IsResult m set v
member laws m set normal = let some = laws.sets.some m set normal in
    (get_or (members m set) 0 0, record { normal = normal; has = Contains-get_or (members m set) 0 0 (omega (arith, some)) })

pub operand_value : (laws : KnownLaws) (operand : Operand) → AreOperands operand → (x : ℕ) × IsOperand operand x
operand_value laws (Constant m) small = (m, (small, refl))
operand_value laws (Among set) normal = member laws 256 set normal

pub operand_is : (laws : KnownLaws) (operand : Operand) (x : ℕ) → IsOperand operand x → IsResult 256 (set_of operand) x
operand_is laws (Constant m) x (small, is) = subst (IsResult 256 (single m)) (sym is) (single_is laws 256 m small)
operand_is laws (Among set) x is = is

-- SUMS AND DIFFERENCES

pub add_is : (laws : KnownLaws) (m x y : ℕ) (a b : Form) → IsResult m a x → IsResult m b y → IsResult m (add m a b) ((x + y) % m)
add_is laws m x y a b h k = record { normal = laws.sets.add_normal m a b h.normal k.normal; has = laws.sets.add m x y a b h.normal k.normal h.has k.has }

pub sub_is : (laws : KnownLaws) (m x y : ℕ) (a b : Form) → IsResult m a x → IsResult m b y → IsResult m (sub m a b) ((x + m - y) % m)
sub_is laws m x y a b h k = record { normal = laws.sets.sub_normal m a b h.normal k.normal; has = laws.sets.sub m x y a b h.normal k.normal h.has k.has }

sum_twice : (x y z : ℕ) → ((x + y) % 256 + z) % 256 ≡ (x + y + z) % 256
sum_twice x y z = omega arith

pub carry_is : (laws : KnownLaws) (x y z : ℕ) (a b : Form) (carry : Tri) → IsResult 256 a x → IsResult 256 b y → IsBit carry z
    → IsResult 256 (add_carry a b carry) ((x + y + z) % 256)
carry_is laws x y z a b carry h k bit =
    let c = chosen_is laws z carry bit in
    combined laws (answer_by CarrySum) a b (chosen carry) (add 256 (add 256 a b) (chosen carry)) x y z (answer_stays CarrySum) h k c
    (subst (IsResult 256 (add 256 (add 256 a b) (chosen carry))) (sum_twice x y z) (add_is laws 256 ((x + y) % 256) z (add 256 a b) (chosen carry) (add_is laws 256 x y a b h k) c))

difference_twice : (x y z : ℕ) → y < 256 → z < 2 → ((x + 256 - y) % 256 + 256 - z) % 256 ≡ (x + 512 - y - z) % 256
difference_twice x y z h k = omega (arith, h, k)

difference_plain : (x y z : ℕ) → y < 256 → z < 2 → (x + 512 - y - z) % 256 ≡ (x + 256 - y - z) % 256
difference_plain x y z h k = omega (arith, h, k)

pub borrow_is : (laws : KnownLaws) (x y z : ℕ) (a b : Form) (carry : Tri) → IsResult 256 a x → IsResult 256 b y → IsBit carry z
    → IsResult 256 (sub_carry a b carry) ((x + 256 - y - z) % 256)
borrow_is laws x y z a b carry h k bit =
    let c = chosen_is laws z carry bit in
    let small = laws.sets.below 256 y b k.normal k.has in
    let few = bit_below carry z bit in
    subst (IsResult 256 (sub_carry a b carry)) (difference_plain x y z small few)
    (combined laws (answer_by CarryDifference) a b (chosen carry) (sub 256 (sub 256 a b) (chosen carry)) x y z (answer_stays CarryDifference) h k c
    (subst (IsResult 256 (sub 256 (sub 256 a b) (chosen carry))) (difference_twice x y z small few)
    (sub_is laws 256 ((x + 256 - y) % 256) z (sub 256 a b) (chosen carry) (sub_is laws 256 x y a b h k) c)))

-- LOGIC

pub logic_is : (laws : KnownLaws) (logic : Logic) (x y : ℕ) (a b : Form) → IsResult 256 a x → IsResult 256 b y
    → IsResult 256 (logic_set 8 logic a b) (logic_of logic x y)
logic_is laws logic x y a b h k = record { normal = laws.bits.logic_normal 8 logic a b h.normal k.normal; has = laws.bits.logic 8 x y logic a b h.normal k.normal h.has k.has }
