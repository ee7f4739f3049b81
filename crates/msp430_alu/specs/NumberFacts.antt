-- Sets of one number, sums, and numbers without bit 0: lemmas, also for the proofs of crates above.
use Rattle.std.proofs.Common.{◌≡◌, ℕ, ◌+◌, ◌-◌, ◌*◌, ◌/◌, ◌%◌, ◌<◌, ◌==◌, Contains, refl, ◌∙◌, subst, inl, inr, arith}
use Rattle.std.specs.Prelude.{bit_and}
use Rattle.std.proofs.lemmas.Bool.{cases_eq, cond_both, eqb-true}
use Rattle.std.proofs.lemmas.Nat.Bits.{and_high_mask}
use Rattle.irq_frames.specs.KnownLaws.{KnownLaws}
use Rattle.value_set.specs.declared.form.Form.{Form}
use Rattle.value_set.specs.declared.form.Form.TheVariants.{Values, Run}
use Rattle.value_set.specs.declared.form.Progression.{Progression}
use Rattle.value_set.specs.Form.{Fits, Has, IsNormal, IsNormalRun, make, steps}
use Rattle.value_set.specs.Joining.{is_within, join}
use Rattle.value_set.specs.Remainders.{HasRemainder}
use Rattle.value_set.specs.Summing.{add, single}
use Rattle.value_bits.specs.declared.tri.Logic.TheVariants.{And}
use Rattle.value_bits.specs.Sets.{logic_set}
use Rattle.msp430_chip.specs.State.{even}
use Rattle.msp430_results.specs.FlagSets.{IsResult}
use Rattle.msp430_state.specs.Forms.{AreEvenWords}
use Rattle.msp430_state.specs.Known.{even_words}
use Rattle.msp430_alu.specs.Registers.{cleared_parts, each_second, even_parts}

-- ONE NUMBER, AND SUMS

pub single_is : (laws : KnownLaws) (m v : ℕ) → v < m → IsResult m (single v) v
single_is laws m v small = let is = laws.sets.single m v small in record { normal = is.0; has = is.1 }

pub add_is : (laws : KnownLaws) (m x y : ℕ) (a b : Form) → IsResult m a x → IsResult m b y → IsResult m (add m a b) ((x + y) % m)
add_is laws m x y a b h k = record { normal = laws.sets.add_normal m a b h.normal k.normal; has = laws.sets.add m x y a b h.normal k.normal h.has k.has }

pub moved_normal : (laws : KnownLaws) (set : Form) (by : ℕ) → by < 65536 → IsNormal 65536 set → IsNormal 65536 (add 65536 set (single by))
moved_normal laws set by small normal = laws.sets.add_normal 65536 set (single by) normal (laws.sets.single 65536 by small).0

pub join_first_is : (laws : KnownLaws) (m v : ℕ) (a b : Form) → IsResult m a v → IsNormal m b → IsResult m (join m a b) v
join_first_is laws m v a b h normal = record { normal = laws.sets.join_normal m a b h.normal normal; has = laws.sets.join_first m a b h.normal normal v h.has }

pub join_second_is : (laws : KnownLaws) (m v : ℕ) (a b : Form) → IsNormal m a → IsResult m b v → IsResult m (join m a b) v
join_second_is laws m v a b normal h = record { normal = laws.sets.join_normal m a b normal h.normal; has = laws.sets.join_second m a b normal h.normal v h.has }

-- EVEN NUMBERS

without_bit : (v : ℕ) → v < 65536 → bit_and v 65534 ≡ v - v % 2
without_bit v small =
    let masked : bit_and v 65534 ≡ v / 2 * 2 = and_high_mask 16 1 (omega arith) v small in
    masked ∙ omega arith

even_word : (laws : KnownLaws) (v : ℕ) → Has 65536 even_words v → v % 2 ≡ 0
even_word laws = laws.sets.run_remainder 65536 2 0 2 32768 refl refl

cleared_parts_is : (laws : KnownLaws) (set : Form) (v : ℕ) → IsResult 65536 set v → IsResult 65536 (cleared_parts set) (even v)
cleared_parts_is laws set v is =
    let small : v < 65536 = laws.sets.below 65536 v set is.normal is.has in
    let mask = single_is laws 65536 65534 (omega arith) in
    cond_both (is_within 65536 set even_words) set (logic_set 16 And set (single 65534)) (λ parts. IsResult 65536 parts (even v))
    (λ e. let no_bit : v % 2 ≡ 0 = even_word laws v ((laws.sets.tested 65536 set even_words).0 e v is.has) in
    let same : v ≡ v - v % 2 = omega (arith, no_bit) in
    subst (IsResult 65536 set) same is)
    (λ e. record {
      normal = laws.bits.logic_normal 16 And set (single 65534) is.normal mask.normal;
      has = subst (Has 65536 (logic_set 16 And set (single 65534))) (without_bit v small) (laws.bits.logic 16 v 65534 And set (single 65534) is.normal mask.normal is.has mask.has);
    })

cleared_parts_form : (laws : KnownLaws) (set : Form) → IsNormal 65536 set → AreEvenWords (cleared_parts set)
cleared_parts_form laws set normal =
    let mask = (laws.sets.single 65536 65534 (omega arith)).0 in
    cond_both (is_within 65536 set even_words) set (logic_set 16 And set (single 65534)) AreEvenWords
    (λ e. record { normal = normal; even = λ v h. even_word laws v ((laws.sets.tested 65536 set even_words).0 e v h) })
    (λ e. record {
      normal = laws.bits.logic_normal 16 And set (single 65534) normal mask;
      even = laws.bits.even_and 16 set (single 65534) (omega arith) normal mask (laws.sets.single_rest 65536 2 0 65534 refl);
    })

-- a run without gaps: every second number of it, once round at most
second_fits : (base count : ℕ) → IsNormalRun 65536 base 1 count → Fits 65536 2 ((count + base % 2 + 1) / 2)
second_fits base count is =
    let once : (count - 1) * 1 < 65536 = is.once in
    let parity : base % 2 < 2 = omega arith in
    let closes : (count ≡ 65536) → base < 1 = λ e. is.least (omega (arith, e)) in
    record {
      positive = omega arith;
      some = omega (arith, is.long);
      once = elim (cases_eq count 65536) [
        | inl whole ↦ let first = closes whole in omega (arith, whole, first)
        | inr less ↦ omega (arith, once, less, parity)
      ];
      strides = λ e. omega arith;
    }

second_is : (laws : KnownLaws) (p : Progression) (v : ℕ) → IsNormalRun 65536 p.base 1 p.count
    → Contains (steps 65536 p.base 1 p.count) v
    → IsResult 65536 (each_second p) (even v)
second_is laws p v is has =
    let fits = second_fits p.base p.count is in
    let base = p.base - p.base % 2 in
    let count = (p.count + p.base % 2 + 1) / 2 in
    let (i, lt, at) = laws.sets.steps_from 65536 p.base 1 p.count v has in
    let place = (i + p.base % 2) / 2 in
    let inside : place < count = omega (arith, lt) in
    let same : (base + place * 2) % 65536 ≡ even v = omega (arith, at) in
    record {
      normal = laws.sets.run_normal 65536 base 2 count fits;
      has = (laws.sets.run_exact 65536 base 2 count (even v) fits).1
          (subst (Contains (steps 65536 base 2 count)) same (laws.sets.steps_have 65536 base 2 count place inside));
    }

second_form : (laws : KnownLaws) (p : Progression) → IsNormalRun 65536 p.base 1 p.count → AreEvenWords (each_second p)
second_form laws p is =
    let base = p.base - p.base % 2 in
    let count = (p.count + p.base % 2 + 1) / 2 in
    record {
      normal = laws.sets.run_normal 65536 base 2 count (second_fits p.base p.count is);
      even = subst (λ r. HasRemainder 65536 2 r (make 65536 base 2 count)) (omega arith) (laws.sets.run_remainder 65536 2 base 2 count refl refl);
    }

without_gaps : (p : Progression) → p.stride ≡ 1 → IsNormal 65536 (Run p) → IsNormalRun 65536 p.base 1 p.count
without_gaps p e normal = subst (λ stride. IsNormalRun 65536 p.base stride p.count) e normal

-- a number without bit 0 is one of the even parts, which are even
pub even_parts_is : (laws : KnownLaws) (set : Form) (v : ℕ) → IsResult 65536 set v → IsResult 65536 (even_parts set) (even v)
even_parts_is laws (Values xs) v is = cleared_parts_is laws (Values xs) v is
even_parts_is laws (Run p) v is =
    cond_both (p.stride == 1) (each_second p) (cleared_parts (Run p)) (λ parts. IsResult 65536 parts (even v))
    (λ e. let one = eqb-true p.stride 1 e in
    second_is laws p v (without_gaps p one is.normal) (subst (λ stride. Contains (steps 65536 p.base stride p.count) v) one is.has))
    (λ e. cleared_parts_is laws (Run p) v is)

pub even_parts_form : (laws : KnownLaws) (set : Form) → IsNormal 65536 set → AreEvenWords (even_parts set)
even_parts_form laws (Values xs) normal = cleared_parts_form laws (Values xs) normal
even_parts_form laws (Run p) normal =
    cond_both (p.stride == 1) (each_second p) (cleared_parts (Run p)) AreEvenWords
    (λ e. second_form laws p (without_gaps p (eqb-true p.stride 1 e) normal)) (λ e. cleared_parts_form laws (Run p) normal)

-- an even number added to even ones
pub sum_even : (laws : KnownLaws) (set : Form) (n : ℕ) → n < 65536 → n % 2 ≡ 0 → AreEvenWords set → AreEvenWords (add 65536 set (single n))
sum_even laws set n small rest is =
    record {
      normal = moved_normal laws set n small is.normal;
      even = laws.sets.add_rest 65536 2 0 0 set (single n) refl is.normal (laws.sets.single 65536 n small).0 is.even (laws.sets.single_rest 65536 2 0 n rest);
    }
