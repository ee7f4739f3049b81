-- The accumulator, B and PSW behind MUL and DIV.
use Rattle.std.proofs.Common.{◌≡◌, ℕ, zero, suc, ◌+◌, ◌*◌, ◌/◌, ◌%◌, ◌<◌, ◌==◌, Bool, true, false, Option, refl, sym, ap, subst, arith}
use Rattle.std.specs.Prelude.{nat_lt}
use Rattle.std.proofs.lemmas.Bool.{eqb-true, cond_both}
use Rattle.entry_value.specs.Words.{Suspended}
use Rattle.irq_frames.specs.KnownLaws.{KnownLaws}
use Rattle.value_set.specs.declared.form.Form.{Form}
use Rattle.value_set.specs.Form.{Has, IsNormal}
use Rattle.value_set.specs.Joining.{is_within}
use Rattle.value_set.specs.Summing.{single}
use Rattle.value_bits.specs.declared.tri.Tri.TheVariants.{Zero}
use Rattle.value_bits.specs.Sets.{combine_or}
use Rattle.mcs51_chip.specs.declared.state.ChipState.{ChipState}
use Rattle.mcs51_chip.specs.Arithmetic.{multiplied, divided, divided_by_zero}
use Rattle.mcs51_chip.specs.Leading.{MayDivide}
use Rattle.mcs51_chip.specs.Registers.{bit_of, half_carry_of}
use Rattle.mcs51_chip.specs.Step.{Effect}
use Rattle.mcs51_state.specs.Holding.{HoldsOfStatus}
use Rattle.mcs51_state.specs.Known.{any_byte}
use Rattle.mcs51_results.specs.declared.combining.NumberRule.{NumberRule}
use Rattle.mcs51_results.specs.declared.combining.NumberRule.TheVariants.{ProductLow, ProductHigh, Quotient, Remainder}
use Rattle.mcs51_results.specs.declared.flags.FlagRule.TheVariants as flag
use Rattle.mcs51_results.specs.declared.made.MadePair.{MadePair}
use Rattle.mcs51_results.specs.Holding.{IsResult, IsPair, HoldsOfPair, StandsPair}
use Rattle.mcs51_results.specs.Results.{half_carry_in, known_flag, multiplied_made, divided_set, divided_made}
use Rattle.mcs51_results.specs.Rules.{answer_by, answer_stays}
use Rattle.mcs51_results.proofs.SetLemmas.{combined, zero_is, any_is, member}
use Rattle.mcs51_results.proofs.StatusLemmas.{flag_is, half_carry_bit, flagged_holds}
use Rattle.mcs51_results.proofs.Accumulations.{byte_is}

-- a rule's result over all combinations, or any number
ruled : (laws : KnownLaws) (rule : NumberRule) (a b : Form) (x y : ℕ) → IsResult 256 a x → IsResult 256 b y
    → IsResult 256 (combine_or 256 (answer_by rule) a b (single 0) any_byte) (answer_by rule x y 0)
ruled laws rule a b x y h k =
    let small = answer_stays rule x y 0 (laws.sets.below 256 x a h.normal h.has) (laws.sets.below 256 y b k.normal k.has) (omega arith) in
    combined laws (answer_by rule) a b (single 0) any_byte x y 0 (answer_stays rule) h k (zero_is laws) (any_is laws (answer_by rule x y 0) small)

-- MUL

pub multiplied_holds : (laws : KnownLaws) (framed : Bool) (first : Option Suspended) (made : MadePair) (s : ChipState)
    → StandsPair framed first made s
    → HoldsOfPair first (multiplied_made made.a made.b made.psw) (multiplied s)
multiplied_holds laws framed first made s stands =
    let a = byte_is framed first made.a s.a stands.form.a stands.holds.a in
    let b = byte_is framed first made.b s.b stands.form.b stands.holds.b in
    let t = known_flag flag.Exceeding made.a.set made.b.set (single 0) in record {
      a = ((ruled laws ProductLow made.a.set made.b.set s.a s.b a b).has, tt);
      b = ((ruled laws ProductHigh made.a.set made.b.set s.a s.b a b).has, tt);
      psw = flagged_holds first made.psw s.psw 0 (half_carry_of s) (bit_of (nat_lt 255 (s.a * s.b))) Zero (half_carry_in made.psw) t stands.holds.psw refl (half_carry_bit first made.psw s.psw stands.holds.psw)
          (flag_is laws flag.Exceeding s.a s.b 0 made.a.set made.b.set (single 0) a.has b.has (zero_is laws).has);
    }

ruled_normal : (laws : KnownLaws) (rule : NumberRule) (a b : Form) → IsNormal 256 a → IsNormal 256 b
    → IsNormal 256 (combine_or 256 (answer_by rule) a b (single 0) any_byte)
ruled_normal laws rule a b h k =
    let (x, first) = member laws 256 a h in
    let (y, second) = member laws 256 b k in
    (ruled laws rule a b x y first second).normal

pub multiplied_form : (laws : KnownLaws) (framed : Bool) (made : MadePair) → IsPair framed made
    → IsPair framed (multiplied_made made.a made.b made.psw)
multiplied_form laws framed made form = record {
  a = record { normal = ruled_normal laws ProductLow made.a.set made.b.set form.a.normal form.b.normal; entry = tt };
  b = record { normal = ruled_normal laws ProductHigh made.a.set made.b.set form.a.normal form.b.normal; entry = tt };
  psw = record { bits = refl; entry = tt };
}

-- DIV

single_member : (v : ℕ) → Has 256 (single 0) v → v ≡ 0
single_member v (zero, less, is) = sym is
single_member v (suc k, less, is) = absurd (omega (arith, less))

-- where B is 0 its set has 0
zero_within : (laws : KnownLaws) (b : Form) → Has 256 b 0 → is_within 256 (single 0) b ≡ true
zero_within laws b has = (laws.sets.tested 256 (single 0) b).1 (λ v is. subst (Has 256 b) (sym (single_member v is)) has)

-- any number is in the set where B is 0
divided_any : (laws : KnownLaws) (quotients b : Form) (v : ℕ) → Has 256 b 0 → v < 256 → Has 256 (divided_set quotients b) v
divided_any laws quotients b v has small = rw (zero_within laws b has) (any_is laws v small).has

divided_is : (laws : KnownLaws) (quotients b : Form) (v : ℕ) → v < 256 → Has 256 quotients v → Has 256 (divided_set quotients b) v
divided_is laws quotients b v small has = cond_both (is_within 256 (single 0) b) any_byte quotients (λ set. Has 256 set v) (λ e. (any_is laws v small).has) (λ e. has)

divided_normal : (laws : KnownLaws) (quotients b : Form) → IsNormal 256 quotients → IsNormal 256 (divided_set quotients b)
divided_normal laws quotients b normal = cond_both (is_within 256 (single 0) b) any_byte quotients (IsNormal 256) (λ e. laws.sets.whole_normal 256 (omega arith)) (λ e. normal)

-- OV: it is known where B is known to be 0, or not to be 0
overflow_psw : (laws : KnownLaws) (framed : Bool) (first : Option Suspended) (made : MadePair) (s : ChipState)
    → StandsPair framed first made s
    → HoldsOfStatus first (divided_made made.a made.b made.psw).psw (s.psw / 8 % 8 * 8 + 128 * 0 + 64 * half_carry_of s + 4 * bit_of (s.b == 0))
overflow_psw laws framed first made s stands =
    let a = byte_is framed first made.a s.a stands.form.a stands.holds.a in
    let b = byte_is framed first made.b s.b stands.form.b stands.holds.b in
    let t = known_flag flag.ByZero made.a.set made.b.set (single 0) in
    flagged_holds first made.psw s.psw 0 (half_carry_of s) (bit_of (s.b == 0)) Zero (half_carry_in made.psw) t stands.holds.psw refl (half_carry_bit first made.psw s.psw stands.holds.psw)
    (flag_is laws flag.ByZero s.a s.b 0 made.a.set made.b.set (single 0) a.has b.has (zero_is laws).has)

by_number : (laws : KnownLaws) (framed : Bool) (first : Option Suspended) (made : MadePair) (s : ChipState)
    → StandsPair framed first made s → (s.b == 0) ≡ false
    → HoldsOfPair first (divided_made made.a made.b made.psw) (divided s)
by_number laws framed first made s stands some =
    let a = byte_is framed first made.a s.a stands.form.a stands.holds.a in
    let b = byte_is framed first made.b s.b stands.form.b stands.holds.b in
    let small = λ (rule : NumberRule). answer_stays rule s.a s.b 0 (laws.sets.below 256 s.a made.a.set a.normal a.has) (laws.sets.below 256 s.b made.b.set b.normal b.has) (omega arith) in
    let quotient : answer_by Quotient s.a s.b 0 ≡ s.a / s.b = rw some refl in
    let remainder : answer_by Remainder s.a s.b 0 ≡ s.a % s.b = rw some refl in record {
      a = (
        subst (Has 256 (divided_made made.a made.b made.psw).a.set) quotient
            (divided_is laws (combine_or 256 (answer_by Quotient) made.a.set made.b.set (single 0) any_byte) made.b.set (answer_by Quotient s.a s.b 0) (small Quotient) (ruled laws Quotient made.a.set made.b.set s.a s.b a b).has),
        tt,
      );
      b = (
        subst (Has 256 (divided_made made.a made.b made.psw).b.set) remainder
            (divided_is laws (combine_or 256 (answer_by Remainder) made.a.set made.b.set (single 0) any_byte) made.b.set (answer_by Remainder s.a s.b 0) (small Remainder) (ruled laws Remainder made.a.set made.b.set s.a s.b a b).has),
        tt,
      );
      psw = subst (λ bit. HoldsOfStatus first (divided_made made.a made.b made.psw).psw (s.psw / 8 % 8 * 8 + 128 * 0 + 64 * half_carry_of s + 4 * bit)) (ap bit_of some) (overflow_psw laws framed first made s stands);
    }

by_zero : (laws : KnownLaws) (framed : Bool) (first : Option Suspended) (made : MadePair) (s : ChipState) (a b : ℕ)
    → StandsPair framed first made s
    → (s.b == 0) ≡ true → a < 256 → b < 256
    → HoldsOfPair first (divided_made made.a made.b made.psw) (divided_by_zero a b s)
by_zero laws framed first made s a b stands none small less =
    let is_zero : s.b ≡ 0 = eqb-true s.b 0 none in
    let has : Has 256 made.b.set 0 = subst (Has 256 made.b.set) is_zero stands.holds.b.0 in record {
      a = (divided_any laws (combine_or 256 (answer_by Quotient) made.a.set made.b.set (single 0) any_byte) made.b.set a has small, tt);
      b = (divided_any laws (combine_or 256 (answer_by Remainder) made.a.set made.b.set (single 0) any_byte) made.b.set b has less, tt);
      psw = subst (λ bit. HoldsOfStatus first (divided_made made.a made.b made.psw).psw (s.psw / 8 % 8 * 8 + 128 * 0 + 64 * half_carry_of s + 4 * bit)) (ap bit_of none) (overflow_psw laws framed first made s stands);
    }

divided_by : (laws : KnownLaws) (framed : Bool) (first : Option Suspended) (made : MadePair) (s : ChipState) (effect : Effect) (by : Bool)
    → StandsPair framed first made s → (s.b == 0) ≡ by → MayDivide by s effect
    → HoldsOfPair first (divided_made made.a made.b made.psw) effect.1
divided_by laws framed first made s effect true stands is (a, b, small, less, e) = subst (λ (e : Effect). HoldsOfPair first (divided_made made.a made.b made.psw) e.1) (sym e) (by_zero laws framed first made s a b stands is small less)
divided_by laws framed first made s effect false stands is e = subst (λ (e : Effect). HoldsOfPair first (divided_made made.a made.b made.psw) e.1) (sym e) (by_number laws framed first made s stands is)

pub divided_holds : (laws : KnownLaws) (framed : Bool) (first : Option Suspended) (made : MadePair) (s : ChipState) (effect : Effect)
    → StandsPair framed first made s → MayDivide (s.b == 0) s effect
    → HoldsOfPair first (divided_made made.a made.b made.psw) effect.1
divided_holds laws framed first made s effect stands may = divided_by laws framed first made s effect (s.b == 0) stands refl may

pub divided_form : (laws : KnownLaws) (framed : Bool) (made : MadePair) → IsPair framed made
    → IsPair framed (divided_made made.a made.b made.psw)
divided_form laws framed made form = record {
  a = record { normal = divided_normal laws (combine_or 256 (answer_by Quotient) made.a.set made.b.set (single 0) any_byte) made.b.set (ruled_normal laws Quotient made.a.set made.b.set form.a.normal form.b.normal); entry = tt };
  b = record { normal = divided_normal laws (combine_or 256 (answer_by Remainder) made.a.set made.b.set (single 0) any_byte) made.b.set (ruled_normal laws Remainder made.a.set made.b.set form.a.normal form.b.normal); entry = tt };
  psw = record { bits = refl; entry = tt };
}
