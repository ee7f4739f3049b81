-- The way that a jump goes.
use Rattle.std.proofs.Common.{◌≡◌, ℕ, ◌+◌, ◌%◌, ◌<◌, ◌==◌, Bool, true, false, Option, None, Some, [], refl, sym, ap, ◌∙◌, inl, inr, subst, arith}
use Rattle.std.specs.Prelude.{nat_le, nat_lt, not}
use Rattle.std.specs.Option.{option_map}
use Rattle.std.proofs.lemmas.Bool.{cases_Bool, cond_both, cond-true, le-ltb, leb-false, leb-true, lt-ltb}
use Rattle.std.proofs.lemmas.List.Elements.{Contains-push}
use Rattle.std.proofs.lemmas.Option.{same_Some}
use Rattle.plain_lemmas.specs.Cases.{mapped}
use Rattle.irq_frames.specs.KnownLaws.{KnownLaws}
use Rattle.value_set.specs.declared.form.Form.{Form}
use Rattle.value_set.specs.Form.{Has, IsNormal}
use Rattle.value_set.specs.Summing.{single, sub}
use Rattle.value_bits.specs.BitFacts.{flag_bit}
use Rattle.value_bits.specs.Bits.{tri_not, IsBit, may_be}
use Rattle.value_bits.specs.Flags.{IsFlag, agreed}
use Rattle.mcs51_decode.specs.declared.instr.Condition.{Condition}
use Rattle.mcs51_decode.specs.declared.instr.Condition.TheVariants.{Carry, NoCarry, Zero, NotZero, Always}
use Rattle.mcs51_chip.specs.declared.state.ChipState.{ChipState}
use Rattle.mcs51_chip.specs.NumberFacts.{carry_below, flag_below}
use Rattle.mcs51_chip.specs.Registers.{bit_of, carry_of, with_carry}
use Rattle.mcs51_chip.specs.Step.{holds}
use Rattle.mcs51_state.specs.declared.fact.CarryFact.{CarryFact}
use Rattle.mcs51_state.specs.declared.fact.Compared.{Compared}
use Rattle.mcs51_state.specs.declared.fact.Compared.TheVariants.{Accumulator, Ram}
use Rattle.mcs51_state.specs.Forms.{IsCarry, IsKnown}
use Rattle.mcs51_state.specs.Holding.{HoldsOfCarry, compared_in}
use Rattle.mcs51_state.specs.Known.{Known}
use Rattle.mcs51_state.specs.Under.{IsUnder}
use Rattle.mcs51_branch.specs.declared.operand.Operand.{Operand}
use Rattle.mcs51_branch.specs.declared.operand.Operand.TheVariants.{One, Several}
use Rattle.mcs51_branch.specs.declared.window.Window.{Window}
use Rattle.mcs51_branch.specs.Cuts.{cut_to, equality_window, order_window, place_cut, set_at}
use Rattle.mcs51_branch.specs.Jumps as jumps
use Rattle.mcs51_branch.specs.Jumps.{IsNumberOf, IsOperand, carry_cut, comparison_cut, compared_with, condition_cut, fact_cut, fact_of, is_less, lowered_cut, numbers_of, operand_cut, with_carry_written, with_seen_carry}
use Rattle.mcs51_branch.proofs.Carries.{seen_form, seen_under, told_of_place, written_form, written_under}
use Rattle.mcs51_branch.proofs.CarryBits.{carry_there, flag_is_set, not_clear}
use Rattle.mcs51_branch.proofs.Cutting.{part_has, part_normal}
use Rattle.mcs51_branch.proofs.PlaceWays.{place_way, place_way_form, set_has}
use Rattle.mcs51_branch.proofs.Windows.{equality_inside, equality_low, order_inside, order_low, twice_not}

-- the jump goes this way, and the state is under what is known there
abbrev Goes : Bool → Option Known → ChipState → Option ChipState → Type 0
Goes framed cut s first = (way : Known) × (cut ≡ Some way) × IsUnder framed way s first

compared_below : (framed : Bool) (place : Compared) (known : Known) (s : ChipState) (first : Option ChipState)
    → IsUnder framed known s first → compared_in place s < 256
compared_below framed Accumulator known s first under = under.holds.state.a
compared_below framed (Ram at) known s first under = under.holds.parts.cells.0 at

-- JC AND JNC

fact_way : (laws : KnownLaws) (framed : Bool) (fact : Option CarryFact) (known : Known) (s : ChipState) (first : Option ChipState)
    → IsCarry fact
    → HoldsOfCarry fact s → IsUnder framed known s first
    → Goes framed (fact_cut fact (carry_of s == 1) known) s first
fact_way laws framed None known s first is told under = (known, refl, under)
fact_way laws framed (Some fact) known s first is told under =
    let v = compared_in fact.compared s in
    let same : (carry_of s == 1) ≡ nat_lt v fact.bound = ap (λ n. n == 1) told ∙ flag_is_set (nat_lt v fact.bound) in
    let inside = order_inside v fact.bound (compared_below framed fact.compared known s first under) is.1 in
    subst (λ less. Goes framed (place_cut fact.compared (order_window less fact.bound) known) s first) (sym same)
    (place_way laws framed fact.compared (order_window (nat_lt v fact.bound) fact.bound) known s first is.0 inside under)

carry_way : (laws : KnownLaws) (framed : Bool) (known : Known) (s : ChipState) (first : Option ChipState) → IsUnder framed known s first
    → Goes framed (carry_cut (carry_of s == 1) known) s first
carry_way laws framed known s first under =
    let carry = carry_of s == 1 in
    let (way, cut, there) = fact_way laws framed known.carry_fact known s first under.form.carry_fact under.holds.parts.carry_fact under in
    let may : may_be (jumps.carry_of known) carry ≡ true = laws.bits.bit_may (jumps.carry_of known) (carry_of s) (carry_there known.psw.bits s.psw under.holds.parts.psw.bits) in (
      with_seen_carry carry way,
      cond-true (may_be (jumps.carry_of known) carry) (option_map (with_seen_carry carry) (fact_cut known.carry_fact carry known)) None may ∙ ap (option_map (with_seen_carry carry)) cut,
      seen_under framed way s first there,
    )

fact_form : (laws : KnownLaws) (framed : Bool) (fact : Option CarryFact) (carry : Bool) (known way : Known)
    → IsCarry fact → IsKnown framed known
    → fact_cut fact carry known ≡ Some way → IsKnown framed way
fact_form laws framed None carry known way is form e = subst (IsKnown framed) (same_Some known way e) form
fact_form laws framed (Some fact) carry known way is form e = place_way_form laws framed fact.compared (order_window carry fact.bound) known way is.0 (order_low carry fact.bound is.1) form e

carry_form : (laws : KnownLaws) (framed : Bool) (carry : Bool) (known way : Known) → IsKnown framed known
    → carry_cut carry known ≡ Some way → IsKnown framed way
carry_form laws framed carry known way form =
    cond_both (may_be (jumps.carry_of known) carry) (option_map (with_seen_carry carry) (fact_cut known.carry_fact carry known)) None (λ (cut : Option Known). cut ≡ Some way → IsKnown framed way)
    (λ may e. let (held, cut, same) = mapped (with_seen_carry carry) (fact_cut known.carry_fact carry known) way e in
    subst (IsKnown framed) same (seen_form framed carry held (fact_form laws framed known.carry_fact carry known held form.carry_fact form cut)))
    (λ may e. absurd (cc))

-- CONDITIONS

zero_way : (laws : KnownLaws) (framed : Bool) (known : Known) (s : ChipState) (first : Option ChipState) → IsUnder framed known s first
    → Goes framed (place_cut Accumulator (equality_window (s.a == 0) 0) known) s first
zero_way laws framed known s first under = place_way laws framed Accumulator (equality_window (s.a == 0) 0) known s first tt (equality_inside s.a 0 under.holds.state.a (omega arith)) under

pub condition_way : (laws : KnownLaws) (framed : Bool) (known : Known) (s : ChipState) (first : Option ChipState) (condition : Condition)
    → IsUnder framed known s first
    → (way : Known) × (condition_cut condition (holds condition s) known ≡ Some way) × IsUnder framed way s first
unfolding condition_cut
condition_way laws framed known s first Carry under = carry_way laws framed known s first under
condition_way laws framed known s first NoCarry under =
    subst (λ carry. Goes framed (carry_cut carry known) s first) (not_clear (carry_of s) (carry_below s)) (carry_way laws framed known s first under)
condition_way laws framed known s first Zero under = zero_way laws framed known s first under
condition_way laws framed known s first NotZero under =
    subst (λ equal. Goes framed (place_cut Accumulator (equality_window equal 0) known) s first) (sym (twice_not (s.a == 0))) (zero_way laws framed known s first under)
condition_way laws framed known s first Always under = (known, refl, under)

pub condition_way_form : (laws : KnownLaws) (framed : Bool) (known way : Known) (condition : Condition) (taken : Bool)
    → IsKnown framed known
    → condition_cut condition taken known ≡ Some way → IsKnown framed way
unfolding condition_cut
condition_way_form laws framed known way Carry taken form e = carry_form laws framed taken known way form e
condition_way_form laws framed known way NoCarry taken form e = carry_form laws framed (not taken) known way form e
condition_way_form laws framed known way Zero taken form e = place_way_form laws framed Accumulator (equality_window taken 0) known way tt (equality_low taken 0 (omega arith)) form e
condition_way_form laws framed known way NotZero taken form e = place_way_form laws framed Accumulator (equality_window (not taken) 0) known way tt (equality_low (not taken) 0 (omega arith)) form e
condition_way_form laws framed known way Always true form e = subst (IsKnown framed) (same_Some known way e) form
condition_way_form laws framed known way Always false form e = absurd (cc)

-- COMPARISONS

less_is : (x y : ℕ) → not (nat_le y x) ≡ nat_lt x y
less_is x y = elim (cases_Bool (nat_le y x)) [
  | inl is ↦ ap not is ∙ sym (le-ltb x y (leb-true y x is))
  | inr is ↦ ap not is ∙ sym (lt-ltb x y (leb-false y x is))
]

less_bit : (laws : KnownLaws) (x y : ℕ) (first second : Form) → Has 256 first x → Has 256 second y
    → IsBit (is_less first second) (bit_of (nat_lt x y))
unfolding is_less
less_bit laws x y first second has also =
    let reached = agreed 256 (λ a b none. nat_le b a) first second (single 0) in
    let is = laws.bits.flags 256 x y 0 (λ a b none. nat_le b a) first second (single 0) has also (Contains-push [] 0) in
    let less = subst (IsFlag (tri_not reached)) (less_is x y) (laws.bits.flag_not reached (nat_le y x) is) in
    flag_bit (is_less first second) (nat_lt x y) less

operand_way : (laws : KnownLaws) (framed : Bool) (operand : Operand) (known : Known) (s : ChipState) (first : Option ChipState) (x value : ℕ)
    → IsOperand operand → IsNumberOf operand s x → value < 256 → IsUnder framed known s first
    → Goes framed (operand_cut operand (equality_window (x == value) value) known) s first
operand_way laws framed (One place) known s first x value is number small under =
    let v = compared_in place s in
    subst (λ n. Goes framed (place_cut place (equality_window (n == value) value) known) s first) (sym number)
    (place_way laws framed place (equality_window (v == value) value) known s first is (equality_inside v value (compared_below framed place known s first under) small) under)
operand_way laws framed (Several set) known s first x value is has small under =
    let inside = equality_inside x value (laws.sets.below 256 x set is has) small in
    let (part, cut, normal, still) = part_has laws.sets x set (equality_window (x == value) value) is has inside in
    (known, ap (option_map (λ (form : Form). known)) cut, under)

number_has : (laws : KnownLaws) (framed : Bool) (operand : Operand) (known : Known) (s : ChipState) (first : Option ChipState) (x : ℕ)
    → IsOperand operand
    → IsNumberOf operand s x → IsUnder framed known s first
    → Has 256 (numbers_of operand known) x
number_has laws framed (One place) known s first x is number under = subst (Has 256 (set_at place known)) (sym number) (set_has laws framed place known s first is under)
number_has laws framed (Several set) known s first x is has under = has

fact_is : (operand : Operand) (value : ℕ) → IsOperand operand → value < 256 → IsCarry (fact_of operand value)
fact_is (One place) value is small = (is, small)
fact_is (Several set) value is small = tt

fact_told : (operand : Operand) (value x : ℕ) (s : ChipState) → IsNumberOf operand s x
    → HoldsOfCarry (fact_of operand value) (with_carry (bit_of (nat_lt x value)) s)
fact_told (One place) value x s number =
    told_of_place place value (bit_of (nat_lt x value)) s (flag_below (nat_lt x value)) (ap (λ v. bit_of (nat_lt v value)) number)
fact_told (Several set) value x s has = tt

pub comparison_way : (laws : KnownLaws) (framed : Bool) (known : Known) (s : ChipState) (first : Option ChipState) (operand : Operand) (x value : ℕ)
    → IsUnder framed known s first → IsOperand operand → IsNumberOf operand s x → value < 256
    → (way : Known) × (comparison_cut operand value (not (x == value)) known ≡ Some way) × IsUnder framed way (with_carry (bit_of (nat_lt x value)) s) first
unfolding comparison_cut
comparison_way laws framed known s first operand x value under is number small =
    let less = bit_of (nat_lt x value) in
    let carry = is_less (numbers_of operand known) (single value) in
    let written = with_carry_written carry (fact_of operand value) in
    let bit = less_bit laws x value (numbers_of operand known) (single value) (number_has laws framed operand known s first x is number under) (laws.sets.single 256 value small).1 in
    let (way, cut, there) = operand_way laws framed operand known s first x value is number small under in (
      written way,
      ap (λ equal. option_map written (operand_cut operand (equality_window equal value) known)) (twice_not (x == value)) ∙ ap (option_map written) cut,
      written_under framed carry (fact_of operand value) less way s first (flag_below (nat_lt x value)) bit (fact_is operand value is small) (fact_told operand value x s number) there,
    )

operand_form : (laws : KnownLaws) (framed : Bool) (operand : Operand) (window : Window) (known way : Known)
    → IsOperand operand → window.low < 256
    → IsKnown framed known → operand_cut operand window known ≡ Some way → IsKnown framed way
operand_form laws framed (One place) window known way is low form e = place_way_form laws framed place window known way is low form e
operand_form laws framed (Several set) window known way is low form e =
    let (part, cut, same) = mapped (λ (part : Form). known) (cut_to window set) way e in subst (IsKnown framed) same form

pub comparison_way_form : (laws : KnownLaws) (framed : Bool) (known way : Known) (operand : Operand) (value : ℕ) (taken : Bool)
    → IsKnown framed known
    → IsOperand operand → value < 256
    → comparison_cut operand value taken known ≡ Some way → IsKnown framed way
unfolding comparison_cut
comparison_way_form laws framed known way operand value taken form is small e =
    let carry = is_less (numbers_of operand known) (single value) in
    let window = equality_window (not taken) value in
    let (held, cut, same) = mapped (with_carry_written carry (fact_of operand value)) (operand_cut operand window known) way e in
    subst (IsKnown framed) same
    (written_form framed carry (fact_of operand value) held (fact_is operand value is small) (operand_form laws framed operand window known held is (equality_low (not taken) value small) form cut))

pub byte_way : (laws : KnownLaws) (framed : Bool) (known : Known) (s : ChipState) (first : Option ChipState) (set : Form) (x : ℕ)
    → IsUnder framed known s first → Has 256 set x
    → IsUnder framed (compared_with set known) (with_carry (bit_of (nat_lt s.a x)) s) first
unfolding compared_with
byte_way laws framed known s first set x under has =
    written_under framed (is_less known.a.set set) None (bit_of (nat_lt s.a x)) known s first (flag_below (nat_lt s.a x)) (less_bit laws s.a x known.a.set set under.holds.parts.a.0 has) tt tt under

-- LOWERED BYTES

lowered_normal : (laws : KnownLaws) (set : Form) → IsNormal 256 set → IsNormal 256 (sub 256 set (single 1))
lowered_normal laws set normal = laws.sets.sub_normal 256 set (single 1) normal (laws.sets.single 256 1 (omega arith)).0

pub lowered_way : (laws : KnownLaws) (set : Form) (x : ℕ) → IsNormal 256 set → Has 256 set x
    → (part : Form) × (lowered_cut (not ((x + 255) % 256 == 0)) set ≡ Some part) × IsNormal 256 part × Has 256 part ((x + 255) % 256)
unfolding lowered_cut
lowered_way laws set x normal has =
    let v = (x + 255) % 256 in
    let low = sub 256 set (single 1) in
    let one = laws.sets.single 256 1 (omega arith) in
    let low_has : Has 256 low v = subst (Has 256 low) (omega arith) (laws.sets.sub 256 x 1 set (single 1) normal one.0 has one.1) in
    let inside = equality_inside v 0 (omega arith) (omega arith) in
    let (part, cut, part_normal_so, part_has_so) = part_has laws.sets v low (equality_window (v == 0) 0) (lowered_normal laws set normal) low_has inside in
    (part, ap (λ equal. cut_to (equality_window equal 0) low) (twice_not (v == 0)) ∙ cut, part_normal_so, part_has_so)

pub lowered_form : (laws : KnownLaws) (set part : Form) (taken : Bool) → IsNormal 256 set
    → lowered_cut taken set ≡ Some part → IsNormal 256 part
unfolding lowered_cut
lowered_form laws set part taken normal e =
    part_normal laws.sets (sub 256 set (single 1)) part (equality_window (not taken) 0) (lowered_normal laws set normal) (equality_low (not taken) 0 (omega arith)) e
