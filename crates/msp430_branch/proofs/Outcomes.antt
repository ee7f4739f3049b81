-- What is known on an outcome of a jump holds of a state with that outcome, and is in form.
use Rattle.std.proofs.Common.{◌≡◌, ℕ, ◌+◌, ◌-◌, ◌%◌, ◌<◌, not, nat_lt, Bool, true, Option, None, Some, List, length, get_or, set, refl, sym, ap, ◌∙◌, subst, inl, inr, arith, get_or-set_same, get_or-set_other}
use Rattle.std.proofs.lemmas.Bool.Decides.{nat_tests}
use Rattle.std.specs.Option.{option_map}
use Rattle.std.proofs.lemmas.Bool.{cases_Bool, cases_eq, cond_both, cond-true, cond-false}
use Rattle.std.proofs.lemmas.List.{length-set}
use Rattle.std.proofs.lemmas.List.Elements.{All-get_or, All-set}
use Rattle.std.proofs.lemmas.Option.{same_Some}
use Rattle.entry_value.specs.declared.word.Word.{Word as AWord}
use Rattle.entry_value.specs.Cells.{unknown}
use Rattle.entry_value.specs.Words.{HoldsOfWord}
use Rattle.value_set.specs.declared.form.Form.{Form}
use Rattle.value_set.specs.Form.{Has, IsNormal}
use Rattle.value_bits.specs.declared.tri.Tri.{Tri}
use Rattle.value_bits.specs.declared.tri.Tri.TheVariants.{Either}
use Rattle.msp430_decode.specs.declared.instr.Condition.TheVariants.{NotEqual, Equal, NoCarry, Carry, Negative, GreaterOrEqual, Less, Always}
use Rattle.value_bits.specs.Bits.{Agrees, known_flag, may_be, tri_xor}
use Rattle.value_bits.specs.Flags.{IsFlag}
use Rattle.msp430_decode.specs.declared.instr.Condition.{Condition}
use Rattle.msp430_decode.specs.declared.instr.Width.{Width}
use Rattle.msp430_decode.specs.declared.instr.Width.TheVariants.{Byte}
use Rattle.msp430_chip.specs.declared.device.Device.{Device}
use Rattle.msp430_chip.specs.declared.state.ChipState.{ChipState}
use Rattle.msp430_chip.specs.Arithmetic.{modulus}
use Rattle.msp430_chip.specs.Step.{is_taken}
use Rattle.msp430_state.specs.declared.fact.FlagFact.{FlagFact}
use Rattle.msp430_state.specs.Forms.{IsFact, IsKnown, IsWord}
use Rattle.msp430_state.specs.Holding.{suspended_of, HasFlagsOf, HoldsOfFact, HoldsOfParts, HoldsOfStatus, HoldsOf}
use Rattle.msp430_state.specs.Known.{Known, word_of}
use Rattle.msp430_branch.specs.declared.window.Window.{Window}
use Rattle.msp430_branch.specs.Conditions.{bit_of, bits_where, known_or, taken_by, with_less}
use Rattle.msp430_branch.specs.Cuts.{window_of, cut_set, is_held, with_set, cut_to, register_cut, with_bits, known_cut}
use Rattle.irq_frames.specs.KnownLaws.{KnownLaws}
use Rattle.msp430_branch.proofs.CutSets.{cut_form, cut_has, window_low, IsLow}
use Rattle.plain_lemmas.specs.Cases.{mapped}
use Rattle.std.proofs.Math.Nat.{mod-lt}
use Rattle.msp430_branch.proofs.FlagNumbers.{compared_so, modulus_some, narrow}
use Rattle.msp430_branch.proofs.StatusBits.{bits_agree, bits_long, taken_may}
use Rattle.msp430_branch.proofs.WindowLemmas.{Allows, allows}

-- ONE REGISTER

with_set_holds : {device : Device} {a : Known} {first : Option ChipState} {registers ram : List ℕ} (register : ℕ) (set_so : Form)
    → length a.registers ≡ 12 → 3 < register
    → register < 16
    → Has 65536 set_so (get_or registers register 0) → HoldsOfParts device a first registers ram
    → HoldsOfParts device (with_set a register set_so) first registers ram
with_set_holds {a} {first} {registers} register set_so long low high has holds =
    let under = option_map suspended_of first in
    let word : AWord = record { set = set_so; entry = (word_of a register).entry } in
    let place : register - 4 < length a.registers = omega (arith, long, low, high) in
    record {
      sp = holds.sp;
      status = holds.status;
      words = λ r above below. elim (cases_eq r register) [
        | inl same ↦ subst (λ n. HoldsOfWord under (get_or (set a.registers (register - 4) word) (n - 4) (unknown 2)) (get_or registers n 0)) (sym same)
            (subst (λ held. HoldsOfWord under held (get_or registers register 0)) (sym (get_or-set_same a.registers (register - 4) word (unknown 2) place))
            (has, (holds.words register low high).1))
        | inr other ↦
            let elsewhere : r - 4 ≡ register - 4 → ⊥ = λ e. other (omega (arith, e, above, low)) in
            subst (λ held. HoldsOfWord under held (get_or registers r 0)) (sym (get_or-set_other a.registers (register - 4) (r - 4) word (unknown 2) elsewhere))
            (holds.words r above below)
      ];
      fact = holds.fact;
      cells = holds.cells;
      untouched = holds.untouched;
    }

word_form : {lo hi : ℕ} {framed : Bool} {a : Known} (register : ℕ) → IsKnown lo hi framed a → 3 < register
    → register < 16 → IsWord framed (word_of a register)
word_form {framed} {a} register form low high = All-get_or (IsWord framed) a.registers (register - 4) (unknown 2) (omega (arith, form.count, low, high)) form.registers

pub set_holds : (device : Device) (lo hi : ℕ) (framed : Bool) (a : Known) (s : ChipState) (first : Option ChipState) (register : ℕ) (set_so : Form)
    → IsKnown lo hi framed a
    → 3 < register → register < 16 → Has 65536 set_so (get_or s.registers register 0)
    → HoldsOf device a s first → HoldsOf device (with_set a register set_so) s first
set_holds device lo hi framed a s first register set_so form low high has holds = record {
  state = holds.state;
  suspended = holds.suspended;
  late = holds.late;
  parts = with_set_holds register set_so form.count low high has holds.parts;
}

with_set_form : {lo hi : ℕ} {framed : Bool} {a : Known} (register : ℕ) (set_so : Form) → 3 < register → register < 16
    → IsNormal 65536 set_so → IsKnown lo hi framed a
    → IsKnown lo hi framed (with_set a register set_so)
with_set_form {framed} {a} register set_so low high normal form =
    let word : AWord = record { set = set_so; entry = (word_of a register).entry } in
    let count = length-set a.registers (register - 4) word ∙ form.count in
    let registers = All-set (IsWord framed) a.registers (register - 4) word (record { normal = normal; entry = (word_form register form low high).entry }) form.registers in
    assumption (count, registers, form)

pub set_form : (lo hi : ℕ) (framed : Bool) (a : Known) (register : ℕ) (set_so : Form) → IsKnown lo hi framed a
    → 3 < register → register < 16
    → IsNormal 65536 set_so → IsKnown lo hi framed (with_set a register set_so)
set_form lo hi framed a register set_so form low high normal = with_set_form register set_so low high normal form

-- BITS

with_bits_holds : {device : Device} {a : Known} {first : Option ChipState} {registers ram : List ℕ} (bits : List Tri)
    → Agrees bits (get_or registers 2 0)
    → HoldsOfParts device a first registers ram → HoldsOfParts device (with_bits bits a) first registers ram
with_bits_holds {a} {first} {registers} bits agrees holds =
    let status : HoldsOfStatus (option_map suspended_of first) (record a.status { bits = bits }) (get_or registers 2 0) = record { bits = agrees; entry = holds.status.entry } in
    assumption (status, holds)

with_bits_form : {lo hi : ℕ} {framed : Bool} {a : Known} (bits : List Tri) → length bits ≡ 9 → IsKnown lo hi framed a
    → IsKnown lo hi framed (with_bits bits a)
with_bits_form bits long form = assumption (long, form)

-- THE REGISTER OF A FACT

allowed : (condition : Condition) (width : Width) (register k n v sr : ℕ) → k < modulus width → n < modulus width
    → v < 65536 → HasFlagsOf width ((v + k) % modulus width) n sr
    → (width ≡ Byte → v < 256)
    → Allows (modulus width) v (window_of condition (is_taken condition sr) (record { register = register; added = k; compared = n; width = width }))
allowed condition width register k n v sr ks ns vs flags small =
    allows condition (record { register = register; added = k; compared = n; width = width }) v ks ns (narrow width v vs small)
    (compared_so width ((v + k) % modulus width) n sr (mod-lt (v + k) {m = modulus width} (modulus_some width)) ns flags)

held_so : (a : Known) (register : ℕ) → length a.registers ≡ 12 → 3 < register → register < 16 → is_held a register ≡ true
held_so a register long low high = subst (λ n. nat_lt (register - 4) n ≡ true) (sym long) (grind (arith, nat_tests))

cut_to_holds : (laws : KnownLaws) {device : Device} {lo hi : ℕ} {framed : Bool} {a : Known} {first : Option ChipState} {registers ram : List ℕ} (fact : FlagFact)
    (window : Option Window) → IsKnown lo hi framed a
    → 3 < fact.register → fact.register < 16 → (fact.width ≡ Byte → get_or registers fact.register 0 < 256)
    → Allows (modulus fact.width) (get_or registers fact.register 0) window
    → HoldsOfParts device a first registers ram → (b : Known) × (cut_to fact window a ≡ Some b) × HoldsOfParts device b first registers ram
cut_to_holds laws {a} fact None form low high small allows holds = (a, refl, holds)
cut_to_holds laws {a} fact (Some window) form low high small allows holds =
    let found = cut_has laws fact.width (word_of a fact.register).set (word_form fact.register form low high).normal
    (holds.words fact.register low high).0 small allows in
    let held = cond-true (is_held a fact.register) (option_map (with_set a fact.register) (cut_set fact.width (word_of a fact.register).set window)) (Some a)
    (held_so a fact.register form.count low high) in
    (with_set a fact.register found.0, held ∙ ap (option_map (with_set a fact.register)) found.1, with_set_holds fact.register found.0 form.count low high found.2 holds)

register_cut_holds : (laws : KnownLaws) {device : Device} {lo hi : ℕ} {framed : Bool} {a : Known} {first : Option ChipState} {registers ram : List ℕ} (fact : Option FlagFact)
    (condition : Condition) → IsKnown lo hi framed a
    → IsFact fact → HoldsOfFact fact registers → HoldsOfParts device a first registers ram
    → (b : Known) × (register_cut fact condition (is_taken condition (get_or registers 2 0)) a ≡ Some b) × HoldsOfParts device b first registers ram
register_cut_holds laws {a} None condition form is told holds = (a, refl, holds)
register_cut_holds laws {a} {registers} (Some fact) condition form is told holds =
    let (low, high, ks, ns) = is in
    let v = get_or registers fact.register 0 in
    let sr = get_or registers 2 0 in
    let vs : v < 65536 = laws.sets.below 65536 v (word_of a fact.register).set (word_form fact.register form low high).normal (holds.words fact.register low high).0 in
    cut_to_holds laws fact (window_of condition (is_taken condition sr) fact) form low high told.1
    (allowed condition fact.width fact.register fact.added fact.compared v sr ks ns vs told.0 told.1) holds

cut_to_form : (laws : KnownLaws) {lo hi : ℕ} {framed : Bool} {a : Known} (b : Known) (fact : FlagFact) (window : Option Window)
    → IsKnown lo hi framed a → 3 < fact.register
    → fact.register < 16
    → IsLow (modulus fact.width) window → cut_to fact window a ≡ Some b → IsKnown lo hi framed b
cut_to_form laws {lo} {hi} {framed} {a} b fact None form low high begins e = subst (IsKnown lo hi framed) (same_Some a b e) form
cut_to_form laws {lo} {hi} {framed} {a} b fact (Some window) form low high begins e =
    let held = word_of a fact.register in
    let some = option_map (with_set a fact.register) (cut_set fact.width held.set window) in
    let found = mapped (with_set a fact.register) (cut_set fact.width held.set window) b
    (sym (cond-true (is_held a fact.register) some (Some a) (held_so a fact.register form.count low high)) ∙ e) in
    let normal = cut_form laws fact.width held.set found.0 window (word_form fact.register form low high).normal begins found.1 in
    subst (IsKnown lo hi framed) found.2 (with_set_form fact.register found.0 low high normal form)

register_cut_form : (laws : KnownLaws) {lo hi : ℕ} {framed : Bool} {a : Known} (b : Known) (fact : Option FlagFact) (condition : Condition) (taken : Bool)
    → IsKnown lo hi framed a → IsFact fact
    → register_cut fact condition taken a ≡ Some b → IsKnown lo hi framed b
register_cut_form laws {lo} {hi} {framed} {a} b None condition taken form is e = subst (IsKnown lo hi framed) (same_Some a b e) form
register_cut_form laws b (Some fact) condition taken form is e =
    cut_to_form laws b fact (window_of condition taken fact) form is.0 is.1 (window_low condition taken fact) e

-- OUTCOMES

pub cut_holds : (laws : KnownLaws) (device : Device) (lo hi : ℕ) (framed : Bool) (a : Known) (first : Option ChipState) (registers ram : List ℕ) (condition : Condition)
    → IsKnown lo hi framed a
    → HoldsOfParts device a first registers ram
    → (b : Known) × (known_cut condition (is_taken condition (get_or registers 2 0)) a ≡ Some b) × HoldsOfParts device b first registers ram
unfolding known_cut
cut_holds laws device lo hi framed a first registers ram condition form holds =
    let sr = get_or registers 2 0 in
    let taken = is_taken condition sr in
    let bits = bits_where condition taken a.status.bits in
    let found = register_cut_holds laws a.fact condition form form.fact holds.fact holds in
    let may : may_be (taken_by condition a.status.bits) taken ≡ true = taken_may condition a.status.bits sr holds.status.bits in (
      with_bits bits found.0,
      cond-true (may_be (taken_by condition a.status.bits) taken) (option_map (with_bits bits) (register_cut a.fact condition taken a)) None may
          ∙ ap (option_map (with_bits bits)) found.1,
      with_bits_holds bits (bits_agree condition a.status.bits sr form.bits holds.status.bits) found.2,
    )

late_of_cut : (fact : FlagFact) (window : Option Window) (a b : Known) → cut_to fact window a ≡ Some b → b.late ≡ a.late
late_of_cut fact None a b e = ap (λ (known : Known). known.late) (sym (same_Some a b e))
late_of_cut fact (Some window) a b e =
    let set = cut_set fact.width (word_of a fact.register).set window in
    cond_both (is_held a fact.register) (option_map (with_set a fact.register) set) (Some a) (λ (o : Option Known). o ≡ Some b → b.late ≡ a.late)
    (λ _ some. let found = mapped (with_set a fact.register) set b some in ap (λ (known : Known). known.late) (sym found.2))
    (λ _ some. ap (λ (known : Known). known.late) (sym (same_Some a b some))) e

late_of_register : (fact : Option FlagFact) (condition : Condition) (taken : Bool) (a b : Known)
    → register_cut fact condition taken a ≡ Some b → b.late ≡ a.late
late_of_register None condition taken a b e = ap (λ (known : Known). known.late) (sym (same_Some a b e))
late_of_register (Some fact) condition taken a b e = late_of_cut fact (window_of condition taken fact) a b e

-- where there is an outcome, it is that of the register and of the bits
outcome_of : (condition : Condition) (taken : Bool) (a b : Known) → known_cut condition taken a ≡ Some b
    → (c : Known) × (register_cut a.fact condition taken a ≡ Some c) × (with_bits (bits_where condition taken a.status.bits) c ≡ b)
unfolding known_cut
outcome_of condition taken a b e =
    let bits = bits_where condition taken a.status.bits in
    let test = may_be (taken_by condition a.status.bits) taken in
    let some = option_map (with_bits bits) (register_cut a.fact condition taken a) in
    elim (cases_Bool test) [
      | inl may ↦ mapped (with_bits bits) (register_cut a.fact condition taken a) b (sym (cond-true test some None may) ∙ e)
      | inr not_so ↦ let none : None ≡ Some b = sym (cond-false test some None not_so) ∙ e in absurd (cc)
    ]

pub state_cut : (laws : KnownLaws) (device : Device) (lo hi : ℕ) (framed : Bool) (a : Known) (s : ChipState) (first : Option ChipState) (condition : Condition)
    → IsKnown lo hi framed a
    → HoldsOf device a s first
    → (b : Known) × (known_cut condition (is_taken condition (get_or s.registers 2 0)) a ≡ Some b) × HoldsOf device b s first
state_cut laws device lo hi framed a s first condition form holds =
    let taken = is_taken condition (get_or s.registers 2 0) in
    let (b, is, parts) = cut_holds laws device lo hi framed a first s.registers s.ram condition form holds.parts in
    let (c, cut_so, with_so) = outcome_of condition taken a b is in
    let late : a.late ≡ b.late = sym (late_of_register a.fact condition taken a c cut_so) ∙ ap (λ (known : Known). known.late) with_so in
    (b, is, record { state = holds.state; suspended = holds.suspended; late = subst (λ t. IsFlag t s.late) late holds.late; parts = parts })

pub cut_in_form : (laws : KnownLaws) (lo hi : ℕ) (framed : Bool) (a b : Known) (condition : Condition) (taken : Bool)
    → IsKnown lo hi framed a
    → known_cut condition taken a ≡ Some b → IsKnown lo hi framed b
cut_in_form laws lo hi framed a b condition taken form e =
    let (c, cut_so, with_so) = outcome_of condition taken a b e in
    subst (IsKnown lo hi framed) with_so (with_bits_form (bits_where condition taken a.status.bits) (bits_long condition taken a.status.bits form.bits)
    (register_cut_form laws c a.fact condition taken form form.fact cut_so))

-- GIE

set_gie : (bits : List Tri) (place : ℕ) (bit : Tri) → (3 ≡ place → ⊥) → bit_of (set bits place bit) 3 ≡ bit_of bits 3
set_gie bits place bit other = get_or-set_other bits place 3 bit Either other

less_gie : (bits : List Tri) (less : Tri) → bit_of (with_less bits less) 3 ≡ bit_of bits 3
less_gie bits less =
    set_gie (set bits 2 (known_or (bit_of bits 2) (tri_xor (bit_of bits 8) less))) 8 (known_or (bit_of bits 8) (tri_xor (bit_of bits 2) less)) (λ e. omega arith)
    ∙ set_gie bits 2 (known_or (bit_of bits 2) (tri_xor (bit_of bits 8) less)) (λ e. omega arith)

-- no condition makes GIE known
bits_gie : (condition : Condition) (taken : Bool) (bits : List Tri) → bit_of (bits_where condition taken bits) 3 ≡ bit_of bits 3
bits_gie NotEqual taken bits = set_gie bits 1 (known_flag (not taken)) (λ e. omega arith)
bits_gie Equal taken bits = set_gie bits 1 (known_flag taken) (λ e. omega arith)
bits_gie NoCarry taken bits = set_gie bits 0 (known_flag (not taken)) (λ e. omega arith)
bits_gie Carry taken bits = set_gie bits 0 (known_flag taken) (λ e. omega arith)
bits_gie Negative taken bits = set_gie bits 2 (known_flag taken) (λ e. omega arith)
bits_gie GreaterOrEqual taken bits = less_gie bits (known_flag (not taken))
bits_gie Less taken bits = less_gie bits (known_flag taken)
bits_gie Always taken bits = refl

-- the bit of GIE and `late` are as before
pub cut_interrupts : (a b : Known) (condition : Condition) (taken : Bool) → known_cut condition taken a ≡ Some b
    → (bit_of b.status.bits 3 ≡ bit_of a.status.bits 3) × (b.late ≡ a.late)
cut_interrupts a b condition taken e =
    let (c, cut_so, is) = outcome_of condition taken a b e in (
      ap (λ (known : Known). bit_of known.status.bits 3) (sym is) ∙ bits_gie condition taken a.status.bits,
      ap (λ (known : Known). known.late) (sym is) ∙ late_of_register a.fact condition taken a c cut_so,
    )
