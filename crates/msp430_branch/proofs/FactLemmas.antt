-- The fact behind CMP and SUB with a constant holds of the registers that they leave.
use Rattle.std.proofs.Common.{◌≡◌, Bool, ℕ, ◌+◌, ◌*◌, ◌%◌, ◌<◌, true, false, Option, None, Some, List, length, get_or, set, refl, sym, ap, ◌∙◌, subst, inl, inr, arith, get_or-set_same, get_or-set_other}
use Rattle.std.specs.Prelude.{◌⊎◌}
use Rattle.std.proofs.Math.Nat.{mod-lt}
use Rattle.std.proofs.lemmas.Bool.{and_right, cond_both, cond-false, false≢true}
use Rattle.std.proofs.lemmas.List.{length-set}
use Rattle.std.proofs.lemmas.Option.{same_Some}
use Rattle.msp430_decode.specs.declared.instr.Destination.{Destination}
use Rattle.msp430_decode.specs.declared.instr.Destination.TheVariants as destination
use Rattle.msp430_decode.specs.declared.instr.Operation.{Operation}
use Rattle.msp430_decode.specs.declared.instr.Operation.TheVariants as operation
use Rattle.msp430_decode.specs.declared.instr.Register.{Register}
use Rattle.msp430_decode.specs.declared.instr.Register.TheVariants.{Pc, Sp, Sr, R3}
use Rattle.msp430_decode.specs.declared.instr.Source.{Source}
use Rattle.msp430_decode.specs.declared.instr.Source.TheVariants as source
use Rattle.msp430_decode.specs.declared.instr.Width.{Width}
use Rattle.msp430_decode.specs.declared.instr.Width.TheVariants.{Word, Byte}
use Rattle.msp430_decode.specs.Codes.{number}
use Rattle.msp430_decode.specs.Operands.{constant_value}
use Rattle.msp430_chip.specs.declared.device.Device.{Device}
use Rattle.msp430_chip.specs.declared.place.Place.TheVariants.{InRegister, Fixed}
use Rattle.msp430_chip.specs.declared.state.ChipState.{ChipState}
use Rattle.msp430_chip.specs.Arithmetic.{Made, complement, modulus, reads_destination, sum, with_made_flags}
use Rattle.msp430_chip.specs.Kinds.{Kind, IsGeneral}
use Rattle.msp430_chip.specs.Laws.{PlaceLaws}
use Rattle.msp430_chip.specs.Kinds.Kind.{Counter, Stack, Status, Empty, General}
use Rattle.msp430_chip.specs.Leading.{MayDouble, MayLeaveDouble, MayStandIf}
use Rattle.msp430_chip.specs.Leading.MayLeaveDouble.{FreeStatus, OfResult}
use Rattle.msp430_chip.specs.Operands.{destination_place, is_status, value_in, with_free_bits}
use Rattle.msp430_chip.specs.Outcome.{Outcome}
use Rattle.msp430_chip.specs.State.{IsChipState, register_of}
use Rattle.msp430_chip.specs.Step.{Left, behind, put_if}
use Rattle.msp430_state.specs.Forms.{IsFact}
use Rattle.msp430_state.specs.Holding.{HasFlagsOf, HoldsOfFact, HoldsOfParts}
use Rattle.msp430_state.specs.Known.{Known, word_of}
use Rattle.msp430_branch.specs.Facts.{compared_register, constant_of, fact_behind, fact_of, general_number, is_told}
use Rattle.irq_frames.specs.KnownLaws.{KnownLaws}
use Rattle.msp430_branch.proofs.FlagNumbers.{compared, compared_flags, flags_again, modulus_some}

-- FLAGS THAT STAND

flags_stay : (width : Width) (x n sr : ℕ) → HasFlagsOf width x n (with_made_flags sr (sum width x (complement width n) 1).1)
flags_stay width x n sr =
    subst (λ flags. with_made_flags (with_made_flags sr flags) flags ≡ with_made_flags sr flags) (sym (compared width x n)) (flags_again (compared_flags width x n) sr)

difference_back : (width : Width) (x n : ℕ) → x < modulus width → n < modulus width
    → ((sum width x (complement width n) 1).0 + n) % modulus width ≡ x
unfolding sum
difference_back Word x n xs ns = omega (arith, xs, ns)
difference_back Byte x n xs ns = omega (arith, xs, ns)

-- WHAT CMP AND SUB LEAVE

-- registers behind an instruction that set the flags of a result
abbrev flagged : List ℕ → Made → List ℕ
flagged registers made_so = set registers 2 (with_made_flags (get_or registers 2 0) made_so.1)

-- an instruction leads so to what its flags say of a register and a constant
abbrev pub Compares : Device → Operation → (added : ℕ → ℕ) → Type 0
Compares device done added =
    (registers ram : List ℕ) (width : Width) (register : Register) (k d carry : ℕ) (left : Left) → IsGeneral register → length registers ≡ 16 → k < modulus width
    → d ≡ get_or registers (number register) 0 % modulus width
    → MayLeaveDouble device ram registers done width (InRegister register) k d carry left
    → HasFlagsOf width ((get_or left.registers (number register) 0 + added k) % modulus width) k (get_or left.registers 2 0)

-- of registers with the flags of a comparison
flags_of_left : (width : Width) (registers : List ℕ) (register k d value : ℕ) → 2 < length registers → 3 < register → value ≡ d
    → HasFlagsOf width value k (get_or (flagged registers (sum width d (complement width k) 1)) 2 0)
flags_of_left width registers register k d value long low same =
    let sr = with_made_flags (get_or registers 2 0) (sum width d (complement width k) 1).1 in
    subst (λ x. HasFlagsOf width x k (get_or (set registers 2 sr) 2 0)) (sym same)
    (subst (HasFlagsOf width d k) (sym (get_or-set_same registers 2 sr 0 long)) (flags_stay width d k (get_or registers 2 0)))

kept_beside : (registers : List ℕ) (register sr : ℕ) → 3 < register → get_or (set registers 2 sr) register 0 ≡ get_or registers register 0
kept_beside registers register sr low = get_or-set_other registers 2 register sr 0 (λ e. omega (arith, e, low))

pub cmp_compares : (device : Device) → Compares device operation.Cmp (λ n. 0)
cmp_compares device registers ram width register k d carry left general long small is (FreeStatus free leaves) =
    absurd (false≢true (sym (and_right true (is_status (InRegister register)) general.no_status) ∙ free))
cmp_compares device registers ram width register k d carry left general long small is (OfResult set_so made_so may left_is) =
    let result = sum width d (complement width k) 1 in
    let r = number register in
    let sr = with_made_flags (get_or registers 2 0) result.1 in
    let made_is : left.registers ≡ flagged registers result = ap (λ (some : Left). some.registers) left_is ∙ ap (λ (made_by : Made). flagged registers made_by)
    (sym (same_Some result made_so may)) in
    let value : (get_or (flagged registers result) r 0 + 0) % modulus width ≡ d = ap (λ n. n % modulus width) (omega arith ∙ kept_beside registers r sr general.above) ∙ sym is in
    subst (λ list. HasFlagsOf width ((get_or list r 0 + 0) % modulus width) k (get_or list 2 0)) (sym made_is)
    (flags_of_left width registers r k d ((get_or (flagged registers result) r 0 + 0) % modulus width) (omega (arith, long)) general.above value)

pub sub_compares : (device : Device) → Compares device operation.Sub (λ n. n)
sub_compares device registers ram width register k d carry left general long small is (FreeStatus free leaves) =
    absurd (false≢true (sym (and_right true (is_status (InRegister register)) general.no_status) ∙ free))
sub_compares device registers ram width register k d carry left general long small is (OfResult set_so made_so may left_is) =
    let result = sum width d (complement width k) 1 in
    let r = number register in
    let put = set registers r result.0 in
    let sr = with_made_flags (get_or put 2 0) result.1 in
    let inside : r < length registers = omega (arith, long, general.below) in
    let put_long : 2 < length put = omega (arith, long, length-set registers r result.0) in
    let made_is : left.registers ≡ flagged put result =
    ap (λ (some : Left). some.registers) left_is ∙
    (ap (λ (made_by : Made). flagged (put_if true device registers ram width (InRegister register) made_by.0).registers made_by) (sym (same_Some result made_so may))
    ∙ ap (λ list. flagged list result) (general.set registers result.0)) in
    let below : d < modulus width = subst (λ n. n < modulus width) (sym is) (mod-lt (get_or registers r 0) {m = modulus width} (modulus_some width)) in
    let value : (get_or (flagged put result) r 0 + k) % modulus width ≡ d =
    ap (λ n. (n + k) % modulus width) (kept_beside put r sr general.above ∙ get_or-set_same registers r result.0 0 inside) ∙ difference_back width d k below small in
    subst (λ list. HasFlagsOf width ((get_or list r 0 + k) % modulus width) k (get_or list 2 0)) (sym made_is)
    (flags_of_left width put r k d ((get_or (flagged put result) r 0 + k) % modulus width) put_long general.above value)

-- FACTS

told_byte : (laws : KnownLaws) {device : Device} {a : Known} {first : Option ChipState} {registers ram : List ℕ} (width : Width) (register : ℕ)
    → 3 < register → register < 16
    → is_told width (word_of a register).set ≡ true → HoldsOfParts device a first registers ram → width ≡ Byte
    → get_or registers register 0 < 256
told_byte laws Word register low high told holds byte = absurd (cc)
told_byte laws {a} {registers} Byte register low high told holds byte =
    laws.cells.byte_any (get_or registers register 0) ((laws.sets.tested 65536 (word_of a register).set _).0 told (get_or registers register 0) (holds.words register low high).0)

-- a general register has its number, and others have none
numbered : (register : Register) → 3 < number register → general_number register ≡ Some (number register)
numbered Pc low = absurd (omega (arith, low))
numbered Sp low = absurd (omega (arith, low))
numbered Sr low = absurd (omega (arith, low))
numbered R3 low = absurd (omega (arith, low))
numbered other low = refl

general_or : {register : Register} → Kind register → (general_number register ≡ None) ⊎ IsGeneral register
general_or (Counter e) = inl (ap general_number e)
general_or (Stack e) = inl (ap general_number e)
general_or (Status e) = inl (ap general_number e)
general_or (Empty e) = inl (ap general_number e)
general_or (General general) = inr general

no_free_constant : (width : Width) (n bits x : ℕ) → with_free_bits width (Fixed n) bits x ≡ x
no_free_constant Word n bits x = refl
no_free_constant Byte n bits x = refl

no_free_register : (width : Width) (register : Register) (bits y : ℕ) → is_status (InRegister register) ≡ false
    → with_free_bits width (InRegister register) bits y ≡ y
no_free_register Word register bits y none = cond-false (is_status (InRegister register)) (y + 512 * bits) y none
no_free_register Byte register bits y none = refl

-- with a constant and a register
register_told : (laws : KnownLaws) {device : Device} {a : Known} {s : ChipState} {first : Option ChipState} (len counted : ℕ) {done : Operation} (added : ℕ → ℕ) {width : Width}
    (n : ℕ) {register : Register} (x y bits : ℕ) {carry : ℕ} {left : Left}
    → IsChipState device s → Compares device done added → IsGeneral register → x ≡ n % modulus width
    → y ≡ value_in (set s.registers 0 counted) register % modulus width
    → MayLeaveDouble device s.ram (set (set s.registers 0 counted) 0 (behind s len)) done width (InRegister register) (with_free_bits width (Fixed n) bits x)
    (with_free_bits width (InRegister register) bits y) carry left
    → HoldsOfParts device a first left.registers left.ram
    → HoldsOfFact (fact_of a width (Some n) (Some (number register)) added) left.registers
register_told laws {device} {a} {s} len counted {done} added {width} n {register} x y bits {carry} {left} state compares general reads held leaves holds =
    let r = number register in
    let k = n % modulus width in
    let at = set s.registers 0 counted in
    let registers = set at 0 (behind s len) in
    let long : length registers ≡ 16 = length-set at 0 (behind s len) ∙ (length-set s.registers 0 counted ∙ state.registers) in
    let same : y ≡ get_or registers r 0 % modulus width =
    held ∙ ap (λ v. v % modulus width) (sym (get_or-set_other at 0 r (behind s len) 0 (λ e. let above = general.above in omega (arith, e, above)))) in
    let first_so : with_free_bits width (Fixed n) bits x ≡ k = no_free_constant width n bits x ∙ reads in
    let second_so : with_free_bits width (InRegister register) bits y ≡ y = no_free_register width register bits y general.no_status in
    let leaves_so : MayLeaveDouble device s.ram registers done width (InRegister register) k y carry left =
    subst (λ d. MayLeaveDouble device s.ram registers done width (InRegister register) k d carry left) second_so
    (subst (λ c. MayLeaveDouble device s.ram registers done width (InRegister register) c (with_free_bits width (InRegister register) bits y) carry left) first_so leaves) in
    let flags = compares registers s.ram width register k y carry left general long (mod-lt n {m = modulus width} (modulus_some width)) same leaves_so in
    cond_both (is_told width (word_of a r).set) (Some (record { register = r; added = added k; compared = k; width = width })) None (λ fact. HoldsOfFact fact left.registers)
    (λ told. (flags, told_byte laws width r general.above general.below told holds))
    (λ e. tt)

constant_told : (laws : KnownLaws) → PlaceLaws
    → {device : Device} {a : Known} {s : ChipState} {first : Option ChipState} (len counted : ℕ) {done : Operation} (added : ℕ → ℕ) {width : Width} (n : ℕ) (target : Destination)
    (x y bits : ℕ) {carry : ℕ} {left : Left}
    → IsChipState device s → Compares device done added → reads_destination done ≡ true → x ≡ n % modulus width
    → MayStandIf (reads_destination done) device s.ram (set s.registers 0 counted) width (destination_place (register_of s 0) len (set s.registers 0 counted) target) y
    → MayLeaveDouble device s.ram (set (set s.registers 0 counted) 0 (behind s len)) done width (destination_place (register_of s 0) len (set s.registers 0 counted) target)
    (with_free_bits width (Fixed n) bits x) (with_free_bits width (destination_place (register_of s 0) len (set s.registers 0 counted) target) bits y) carry left
    → HoldsOfParts device a first left.registers left.ram
    → HoldsOfFact (fact_of a width (Some n) (compared_register target) added) left.registers
constant_told laws places {device} {a} {s} len counted added {width} n (destination.Register register) x y bits {left} state compares both reads held leaves holds =
    let Stands : Bool → Type 0 = λ r. MayStandIf r device s.ram (set s.registers 0 counted) width (InRegister register) y in
    elim (general_or (places.kinds register)) [
      | inl none ↦ subst (λ named. HoldsOfFact (fact_of a width (Some n) named added) left.registers) (sym none) tt
      | inr general ↦ subst (λ named. HoldsOfFact (fact_of a width (Some n) named added) left.registers) (sym (numbered register general.above))
          (register_told laws len counted added n x y bits state compares general reads (subst Stands both held) leaves holds)
    ]
constant_told laws places len counted added n other x y bits state compares both reads held leaves holds = tt

-- of CMP or SUB, which leave the register less by what is added to it again
done_told : (laws : KnownLaws) → PlaceLaws
    → {device : Device} {a : Known} {s : ChipState} {first : Option ChipState} {len : ℕ} {done : Operation} (added : ℕ → ℕ) {width : Width} (origin : Source)
    {target : Destination} {outcome : Outcome ChipState}
    → IsChipState device s → Compares device done added → reads_destination done ≡ true
    → (may : MayDouble device s len done width origin target outcome)
    → HoldsOfParts device a first may.left.registers may.left.ram
    → HoldsOfFact (fact_of a width (constant_of origin) (compared_register target) added) may.left.registers
done_told laws places {len} added (source.Immediate n) {target} state compares reads may holds =
    constant_told laws places len may.counted added n target may.x may.y may.bits state compares reads may.reads may.held may.leaves holds
done_told laws places {len} added (source.Constant constant) {target} state compares reads may holds =
    constant_told laws places len may.counted added (constant_value constant) target may.x may.y may.bits state compares reads may.reads may.held may.leaves holds
done_told laws places added other state compares reads may holds = tt

pub fact_holds : (laws : KnownLaws) → PlaceLaws
    → (device : Device) (a : Known) (s : ChipState) (first : Option ChipState) (len : ℕ) (done : Operation) (width : Width) (origin : Source) (target : Destination)
    (outcome : Outcome ChipState)
    → IsChipState device s → (may : MayDouble device s len done width origin target outcome)
    → HoldsOfParts device a first may.left.registers may.left.ram
    → HoldsOfFact (fact_behind done width origin target a) may.left.registers
fact_holds laws places device a s first len operation.Cmp width origin target outcome state may holds =
    done_told laws places (λ n. 0) origin state (cmp_compares device) refl may holds
fact_holds laws places device a s first len operation.Sub width origin target outcome state may holds =
    done_told laws places (λ n. n) origin state (sub_compares device) refl may holds
fact_holds laws places device a s first len other width origin target outcome state may holds = holds.fact

-- FORM

fact_of_form : PlaceLaws
    → (a : Known) (width : Width) (constant : Option ℕ) (target : Destination) (added : ℕ → ℕ)
    → ((n : ℕ) → n < modulus width → added n < modulus width)
    → IsFact (fact_of a width constant (compared_register target) added)
fact_of_form places a width None target added small = tt
fact_of_form places a width (Some n) (destination.Register register) added small = elim (general_or (places.kinds register)) [
  | inl none ↦ subst (λ named. IsFact (fact_of a width (Some n) named added)) (sym none) tt
  | inr general ↦
      let k = n % modulus width in
      let below : k < modulus width = mod-lt n {m = modulus width} (modulus_some width) in
      let r = number register in
      subst (λ named. IsFact (fact_of a width (Some n) named added)) (sym (numbered register general.above))
      (cond_both (is_told width (word_of a r).set) (Some (record { register = r; added = added k; compared = k; width = width })) None IsFact
      (λ told. (general.above, general.below, small k below, below)) (λ e. tt))
]
fact_of_form places a width (Some n) other added small = tt

pub fact_form : PlaceLaws
    → (done : Operation) (width : Width) (origin : Source) (target : Destination) (a : Known) → IsFact a.fact
    → IsFact (fact_behind done width origin target a)
fact_form places operation.Cmp width origin target a form = fact_of_form places a width (constant_of origin) target (λ n. 0) (λ n small. modulus_some width)
fact_form places operation.Sub width origin target a form = fact_of_form places a width (constant_of origin) target (λ n. n) (λ n small. small)
fact_form places other width origin target a form = form
