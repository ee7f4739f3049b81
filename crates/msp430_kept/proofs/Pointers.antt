-- An instruction that has a pointer stores where this register, plus a number, points.
use Rattle.std.proofs.Common.{◌≡◌, ℕ, ◌+◌, ◌%◌, ◌<◌, ◌==◌, ◌++◌, true, false, Option, None, Some, List, [], length, refl, sym, ap, ◌∙◌, subst, inl, inr, arith, Contains, get_or-set_same, get_or-set_other}
use Rattle.std.specs.Prelude.{slice_index, slice_set}
use Rattle.std.proofs.lemmas.Bool.Decides.{nat_tests}
use Rattle.std.proofs.lemmas.Bool.{and_parts, cases_eq, cond_both, cond-true, cond-false, eq-eqb}
use Rattle.std.proofs.lemmas.List.{length-set}
use Rattle.std.proofs.lemmas.List.Elements.{All-get_or, Contains-append_right}
use Rattle.chip_numbers.specs.Single.Single.{Access}
use Rattle.chip_numbers.specs.declared.space.Space.TheVariants.{Mem}
use Rattle.msp430_decode.specs.Codes.{number}
use Rattle.msp430_decode.specs.declared.instr.Destination.{Destination}
use Rattle.msp430_decode.specs.declared.instr.Destination.TheVariants as destination
use Rattle.msp430_decode.specs.declared.instr.Instr.{Instr}
use Rattle.msp430_decode.specs.declared.instr.Instr.TheVariants as instr
use Rattle.msp430_decode.specs.declared.instr.Operation.{Operation}
use Rattle.msp430_decode.specs.declared.instr.Register.{Register}
use Rattle.msp430_decode.specs.declared.instr.Register.TheVariants.{Pc, Sp, Sr, R3, R4, R5, R6, R7, R8, R9, R10, R11, R12, R13, R14, R15}
use Rattle.msp430_decode.specs.declared.instr.SingleOperation.{SingleOperation}
use Rattle.msp430_decode.specs.declared.instr.SingleOperation.TheVariants.{Rrc, Swpb, Rra, Sxt, Push, Call}
use Rattle.msp430_decode.specs.declared.instr.Source.{Source}
use Rattle.msp430_decode.specs.declared.instr.Source.TheVariants as source
use Rattle.msp430_decode.specs.declared.instr.Width.{Width}
use Rattle.msp430_chip.specs.declared.device.Device.{Device}
use Rattle.msp430_chip.specs.declared.place.Place.TheVariants.{InMemory}
use Rattle.msp430_chip.specs.declared.state.ChipState.{ChipState}
use Rattle.msp430_chip.specs.Arithmetic.{reads_destination, writes_result}
use Rattle.msp430_chip.specs.Kinds.{Kind}
use Rattle.msp430_chip.specs.Kinds.Kind.{Counter, Empty, General, Stack, Status}
use Rattle.msp430_chip.specs.Laws.{PlaceLaws}
use Rattle.msp430_chip.specs.Leading.{MayDouble, MayLeaveDouble, MayLeaveSingle, MayRun, MaySingle, at_source, behind_source, origin_of}
use Rattle.msp430_chip.specs.Leading.MayLeaveDouble.{FreeStatus as FreeOfDouble, OfResult as OfDouble}
use Rattle.msp430_chip.specs.Leading.MayLeaveSingle.{FreeStatus as FreeOfSingle, OfResult as OfSingle}
use Rattle.msp430_chip.specs.Memory.{aligned, program_hit, size_of}
use Rattle.msp430_chip.specs.Operands.{access_to, grown, growth, value_in, with_free_bits, with_register}
use Rattle.msp430_chip.specs.Outcome.{Outcome}
use Rattle.msp430_chip.specs.State.{IsChipState, register_of}
use Rattle.msp430_chip.specs.Step.{Left, behind, double_accesses, put_if, reads_if, writes_if}
use Rattle.msp430_branch.specs.Facts.{general_number}
use Rattle.msp430_kept.specs.Sites.{grown_by, operand_pointer, pointer_at, pointer_of, single_pointer, site_of, target_pointer, store_or, target_way, call_way}
use Rattle.msp430_kept.specs.declared.pointer.Pointer.{Pointer}
use Rattle.msp430_kept.proofs.Stores.{IsStored}
use Rattle.plain_lemmas.specs.Cases.{mapped, same_Some}
use Rattle.plain_lemmas.specs.Members.{in_first}
use Rattle.promises.specs.declared.spoken.Site.TheVariants.{Nothing, Store}

-- REGISTERS

record IsGeneralNumber (register : Register) (n : ℕ) : Type 0 where
  is : number register ≡ n
  above : 3 < n
  below : n < 16

of_number : (register : Register) (n : ℕ) → 3 < number register → number register < 16 → Some (number register) ≡ Some n
    → IsGeneralNumber register n
of_number register n low high e = let same = same_Some e in
    record { is = same; above = omega (arith, same, low); below = omega (arith, same, high) }

general_is : (register : Register) (n : ℕ) → general_number register ≡ Some n → IsGeneralNumber register n
general_is Pc n e = absurd (cc)
general_is Sp n e = absurd (cc)
general_is Sr n e = absurd (cc)
general_is R3 n e = absurd (cc)
general_is R4 n e = of_number R4 n (omega arith) (omega arith) e
general_is R5 n e = of_number R5 n (omega arith) (omega arith) e
general_is R6 n e = of_number R6 n (omega arith) (omega arith) e
general_is R7 n e = of_number R7 n (omega arith) (omega arith) e
general_is R8 n e = of_number R8 n (omega arith) (omega arith) e
general_is R9 n e = of_number R9 n (omega arith) (omega arith) e
general_is R10 n e = of_number R10 n (omega arith) (omega arith) e
general_is R11 n e = of_number R11 n (omega arith) (omega arith) e
general_is R12 n e = of_number R12 n (omega arith) (omega arith) e
general_is R13 n e = of_number R13 n (omega arith) (omega arith) e
general_is R14 n e = of_number R14 n (omega arith) (omega arith) e
general_is R15 n e = of_number R15 n (omega arith) (omega arith) e

-- a register as a pointer
record IsPointerOf (register : Register) (added : ℕ) (pointer : Pointer) : Type 0 where
  general : IsGeneralNumber register pointer.register
  added_is : pointer.added ≡ added % 65536

pointer_is : (register : Register) (added : ℕ) (pointer : Pointer) → pointer_at register added ≡ Some pointer → IsPointerOf register added pointer
pointer_is register added pointer e =
    let found = mapped (λ (n : ℕ). let p : Pointer = record { register = n; added = added % 65536 } in p) (general_number register) pointer e in
    let same = found.2 in
    record {
      general = subst (IsGeneralNumber register) (ap (λ (p : Pointer). p.register) same) (general_is register found.0 found.1);
      added_is = sym (ap (λ (p : Pointer). p.added) same);
    }

-- GROWTH

differ : (a b : ℕ) → (a ≡ b → ⊥) → (a == b) ≡ false
differ a b other = grind (arith, nat_tests, other)

-- registers but for one are as they were, and that one, if it is the pointer, has grown
module _ (places : PlaceLaws) (registers : List ℕ) (count : length registers ≡ 16) (register : Register) (low : 3 < number register) (high : number register < 16) where
  put_other : (i value : ℕ) → i < 4 → slice_index (slice_set registers i value) (number register) ≡ value_in registers register
  put_other i value less = get_or-set_other registers i (number register) value 0 (λ e. omega (arith, e, low, less))

  -- another register is written
  others_stay : (other : Register) (value : ℕ) → Kind other → (number other ≡ number register → ⊥)
      → value_in (with_register registers other value) register ≡ value_in registers register
  others_stay other value (Counter is) differs = subst (λ r. value_in (with_register registers r value) register ≡ value_in registers register) (sym is) (put_other 0 _ (omega arith))
  others_stay other value (Stack is) differs = subst (λ r. value_in (with_register registers r value) register ≡ value_in registers register) (sym is) (put_other 1 _ (omega arith))
  others_stay other value (Status is) differs = subst (λ r. value_in (with_register registers r value) register ≡ value_in registers register) (sym is) (put_other 2 _ (omega arith))
  others_stay other value (Empty is) differs = subst (λ r. value_in (with_register registers r value) register ≡ value_in registers register) (sym is) refl
  others_stay other value (General general) differs =
      ap (λ (all : List ℕ). value_in all register) (general.set registers value)
      ∙ get_or-set_other registers (number other) (number register) value 0 (λ e. differs (sym e))

  itself : (other : Register) (value : ℕ) → Kind other → number other ≡ number register → value_in (with_register registers other value) register ≡ value
  itself other value (Counter is) same = let zero : number other ≡ 0 = ap number is in absurd (omega (arith, zero, same, low))
  itself other value (Stack is) same = let one : number other ≡ 1 = ap number is in absurd (omega (arith, one, same, low))
  itself other value (Status is) same = let two : number other ≡ 2 = ap number is in absurd (omega (arith, two, same, low))
  itself other value (Empty is) same = let three : number other ≡ 3 = ap number is in absurd (omega (arith, three, same, low))
  itself other value (General general) same =
      ap (λ (all : List ℕ). value_in all register) (general.set registers value)
      ∙ subst (λ n. slice_index (slice_set registers n value) (number register) ≡ value) (sym same)
      (get_or-set_same registers (number register) value 0 (omega (arith, count, high)))

  stays : value_in registers register < 65536 → value_in registers register ≡ (value_in registers register + 0) % 65536
  stays small = omega (arith, small)

  grown_is : (width : Width) (origin : Source) → value_in registers register < 65536
      → value_in (grown registers width origin) register ≡ (value_in registers register + grown_by width origin register) % 65536
  grown_is width (source.Register other) small = stays small
  grown_is width (source.Indexed other offset) small = stays small
  grown_is width (source.Indirect other) small = stays small
  grown_is width (source.Immediate value) small = stays small
  grown_is width (source.Symbolic offset) small = stays small
  grown_is width (source.Absolute address) small = stays small
  grown_is width (source.Constant constant) small = stays small
  grown_is width (source.IndirectIncrement other) small =
      let value = (value_in registers other + growth width other) % 65536 in
      elim (cases_eq (number other) (number register)) [
        | inl same ↦
            itself other value (places.kinds other) same
            ∙ ap (λ v. (v + growth width other) % 65536) (ap (slice_index registers) same)
            ∙ ap (λ n. (value_in registers register + n) % 65536)
            (sym (cond-true (number other == number register) (growth width other) 0 (eq-eqb (number other) (number register) same)))
        | inr differs ↦
            others_stay other value (places.kinds other) differs
            ∙ stays small
            ∙ ap (λ n. (value_in registers register + n) % 65536)
            (sym (cond-false (number other == number register) (growth width other) 0 (differ (number other) (number register) differs)))
      ]

-- SUMS MODULO 65536

together : (v grown offset added : ℕ) → added ≡ (grown + offset) % 65536 → ((v + grown) % 65536 + offset) % 65536 ≡ (v + added) % 65536
together v grown offset added is = omega (arith, is)

alone : (v offset added : ℕ) → added ≡ offset % 65536 → (v + offset) % 65536 ≡ (v + added) % 65536
alone v offset added is = omega (arith, is)

unmoved : (v : ℕ) → v < 65536 → v ≡ (v + 0) % 65536
unmoved v small = omega (arith, small)

-- WHERE AN INSTRUCTION STORES

-- it does so through a pointer
pub record Points (device : Device) (s : ChipState) (instr_so : Instr) (outcome : Outcome ChipState) (pointer : Pointer) : Type 0 where
  pub width : Width
  pub address : ℕ
  pub stored : IsStored device s instr_so width address outcome
  pub address_is : address ≡ (register_of s pointer.register + pointer.added) % 65536
  pub site : site_of instr_so ≡ Store (size_of width)
  pub above : 3 < pointer.register
  pub below : pointer.register < 16
  pub added : pointer.added < 65536

-- PC is counted, and other registers are as they were
module _ (device : Device) (s : ChipState) (form : IsChipState device s) (register : Register) (pointer : Pointer) (general : IsGeneralNumber register pointer.register) where
  low : 3 < number register
  low = let above = general.above in omega (arith, above, general.is)

  high : number register < 16
  high = let below = general.below in omega (arith, below, general.is)

  counted_is : (counted : ℕ) → value_in (at_source s counted) register ≡ register_of s pointer.register
  counted_is counted = get_or-set_other s.registers 0 (number register) counted 0 (λ e. omega (arith, e, low)) ∙ ap (register_of s) general.is

  small : register_of s pointer.register < 65536
  small = let below = general.below in All-get_or (λ r. r < 65536) s.registers pointer.register 0 (omega (arith, below, form.registers)) form.words

  behind_is : PlaceLaws → (counted : ℕ) (width : Width) (origin : Source)
      → value_in (behind_source s counted width origin) register ≡ (register_of s pointer.register + grown_by width origin register) % 65536
  behind_is places counted width origin =
      grown_is places (at_source s counted) (length-set s.registers 0 counted ∙ form.registers) register low high width origin
      (subst (λ v. v < 65536) (sym (counted_is counted)) small)
      ∙ ap (λ v. (v + grown_by width origin register) % 65536) (counted_is counted)

-- with two operands
double_hit : (device : Device) (ram registers : List ℕ) (operation : Operation) (width : Width) (address x y carry : ℕ) (left : Left)
    → writes_result operation ≡ true → MayLeaveDouble device ram registers operation width (InMemory address) x y carry left
    → left.hit ≡ program_hit device width address
double_hit device ram registers operation width address x y carry left writes (FreeOfDouble is free) = absurd (let never = and_parts _ false is in cc)
double_hit device ram registers operation width address x y carry left writes (OfDouble is made_so makes left_is) =
    ap (λ (l : Left). l.hit) left_is ∙ ap (λ t. (put_if t device registers ram width (InMemory address) made_so.0).hit) writes

double_stored : (device : Device) (s : ChipState) (len : ℕ) (operation : Operation) (width : Width) (origin : Source) (register : Register) (offset : ℕ) (outcome : Outcome ChipState)
    → writes_result operation ≡ true → (may : MayDouble device s len operation width origin (destination.Indexed register offset) outcome)
    → IsStored device s (instr.Double operation width origin (destination.Indexed register offset)) width ((value_in (behind_source s may.counted width origin) register + offset) % 65536) outcome
double_stored device s len operation width origin register offset outcome writes may =
    let pc = register_of s 0 in
    let address = (value_in (behind_source s may.counted width origin) register + offset) % 65536 in
    let from = origin_of s may.counted origin in
    let own = Access pc Mem true (size_of width) (aligned device width address) in
    let reads = access_to device pc false width from ++ reads_if (reads_destination operation) device pc width (InMemory address) in
    record {
      accesses = double_accesses device pc operation width from (InMemory address);
      left = may.left;
      outcome_is = may.outcome_is;
      shown = Contains-append_right reads (writes_if (writes_result operation) device pc width (InMemory address)) own
          (subst (λ t. Contains (writes_if t device pc width (InMemory address)) own) (sym writes) (in_first own []));
      hit = double_hit device s.ram _ operation width address _ _ _ may.left writes may.leaves;
    }

double_points : PlaceLaws → (device : Device) (s : ChipState) (len : ℕ) (operation : Operation) (width : Width) (origin : Source) (target : Destination) (outcome : Outcome ChipState) (pointer : Pointer)
    → IsChipState device s → writes_result operation ≡ true → target_pointer width origin target ≡ Some pointer
    → MayDouble device s len operation width origin target outcome
    → Points device s (instr.Double operation width origin target) outcome pointer
double_points places device s len operation width origin (destination.Register register) outcome pointer form writes e may = absurd (cc)
double_points places device s len operation width origin (destination.Symbolic offset) outcome pointer form writes e may = absurd (cc)
double_points places device s len operation width origin (destination.Absolute address) outcome pointer form writes e may = absurd (cc)
double_points places device s len operation width origin (destination.Indexed register offset) outcome pointer form writes e may =
    let its = pointer_is register (grown_by width origin register + offset) pointer e in
    let target = destination.Indexed register offset in
    let value = behind_is device s form register pointer its.general places may.counted width origin in
    let added = its.added_is in
    record {
      width = width;
      address = (value_in (behind_source s may.counted width origin) register + offset) % 65536;
      stored = double_stored device s len operation width origin register offset outcome writes may;
      address_is = ap (λ v. (v + offset) % 65536) value ∙ together (register_of s pointer.register) (grown_by width origin register) offset pointer.added added;
      site = cond-true (writes_result operation) (store_or width (target_pointer width origin target) (target_way origin target)) Nothing writes
          ∙ ap (λ found. store_or width found (target_way origin target)) e;
      above = its.general.above;
      below = its.general.below;
      added = omega (arith, added);
    }

-- with one operand
single_hit : (device : Device) (ram registers : List ℕ) (operation : SingleOperation) (width : Width) (address x carry : ℕ) (left : Left)
    → MayLeaveSingle device ram registers operation width (InMemory address) x carry left
    → left.hit ≡ program_hit device width address
single_hit device ram registers operation width address x carry left (FreeOfSingle is free) = absurd (let never = and_parts _ false is in cc)
single_hit device ram registers operation width address x carry left (OfSingle is made_so makes left_is) = ap (λ (l : Left). l.hit) left_is

single_stored : (device : Device) (s : ChipState) (len : ℕ) (operation : SingleOperation) (width : Width) (operand : Source) (address : ℕ) (outcome : Outcome ChipState)
    → origin_of s (behind s len) operand ≡ InMemory address → MaySingle device s len operation width operand outcome
    → IsStored device s (instr.Single operation width operand) width address outcome
single_stored device s len operation width operand address outcome place may =
    let pc = register_of s 0 in
    let from = origin_of s (behind s len) operand in
    let own = Access pc Mem true (size_of width) (aligned device width address) in
    record {
      accesses = access_to device pc false width from ++ access_to device pc true width from;
      left = may.left;
      outcome_is = may.outcome_is;
      shown = Contains-append_right (access_to device pc false width from) (access_to device pc true width from) own
          (subst (λ p. Contains (access_to device pc true width p) own) (sym place) (in_first own []));
      hit = single_hit device s.ram _ operation width address _ _ may.left
          (subst (λ p. MayLeaveSingle device s.ram (behind_source s (behind s len) width operand) operation width p (with_free_bits width from may.bits may.x) (register_of s 2 % 2) may.left) place may.leaves);
    }

module _ (device : Device) (s : ChipState) (form : IsChipState device s) (len : ℕ) (operation : SingleOperation) (width : Width) (outcome : Outcome ChipState) (pointer : Pointer) where
  pointed : (register : Register) (offset address : ℕ) (operand : Source) → IsPointerOf register offset pointer
      → origin_of s (behind s len) operand ≡ InMemory address → address ≡ (register_of s pointer.register + offset) % 65536
      → single_pointer operation operand ≡ Some pointer → MaySingle device s len operation width operand outcome
      → Points device s (instr.Single operation width operand) outcome pointer
  pointed register offset address operand its place is found may = let added = its.added_is in record {
    width = width;
    address = address;
    stored = single_stored device s len operation width operand address outcome place may;
    address_is = is ∙ alone (register_of s pointer.register) offset pointer.added added;
    site = ap (λ p. store_or width p (call_way operation operand)) found;
    above = its.general.above;
    below = its.general.below;
    added = omega (arith, added);
  }

  at_itself : (register : Register) → IsPointerOf register 0 pointer
      → value_in (at_source s (behind s len)) register ≡ (register_of s pointer.register + 0) % 65536
  at_itself register its =
      let less = small device s form register pointer its.general in
      counted_is device s form register pointer its.general (behind s len) ∙ unmoved (register_of s pointer.register) less

  operand_points : (operand : Source) → operand_pointer operand ≡ Some pointer → single_pointer operation operand ≡ operand_pointer operand
      → MaySingle device s len operation width operand outcome
      → Points device s (instr.Single operation width operand) outcome pointer
  operand_points (source.Indexed register offset) e plain may =
      let its = pointer_is register offset pointer e in
      pointed register offset ((value_in (at_source s (behind s len)) register + offset) % 65536) (source.Indexed register offset) its refl
      (ap (λ v. (v + offset) % 65536) (counted_is device s form register pointer its.general (behind s len))) (plain ∙ e) may
  operand_points (source.Indirect register) e plain may =
      let its = pointer_is register 0 pointer e in
      pointed register 0 (value_in (at_source s (behind s len)) register) (source.Indirect register) its refl (at_itself register its) (plain ∙ e) may
  operand_points (source.IndirectIncrement register) e plain may =
      let its = pointer_is register 0 pointer e in
      pointed register 0 (value_in (at_source s (behind s len)) register) (source.IndirectIncrement register) its refl (at_itself register its) (plain ∙ e) may
  operand_points (source.Register register) e plain may = absurd (cc)
  operand_points (source.Immediate value) e plain may = absurd (cc)
  operand_points (source.Symbolic offset) e plain may = absurd (cc)
  operand_points (source.Absolute address) e plain may = absurd (cc)
  operand_points (source.Constant constant) e plain may = absurd (cc)

single_points : (device : Device) (s : ChipState) (len : ℕ) (operation : SingleOperation) (width : Width) (operand : Source) (outcome : Outcome ChipState) (pointer : Pointer)
    → IsChipState device s → single_pointer operation operand ≡ Some pointer → MayRun device s (instr.Single operation width operand) len outcome
    → Points device s (instr.Single operation width operand) outcome pointer
single_points device s len Push width operand outcome pointer form e may = absurd (cc)
single_points device s len Call width operand outcome pointer form e may = absurd (cc)
single_points device s len Rrc width operand outcome pointer form e may = operand_points device s form len Rrc width outcome pointer operand e refl may
single_points device s len Swpb width operand outcome pointer form e may = operand_points device s form len Swpb width outcome pointer operand e refl may
single_points device s len Rra width operand outcome pointer form e may = operand_points device s form len Rra width outcome pointer operand e refl may
single_points device s len Sxt width operand outcome pointer form e may = operand_points device s form len Sxt width outcome pointer operand e refl may

-- any instruction
pub instr_points : PlaceLaws → (device : Device) (s : ChipState) (len : ℕ) (instr_so : Instr) (outcome : Outcome ChipState) (pointer : Pointer)
    → IsChipState device s → pointer_of instr_so ≡ Some pointer → MayRun device s instr_so len outcome
    → Points device s instr_so outcome pointer
instr_points places device s len (instr.Double operation width origin target) outcome pointer form e may =
    cond_both (writes_result operation) (target_pointer width origin target) None
    (λ (found : Option Pointer). found ≡ Some pointer → Points device s (instr.Double operation width origin target) outcome pointer)
    (λ writes found. double_points places device s len operation width origin target outcome pointer form writes found may) (λ _ none. absurd (cc)) e
instr_points places device s len (instr.Single operation width operand) outcome pointer form e may =
    single_points device s len operation width operand outcome pointer form e may
instr_points places device s len (instr.Jump condition offset) outcome pointer form e may = absurd (cc)
instr_points places device s len instr.ReturnFromInterrupt outcome pointer form e may = absurd (cc)

-- R4 TO R15

target_general : (width : Width) (origin : Source) (target : Destination) (pointer : Pointer) → target_pointer width origin target ≡ Some pointer
    → (3 < pointer.register) × (pointer.register < 16)
target_general width origin (destination.Register register) pointer e = absurd (cc)
target_general width origin (destination.Symbolic offset) pointer e = absurd (cc)
target_general width origin (destination.Absolute address) pointer e = absurd (cc)
target_general width origin (destination.Indexed register offset) pointer e =
    let its = pointer_is register (grown_by width origin register + offset) pointer e in (its.general.above, its.general.below)

operand_general : (operand : Source) (pointer : Pointer) → operand_pointer operand ≡ Some pointer → (3 < pointer.register) × (pointer.register < 16)
operand_general (source.Indexed register offset) pointer e = let its = pointer_is register offset pointer e in (its.general.above, its.general.below)
operand_general (source.Indirect register) pointer e = let its = pointer_is register 0 pointer e in (its.general.above, its.general.below)
operand_general (source.IndirectIncrement register) pointer e = let its = pointer_is register 0 pointer e in (its.general.above, its.general.below)
operand_general (source.Register register) pointer e = absurd (cc)
operand_general (source.Immediate value) pointer e = absurd (cc)
operand_general (source.Symbolic offset) pointer e = absurd (cc)
operand_general (source.Absolute address) pointer e = absurd (cc)
operand_general (source.Constant constant) pointer e = absurd (cc)

single_general : (operation : SingleOperation) (operand : Source) (pointer : Pointer) → single_pointer operation operand ≡ Some pointer
    → (3 < pointer.register) × (pointer.register < 16)
single_general Push operand pointer e = absurd (cc)
single_general Call operand pointer e = absurd (cc)
single_general Rrc operand pointer e = operand_general operand pointer e
single_general Swpb operand pointer e = operand_general operand pointer e
single_general Rra operand pointer e = operand_general operand pointer e
single_general Sxt operand pointer e = operand_general operand pointer e

-- a pointer is one of them
pub general_pointer : (instr_so : Instr) (pointer : Pointer) → pointer_of instr_so ≡ Some pointer → (3 < pointer.register) × (pointer.register < 16)
general_pointer (instr.Double operation width origin target) pointer e =
    cond_both (writes_result operation) (target_pointer width origin target) None
    (λ (found : Option Pointer). found ≡ Some pointer → (3 < pointer.register) × (pointer.register < 16))
    (λ _ found. target_general width origin target pointer found) (λ _ none. absurd (cc)) e
general_pointer (instr.Single operation width operand) pointer e = single_general operation operand pointer e
general_pointer (instr.Jump condition offset) pointer e = absurd (cc)
general_pointer instr.ReturnFromInterrupt pointer e = absurd (cc)
