-- The law of instructions with two operands and the destination SR.
use Rattle.std.proofs.Common.{◌≡◌, ℕ, ◌+◌, ◌*◌, ◌%◌, ◌<◌, ◌++◌, ◌&&◌, Bool, true, false, Option, None, Some, List, [], length, get_or, refl, sym, ap, ◌∙◌, subst, inl, inr, arith, get_or-set_same, get_or-set_other}
use Rattle.std.specs.Prelude.{bit_and, bit_or}
use Rattle.std.specs.Option.{option_map}
use Rattle.std.proofs.lemmas.Bool.{and_parts, cases_Bool, cond_both, cond-false, cond-true, false≢true}
use Rattle.std.proofs.lemmas.List.{length-set, length-take-le, append-nil, set-get_or}
use Rattle.std.proofs.lemmas.List.FromFn.{length-map-range_with_len}
use Rattle.std.proofs.lemmas.Option.{same_Some}
use Rattle.entry_value.specs.declared.word.Entry.{Entry}
use Rattle.entry_value.specs.declared.word.Word.{Word}
use Rattle.entry_value.specs.Words.{HoldsOfWord, IsFromEntry, Suspended}
use Rattle.irq_frames.specs.KnownLaws.{KnownLaws}
use Rattle.value_set.specs.Summing.{single}
use Rattle.value_bits.specs.Bits.{Agrees, known_bit, known_bits}
use Rattle.msp430_decode.specs.declared.instr.Destination.TheVariants as destination
use Rattle.msp430_decode.specs.declared.instr.Operation.{Operation}
use Rattle.msp430_decode.specs.declared.instr.Operation.TheVariants as operation
use Rattle.msp430_decode.specs.declared.instr.Register.{Register}
use Rattle.msp430_decode.specs.declared.instr.Register.TheVariants.{Sr}
use Rattle.msp430_decode.specs.declared.instr.Source.{Source}
use Rattle.msp430_decode.specs.declared.instr.Source.TheVariants as source
use Rattle.msp430_decode.specs.declared.instr.Width.{Width}
use Rattle.msp430_decode.specs.declared.instr.Width.TheVariants.{Word as Words, Byte}
use Rattle.msp430_decode.specs.Codes.{number}
use Rattle.msp430_decode.specs.Operands.{IsPointer, IsSource}
use Rattle.msp430_chip.specs.declared.device.Device.{Device}
use Rattle.msp430_chip.specs.declared.place.Place.TheVariants as place
use Rattle.msp430_chip.specs.declared.state.ChipState.{ChipState}
use Rattle.msp430_chip.specs.Arithmetic.{Made, complement, modulus, reads_destination, sets_flags, writes_result}
use Rattle.msp430_chip.specs.Kinds.Kind.{Counter, Stack, Status, Empty, General}
use Rattle.msp430_chip.specs.Leading.{LeavesFree, MayDouble, MayLeaveDouble, MayStandAt, MayStandIf, at_source, behind_source, origin_of, place_of}
use Rattle.msp430_chip.specs.Leading.MayLeaveDouble.{FreeStatus, OfResult}
use Rattle.msp430_chip.specs.LeadingFacts.{bytes_are, stands_below}
use Rattle.msp430_chip.specs.Operands.{grown, growth, value_in, with_free_bits, with_register}
use Rattle.msp430_chip.specs.Outcome.{Outcome}
use Rattle.msp430_chip.specs.State.{even, register_of}
use Rattle.msp430_chip.specs.Step.{Left, double_accesses, put_if, with_status}
use Rattle.msp430_results.specs.Words.{values_of, written_word}
use Rattle.msp430_state.specs.FormFacts.{no_status_relation}
use Rattle.msp430_state.specs.declared.status.Status.{Status as StatusBits}
use Rattle.msp430_state.specs.Forms.{IsKnown, IsRelation, IsStatusRelation}
use Rattle.msp430_state.specs.Holding.{HoldsOfParts, suspended_of}
use Rattle.msp430_state.specs.Known.{Known}
use Rattle.msp430_alu.specs.declared.reach.Reach.TheVariants.{InRegister}
use Rattle.msp430_alu.specs.Formats.{AreShown, IsLeft, IsUnder, access_if, access_of, constant_of, counter_set, double_worked, relation_of}
use Rattle.msp430_alu.specs.Doing.{IsWellMade, here_at}
use Rattle.msp430_alu.specs.Memory.{IsDevice}
use Rattle.msp430_alu.specs.Operands.{grown_known, operand_word, source_reach}
use Rattle.msp430_alu.specs.Registers.{status_set}
use Rattle.msp430_alu.specs.RelationFacts.{clear_related, constant_below, constant_value_is, or_related, own_relation, relation_form, status_related, status_relation_form}
use Rattle.msp430_status.specs.Status.{free_bits, lowest_bits, moved_bits, moved_relation, moved_status, source_bits, status_behind, status_worked}
use Rattle.msp430_status.proofs.BitLemmas.{AgreesBelow, free_agree, held_agrees, length_free, length_moved, moved_agrees, number_behind, places}
use Rattle.msp430_status.proofs.Moves.{StatusLaws, registers_behind, source_number, behind_length, counter_one, grown_form, grown_parts, source_known, source_relation}
use Rattle.msp430_status.proofs.Parts.{Writes, bits_alone, freed, status_left, unflagged, written_is}

source_small : (laws : StatusLaws) {device : Device} {framed : Bool} {a : Known} {s : ChipState} {first : Option ChipState} {len : ℕ} {done : Operation} (width : Width)
    {origin : Source} {outcome : Outcome ChipState}
    → IsUnder device framed a s first → IsSource origin → (may : MayDouble device s len done width origin (destination.Register Sr) outcome)
    → source_number s may.counted width origin may.bits may.x < modulus width
source_small laws Words under from_so may = (source_known laws under from_so may).below
source_small laws {device} {s} Byte {origin} under from_so may =
    stands_below device s.ram (at_source s may.counted) under.device_so.bytes (bytes_are device s.ram under.holds.state.bytes) Byte
    (origin_of s may.counted origin) may.x may.reads

-- WHAT SR HELD

pointer_status : (laws : StatusLaws) (registers : List ℕ) (register : Register) (value : ℕ) → IsPointer register
    → get_or (with_register registers register value) 2 0 ≡ get_or registers 2 0
pointer_status laws registers register value pointer = elim (laws.places.kinds register) [
  | Counter e ↦ absurd (subst IsPointer e pointer)
  | Stack e ↦ ap (λ r. get_or (with_register registers r value) 2 0) e ∙ get_or-set_other registers 1 2 (even value) 0 (λ e. omega (arith, e))
  | Status e ↦ absurd (subst IsPointer e pointer)
  | Empty e ↦ absurd (subst IsPointer e pointer)
  | General is ↦ ap (λ list. get_or list 2 0) (is.set registers value) ∙ get_or-set_other registers (number register) 2 value 0 (λ e. let low = is.above in omega (arith, e, low))
]

grown_status : (laws : StatusLaws) (registers : List ℕ) (width : Width) (origin : Source) → IsSource origin
    → get_or (grown registers width origin) 2 0 ≡ get_or registers 2 0
grown_status laws registers width (source.IndirectIncrement register) is =
    pointer_status laws registers register ((value_in registers register + growth width register) % 65536) is
grown_status laws registers width other is = refl

held_number : (reads : Bool) (device : Device) (ram registers : List ℕ) (width : Width) (y : ℕ)
    → MayStandIf reads device ram registers width (place.InRegister Sr) y
    → reads ≡ true → y ≡ get_or registers 2 0 % modulus width
held_number true device ram registers width y held e = held
held_number false device ram registers width y held e = absurd (cc)

-- the bits of SR that nothing holds
abbrev bits_above : Width → ℕ → ℕ
bits_above Words bits = bits
bits_above Byte bits = 0

no_bits_above : (width : Width) (bits : ℕ) → width ≡ Byte → bits_above width bits ≡ 0
no_bits_above Words bits e = absurd (cc)
no_bits_above Byte bits e = refl

free_above : (width : Width) (bits y : ℕ) → with_free_bits width (place.InRegister Sr) bits y ≡ y + 512 * bits_above width bits
free_above Words bits y = refl
free_above Byte bits y = omega arith

-- WHAT IS LEFT

result_left : (device : Device) (ram registers : List ℕ) (width : Width) (v : ℕ) (made_so : Made) (left : Left) → (v, None) ≡ made_so
    → left ≡ with_status made_so.1 (put_if true device registers ram width (place.InRegister Sr) made_so.0)
    → left ≡ status_left registers ram (v % 512)
result_left device ram registers width v made_so left same is =
    is ∙ ap (λ (m : Made). with_status m.1 (put_if true device registers ram width (place.InRegister Sr) m.0)) (sym same) ∙ unflagged registers ram (v % 512)

left_is : {device : Device} {ram registers : List ℕ} (done : Operation) {width : Width} {x y carry : ℕ} {left : Left}
    → sets_flags done ≡ false
    → MayLeaveDouble device ram registers done width (place.InRegister Sr) x y carry left
    → left ≡ status_left registers ram (number_behind done x y (complement width x) % 512)
left_is done none (FreeStatus free freed) = absurd (false≢true (sym none ∙ (and_parts (sets_flags done) true free).0))
left_is {device} {ram} {registers} operation.Mov {width} {x} {left} none (OfResult other made_so may is) =
    result_left device ram registers width x made_so left (same_Some (x, None) made_so may) is
left_is {device} {ram} {registers} operation.Bic {width} {x} {y} {left} none (OfResult other made_so may is) =
    let v = bit_and y (complement width x) in result_left device ram registers width v made_so left (same_Some (v, None) made_so may) is
left_is {device} {ram} {registers} operation.Bis {width} {x} {y} {left} none (OfResult other made_so may is) =
    let v = bit_or y x in result_left device ram registers width v made_so left (same_Some (v, None) made_so may) is
left_is done none (OfResult other made_so may is) = absurd (cc)

put_hit : (writes : Bool) (device : Device) (registers ram : List ℕ) (width : Width) (v : ℕ)
    → (put_if writes device registers ram width (place.InRegister Sr) v).hit ≡ None
put_hit true device registers ram width v = refl
put_hit false device registers ram width v = refl

pub leaves_hit : {device : Device} {ram registers : List ℕ} {done : Operation} {width : Width} {x y carry : ℕ} {left : Left}
    → MayLeaveDouble device ram registers done width (place.InRegister Sr) x y carry left → left.hit ≡ None
leaves_hit {device} {ram} (FreeStatus free freed) = ap (λ (l : Left). l.hit) freed.left_is
leaves_hit {device} {ram} {registers} {done} {width} (OfResult other made_so may is) =
    ap (λ (l : Left). l.hit) is ∙ put_hit (writes_result done) device registers ram width made_so.0

-- THE BITS

lowest_length : (width : Width) (word : Word) → length (lowest_bits width word) ≡ 9
lowest_length width word =
    let set = (written_word width (values_of width word) None).set in
    length-take-le 9 (known_bits 16 set) (omega (arith, length-map-range_with_len (λ place. known_bit 16 place set) 0 16))

source_length : (a : Known) (width : Width) (origin : Source) (word : Word) → length a.status.bits ≡ 9
    → length (source_bits a width origin word) ≡ 9
source_length a width (source.Register Sr) word nine = nine
source_length a width other word nine = lowest_length width word

-- SR as the source has the bits that it holds
status_source : (a : Known) (s : ChipState) (counted : ℕ) (width : Width) (bits x : ℕ) → Agrees a.status.bits (register_of s 2)
    → x ≡ get_or (at_source s counted) 2 0 % modulus width
    → AgreesBelow (places width) a.status.bits (with_free_bits width (place.InRegister Sr) bits x)
status_source a s counted width bits x agrees is =
    let kept : get_or (at_source s counted) 2 0 ≡ register_of s 2 = get_or-set_other s.registers 0 2 counted 0 (λ e. omega (arith, e)) in
    held_agrees width a.status.bits (with_free_bits width (place.InRegister Sr) bits x) (register_of s 2) (bits_above width bits) agrees
    (free_above width bits x ∙ ap (λ n. n + 512 * bits_above width bits) (is ∙ ap (λ n. n % modulus width) kept)) (no_bits_above width bits)

source_agrees : (a : Known) (s : ChipState) (counted : ℕ) (width : Width) (origin : Source) (device : Device) (word : Word) (bits x : ℕ)
    → Agrees a.status.bits (register_of s 2)
    → MayStandAt device s.ram (at_source s counted) width (origin_of s counted origin) x
    → AgreesBelow (places width) (lowest_bits width word) (source_number s counted width origin bits x)
    → AgreesBelow (places width) (source_bits a width origin word) (source_number s counted width origin bits x)
source_agrees a s counted width (source.Register Sr) device word bits x agrees reads lowest = status_source a s counted width bits x agrees reads
source_agrees a s counted width other device word bits x agrees reads lowest = lowest

byte_held : (width : Width) (bits y sr : ℕ) → y ≡ sr % modulus width → width ≡ Byte
    → with_free_bits width (place.InRegister Sr) bits y < 256
byte_held Words bits y sr is e = absurd (cc)
byte_held Byte bits y sr is e = omega (arith, is)

-- what SR holds of the width, where it is read
held_so : (laws : StatusLaws) {device : Device} {s : ChipState} {len : ℕ} {done : Operation} {width : Width} {origin : Source} {outcome : Outcome ChipState}
    → IsSource origin → (may : MayDouble device s len done width origin (destination.Register Sr) outcome)
    → reads_destination done ≡ true → may.y ≡ register_of s 2 % modulus width
held_so laws {device} {s} {done} {width} {origin} from_so may e =
    let kept : get_or (behind_source s may.counted width origin) 2 0 ≡ register_of s 2 =
    grown_status laws (at_source s may.counted) width origin from_so ∙ get_or-set_other s.registers 0 2 may.counted 0 (λ e. omega (arith, e)) in
    held_number (reads_destination done) device s.ram (behind_source s may.counted width origin) width may.y may.held e ∙ ap (λ n. n % modulus width) kept

bits_agree : (laws : StatusLaws) {device : Device} {framed : Bool} {a : Known} {s : ChipState} {first : Option ChipState} {len : ℕ} {done : Operation} {width : Width}
    {origin : Source} {outcome : Outcome ChipState}
    → sets_flags done ≡ false → IsUnder device framed a s first → IsSource origin
    → (may : MayDouble device s len done width origin (destination.Register Sr) outcome)
    → let counted = single ((register_of s 0 + len) % 65536) in let word = operand_word device a counted width (source_reach (register_of s 0) a counted origin) in
    let x = source_number s may.counted width origin may.bits may.x in let y = with_free_bits width (place.InRegister Sr) may.bits may.y in
    Agrees (moved_bits done width (source_bits a width origin word) a.status.bits) (number_behind done x y (complement width x) % 512)
bits_agree laws {device} {a} {s} {len} {done} {width} {origin} none under from_so may =
    let pc = register_of s 0 in
    let counted = single ((pc + len) % 65536) in
    let word = operand_word device a counted width (source_reach pc a counted origin) in
    let x = source_number s may.counted width origin may.bits may.x in
    let y = with_free_bits width (place.InRegister Sr) may.bits may.y in
    let known = source_known laws under from_so may in
    let sr = register_of s 2 in
    let held = held_so laws from_so may in
    let agrees = under.holds.parts.status.bits in
    moved_agrees done width (source_bits a width origin word) a.status.bits x y none (source_length a width origin word under.form.bits) under.form.bits
    (source_small laws width under from_so may) (source_agrees a s may.counted width origin device word may.bits may.x agrees may.reads known.agrees)
    (λ e. held_agrees width a.status.bits y sr (bits_above width may.bits) agrees (free_above width may.bits may.y ∙ ap (λ n. n + 512 * bits_above width may.bits) (held e)) (no_bits_above width may.bits))
    (λ e. byte_held width may.bits may.y sr (held e))

-- THE RELATION

-- what the result came from, by a source x and what SR held, y
moved_from : (laws : KnownLaws) (first : Option Suspended) (done : Operation) (constant : Option ℕ) (one other : Option Entry) (x y : ℕ)
    → sets_flags done ≡ false → ((m : ℕ) → constant ≡ Some m → x ≡ m)
    → IsFromEntry first one x → (reads_destination done ≡ true → IsFromEntry first other y)
    → IsFromEntry first (relation_of done constant one other) (number_behind done x y (complement Words x))
moved_from laws first operation.Mov constant one other x y none is h k = h
moved_from laws first operation.Bic constant one other x y none is h k = clear_related laws first constant other x y is (k refl)
moved_from laws first operation.Bis constant one other x y none is h k = or_related laws first constant other x y is (k refl)
moved_from laws first done constant one other x y none is h k = absurd (cc)

relation_agrees : (laws : StatusLaws) {device : Device} {framed : Bool} {a : Known} {s : ChipState} {first : Option ChipState} {len : ℕ} {done : Operation} (width : Width)
    {origin : Source} {outcome : Outcome ChipState}
    → sets_flags done ≡ false → IsUnder device framed a s first → IsSource origin
    → (may : MayDouble device s len done width origin (destination.Register Sr) outcome)
    → let counted = single ((register_of s 0 + len) % 65536) in let word = operand_word device a counted width (source_reach (register_of s 0) a counted origin) in
    let x = source_number s may.counted width origin may.bits may.x in let y = with_free_bits width (place.InRegister Sr) may.bits may.y in
    IsFromEntry (option_map suspended_of first) (moved_relation done width (constant_of origin) word.entry a.status.entry) (number_behind done x y (complement width x) % 512)
relation_agrees laws Byte none under from_so may = tt
relation_agrees laws {device} {framed} {a} {s} {first} {len} {done} Words {origin} none under from_so may =
    let pc = register_of s 0 in
    let counted = single ((pc + len) % 65536) in
    let word = operand_word device a counted Words (source_reach pc a counted origin) in
    let x = source_number s may.counted Words origin may.bits may.x in
    let y = with_free_bits Words (place.InRegister Sr) may.bits may.y in
    let sr = register_of s 2 in
    let small : sr < 512 = under.holds.state.status in
    let held : HoldsOfWord (option_map suspended_of first) (record { set = status_set a.status; entry = a.status.entry }) (sr + 512 * may.bits) =
    laws.words.status framed first a.status sr may.bits under.form.bits under.form.status small may.free.below under.holds.parts.status in
    let whole : reads_destination done ≡ true → sr + 512 * may.bits ≡ y =
    λ e. let is = held_so laws from_so may e in omega (arith, is, small) in
    let From = IsFromEntry (option_map suspended_of first) in
    status_related first (relation_of done (constant_of origin) word.entry a.status.entry) (number_behind done x y (complement Words x))
    (moved_from laws.known (option_map suspended_of first) done (constant_of origin) word.entry a.status.entry x y none
    (λ m constant. constant_value_is device s.ram (at_source s may.counted) pc origin may.x may.bits m from_so constant may.reads)
    ((source_known laws under from_so may).from refl) (λ e. subst (From a.status.entry) (whole e) held.1))

-- THE LAW

kept_status : (a : Known) (done : Operation) (width : Width) (origin : Source) (word : Word) → sets_flags done ≡ false
    → moved_status a done width origin word ≡ status_behind a done width origin word
kept_status a done width origin word none = sym (cond-false (sets_flags done) (bits_alone free_bits) (moved_status a done width origin word) none)

any_status : (a : Known) (done : Operation) (width : Width) (origin : Source) (word : Word) → sets_flags done ≡ true
    → bits_alone free_bits ≡ status_behind a done width origin word
any_status a done width origin word some = sym (cond-true (sets_flags done) (bits_alone free_bits) (moved_status a done width origin word) some)

-- SR is free, where the operation sets flags
status_freed : {device : Device} {ram registers : List ℕ} {done : Operation} {width : Width} {x y carry : ℕ} {left : Left}
    → sets_flags done ≡ true
    → MayLeaveDouble device ram registers done width (place.InRegister Sr) x y carry left → LeavesFree registers ram left
status_freed some (FreeStatus free freed) = freed
status_freed some (OfResult other made_so may is) = absurd (false≢true (sym other ∙ ap (λ b. b && true) some))

status_is_written : (laws : StatusLaws) {device : Device} {framed : Bool} {a : Known} {s : ChipState} {first : Option ChipState} {len : ℕ} {done : Operation} {width : Width}
    {origin : Source} {outcome : Outcome ChipState}
    → IsUnder device framed a s first → IsSource origin → (may : MayDouble device s len done width origin (destination.Register Sr) outcome)
    → let counted = single ((register_of s 0 + len) % 65536) in let word = operand_word device a counted width (source_reach (register_of s 0) a counted origin) in
    Writes first (registers_behind s len may.counted width origin) s.ram (status_behind a done width origin word) may.left
status_is_written laws {device} {a} {s} {first} {len} {done} {width} {origin} under from_so may =
    let pc = register_of s 0 in
    let counted = single ((pc + len) % 65536) in
    let word = operand_word device a counted width (source_reach pc a counted origin) in
    let registers = registers_behind s len may.counted width origin in
    let x = source_number s may.counted width origin may.bits may.x in
    let y = with_free_bits width (place.InRegister Sr) may.bits may.y in
    elim (cases_Bool (sets_flags done)) [
      | inl some ↦ subst (λ known. Writes first registers s.ram known may.left) (any_status a done width origin word some)
          (freed free_bits free_agree (status_freed some may.leaves))
      | inr none ↦ subst (λ known. Writes first registers s.ram known may.left) (kept_status a done width origin word none) (record {
        status = number_behind done x y (complement width x) % 512;
        holds = record { bits = bits_agree laws none under from_so may; entry = relation_agrees laws width none under from_so may };
        left_is = left_is done none may.leaves;
      })
    ]

pub status_law : (laws : StatusLaws) {device : Device} {framed : Bool} {a : Known} {s : ChipState} {first : Option ChipState} {len : ℕ} {done : Operation} {width : Width}
    {origin : Source} {outcome : Outcome ChipState}
    → IsUnder device framed a s first → IsSource origin → (may : MayDouble device s len done width origin (destination.Register Sr) outcome)
    → IsLeft device (status_worked device framed a (register_of s 0) len done width origin).after first
    (status_worked device framed a (register_of s 0) len done width origin).next may.left
unfolding status_worked
status_law laws {device} {framed} {a} {s} {first} {len} {done} {width} {origin} {outcome} under from_so may =
    let pc = register_of s 0 in
    let next = (pc + len) % 65536 in
    let counted = single next in
    let grown_so = grown_known a counted width origin in
    let registers = registers_behind s len may.counted width origin in
    let long : length registers ≡ 16 = behind_length laws s len may.counted width origin ∙ under.holds.state.registers in
    let grown_long : 0 < length (behind_source s may.counted width origin) = omega (arith, long, length-set (behind_source s may.counted width origin) 0 next) in
    let counter : get_or registers 0 0 ≡ next = get_or-set_same (behind_source s may.counted width origin) 0 next 0 grown_long in
    let holds : HoldsOfParts device grown_so first registers s.ram =
    subst (λ list. HoldsOfParts device grown_so first list s.ram) (set-get_or registers 2 0) (grown_parts laws under from_so may) in
    written_is laws.known.sets.single next long (omega arith) counter (λ r low. refl) holds (status_is_written laws under from_so may)

no_access : (device : Device) (there : Bool) (pc : ℕ) (write : Bool) (width : Width) (register : Register)
    → access_if there device pc write width (InRegister register) ≡ []
no_access device true pc write width register = refl
no_access device false pc write width register = refl

pub status_shown : (laws : StatusLaws) {device : Device} {framed : Bool} {a : Known} {s : ChipState} {first : Option ChipState} {len : ℕ} {done : Operation} {width : Width}
    {origin : Source} {outcome : Outcome ChipState}
    → IsUnder device framed a s first → IsSource origin → (may : MayDouble device s len done width origin (destination.Register Sr) outcome)
    → AreShown (status_worked device framed a (register_of s 0) len done width origin).accesses
    (double_accesses device (register_of s 0) done width (origin_of s may.counted origin) (place_of s len may.counted width origin (destination.Register Sr)))
unfolding double_worked status_worked
status_shown laws {device} {framed} {a} {s} {first} {len} {done} {width} {origin} {outcome} under from_so may =
    let pc = register_of s 0 in
    let counted = counter_set pc len origin (destination.Register Sr) in
    let reads = access_of device pc false width (source_reach pc a counted origin) in
    let singles = double_accesses device pc done width (origin_of s may.counted origin) (place_of s len may.counted width origin (destination.Register Sr)) in
    let shown : AreShown
    (reads ++ access_if (reads_destination done) device pc false width (InRegister Sr) ++ access_if (writes_result done) device pc true width (InRegister Sr)) singles =
    laws.doubles.shown (here_at device framed a s first) len done width origin (destination.Register Sr) outcome under from_so tt may in
    let first_so = subst (λ list. AreShown (reads ++ list ++ access_if (writes_result done) device pc true width (InRegister Sr)) singles)
    (no_access device (reads_destination done) pc false width Sr) shown in
    let second_so = subst (λ list. AreShown (reads ++ [] ++ list) singles) (no_access device (writes_result done) pc true width Sr) first_so in
    let alone : AreShown reads singles = subst (λ list. AreShown list singles) (append-nil (reads ++ []) ∙ append-nil reads) second_so in
    subst (λ set. AreShown (access_of device pc false width (source_reach pc a set origin)) singles) (counter_one laws pc len origin Sr) alone

behind_length_form : (a : Known) (done : Operation) (width : Width) (origin : Source) (word : Word) → length a.status.bits ≡ 9
    → length (status_behind a done width origin word).bits ≡ 9
behind_length_form a done width origin word nine =
    cond_both (sets_flags done) (bits_alone free_bits) (moved_status a done width origin word) (λ (known : StatusBits). length known.bits ≡ 9) (λ e. length_free)
    (λ e. length_moved done width (source_bits a width origin word) a.status.bits (source_length a width origin word nine) nine)

moved_form : (framed : Bool) (done : Operation) (width : Width) (origin : Source) (one other : Option Entry) → IsSource origin
    → (width ≡ Words → IsRelation framed one) → IsStatusRelation framed other
    → IsStatusRelation framed (moved_relation done width (constant_of origin) one other)
moved_form framed done Byte origin one other is h k = no_status_relation framed
moved_form framed done Words origin one other is h k =
    status_relation_form framed (relation_of done (constant_of origin) one other)
    (relation_form framed done (constant_of origin) one other (λ m e. constant_below origin m is e) (h refl) (own_relation framed other k))

behind_form : (framed : Bool) (a : Known) (done : Operation) (width : Width) (origin : Source) (word : Word) → IsSource origin
    → (width ≡ Words → IsRelation framed word.entry) → IsStatusRelation framed a.status.entry
    → IsStatusRelation framed (status_behind a done width origin word).entry
behind_form framed a done width origin word is h k =
    cond_both (sets_flags done) (bits_alone free_bits) (moved_status a done width origin word) (λ (known : StatusBits). IsStatusRelation framed known.entry)
    (λ e. no_status_relation framed) (λ e. moved_form framed done width origin word.entry a.status.entry is h k)

pub status_made : (laws : StatusLaws) (device : Device) (framed : Bool) (a : Known) (pc len : ℕ) (done : Operation)
    (width : Width) (origin : Source)
    → IsDevice device → IsKnown device.ram.lo device.ram.hi framed a → IsSource origin
    → IsWellMade device framed ((pc + len) % 65536) (status_worked device framed a pc len done width origin)
unfolding status_worked
status_made laws device framed a pc len done width origin is form from_so =
    let next = (pc + len) % 65536 in
    let word = operand_word device a (single next) width (source_reach pc a (single next) origin) in
    let grown_is = grown_form laws pc len width origin is form from_so in
    let bits = behind_length_form a done width origin word form.bits in
    let entry = behind_form framed a done width origin word from_so (source_relation laws pc len width origin is form from_so) form.status in
    record {
      form = assumption (bits, entry, grown_is);
      next = (laws.known.sets.single 65536 next (omega arith)).0;
      even = laws.known.sets.single_rest 65536 2 0 next;
    }
