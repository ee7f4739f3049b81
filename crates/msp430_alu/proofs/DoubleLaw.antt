-- The law of instructions with two operands, along their stages.
use Rattle.std.proofs.Common.{◌≡◌, ℕ, ◌+◌, ◌*◌, ◌%◌, ◌<◌, Bool, true, false, Option, None, List, get_or, set, refl, sym, ap, ◌∙◌, subst, arith, get_or-set_same, get_or-set_other}
use Rattle.std.specs.Prelude.{if◌then◌else◌}
use Rattle.std.specs.Option.{option_map}
use Rattle.std.proofs.lemmas.Bool.{cond_both, cond-false, and_parts, false≢true}
use Rattle.std.proofs.lemmas.Option.{same_Some}
use Rattle.entry_value.specs.declared.word.Word.{Word}
use Rattle.entry_value.specs.Words.{Suspended, IsFromEntry}
use Rattle.value_set.specs.declared.form.Form.{Form}
use Rattle.value_set.specs.Summing.{single}
use Rattle.value_bits.specs.declared.tri.Tri.{Tri}
use Rattle.std.specs.Int.{bit_at}
use Rattle.value_bits.specs.Bits.{IsBit}
use Rattle.value_bits.specs.BitFacts.{bits_at}
use Rattle.msp430_decode.specs.declared.instr.Destination.{Destination}
use Rattle.msp430_decode.specs.declared.instr.Destination.TheVariants as destination
use Rattle.msp430_decode.specs.declared.instr.Operation.{Operation}
use Rattle.msp430_decode.specs.declared.instr.Operation.TheVariants as operation
use Rattle.msp430_decode.specs.declared.instr.Register.{Register}
use Rattle.msp430_decode.specs.declared.instr.Register.TheVariants.{Sr}
use Rattle.msp430_decode.specs.declared.instr.Source.{Source}
use Rattle.msp430_decode.specs.declared.instr.Source.TheVariants as source
use Rattle.msp430_decode.specs.declared.instr.Width.{Width}
use Rattle.msp430_decode.specs.declared.instr.Width.TheVariants.{Word as Words, Byte}
use Rattle.msp430_decode.specs.Operands.{IsSource, IsDestination}
use Rattle.msp430_chip.specs.declared.device.Device.{Device}
use Rattle.msp430_chip.specs.declared.place.Place.{Place}
use Rattle.msp430_chip.specs.declared.place.Place.TheVariants as place
use Rattle.msp430_chip.specs.declared.state.ChipState.{ChipState}
use Rattle.msp430_chip.specs.Arithmetic.{Made, modulus, sum, writes_result, reads_destination, sets_flags, with_made_flags}
use Rattle.msp430_chip.specs.Leading.{MayStandAt, MayStandIf, MayMake, MayDouble, at_source, behind_source, origin_of, place_of}
use Rattle.msp430_chip.specs.Leading.MayLeaveDouble.{FreeStatus, OfResult}
use Rattle.msp430_chip.specs.Outcome.{Outcome}
use Rattle.msp430_chip.specs.Operands.{grown, value_in, source_place, destination_place, with_free_bits, is_status}
use Rattle.msp430_chip.specs.State.{register_of}
use Rattle.msp430_chip.specs.Step.{Left, with_status, behind}
use Rattle.msp430_state.specs.Forms.{IsKnown}
use Rattle.msp430_state.specs.Holding.{suspended_of}
use Rattle.msp430_state.specs.Known.{Known}
use Rattle.msp430_alu.specs.declared.reach.Reach.{Reach}
use Rattle.msp430_results.specs.FlagSets.{MadeSet, IsResult, HoldsOfMade}
use Rattle.msp430_alu.specs.Formats.{constant_of, relation_of, counter_set, is_doubled, carry_of, destination_word, made_of, put_known_if, next_if, double_worked, LeavesStatus, IsUnder, IsLeft}
use Rattle.msp430_results.specs.Words.{values_of, written_word}
use Rattle.msp430_alu.specs.Memory.{IsDevice}
use Rattle.msp430_alu.specs.Operands.{source_reach, destination_reach, grown_known, operand_word, IsReached}
use Rattle.msp430_results.specs.InstructionLaws.{InstructionLaws}
use Rattle.msp430_alu.specs.Registers.{with_flag_bits}
use Rattle.msp430_results.specs.Results.{double_made, twice_flags}
use Rattle.msp430_alu.specs.NumberFacts.{single_is}
use Rattle.msp430_alu.specs.RelationFacts.{constant_value_is, related}
use Rattle.msp430_alu.proofs.Doubles.{counter_is, written_is, one_register}
use Rattle.msp430_alu.proofs.Growth.{way}
use Rattle.msp430_alu.proofs.OperandLemmas.{IsOnTheWay, IsOperand, destination_reached, operand_held}
use Rattle.msp430_alu.proofs.Parts.{parts_counted, flags_written}
use Rattle.msp430_alu.proofs.Putting.{IsPut, IsReady, put_if_is, counted_are}
use Rattle.msp430_alu.proofs.WorkedForms.{double_forms}

-- C
pub carry_bit : {device : Device} {framed : Bool} {a : Known} {s : ChipState} {first : Option ChipState} → IsUnder device framed a s first
    → IsBit (carry_of a) (register_of s 2 % 2)
carry_bit {a} {s} under =
    let lowest : bit_at (register_of s 2) 0 ≡ register_of s 2 % 2 = omega arith in
    subst (IsBit (carry_of a)) lowest (bits_at a.status.bits 0 (register_of s 2) under.holds.parts.status.bits)

-- THE DESTINATION

no_status : (pc len : ℕ) (registers : List ℕ) (target : Destination) → LeavesStatus target
    → is_status (destination_place pc len registers target) ≡ false
no_status pc len registers (destination.Register Sr) leaves = absurd leaves
no_status pc len registers other leaves = refl

no_free : (width : Width) (stands : Place) (bits y : ℕ) → is_status stands ≡ false → with_free_bits width stands bits y ≡ y
no_free Words stands bits y none = cond-false (is_status stands) (y + 512 * bits) y none
no_free Byte stands bits y none = refl

zero_operand : (laws : InstructionLaws) (first : Option Suspended) (width : Width)
    → IsOperand first width (record { set = single 0; entry = None }) 0
zero_operand laws first Words = let is = single_is laws.known 65536 0 (omega arith) in record { values = is; holds = λ e. (is.has, tt) }
zero_operand laws first Byte =
    let is = single_is laws.known 65536 0 (omega arith) in
    record { values = record { normal = laws.known.bits.low_normal (single 0) is.normal; has = laws.known.bits.low 0 (single 0) is.normal is.has }; holds = λ e. absurd (cc) }

target_held : (laws : InstructionLaws) {device : Device} {framed : Bool} {a : Known} {counted : Form} {first : Option ChipState} {registers ram : List ℕ}
    → IsOnTheWay device framed a counted first registers ram
    → IsDevice device → (reads : Bool) (width : Width) (reach : Reach) (stands : Place) (y bits : ℕ)
    → IsReached reach stands → is_status stands ≡ false
    → MayStandIf reads device ram registers width stands y → bits < 128
    → IsOperand (option_map suspended_of first) width (if reads then operand_word device a counted width reach else record { set = single 0; entry = None })
    (with_free_bits width stands bits y)
target_held laws on is true width reach stands y bits reached none held few =
    operand_held laws on is width reach stands y bits reached held few
target_held laws {first} on is false width reach stands y bits reached none held few =
    let zero_is : 0 ≡ with_free_bits width stands bits y = sym (no_free width stands bits y none ∙ held) in
    subst (IsOperand (option_map suspended_of first) width (record { set = single 0; entry = None })) zero_is (zero_operand laws (option_map suspended_of first) width)

-- THE RESULT

-- the values of the operands, and the numbers that they are
pub record AreOperands (first : Option Suspended) (device : Device) (ram registers : List ℕ) (pc len : ℕ) (done : Operation) (width : Width) (origin : Source)
    (target : Destination) (one other : Word) (x y bits : ℕ) : Type 0 where
  pub source : IsOperand first width one (with_free_bits width (source_place pc registers origin) bits x)
  pub target_so : IsOperand first width other (with_free_bits width (destination_place pc len (grown registers width origin) target) bits y)
  pub stands : MayStandAt device ram registers width (source_place pc registers origin) x
  pub held : MayStandIf (reads_destination done) device ram (grown registers width origin) width (destination_place pc len (grown registers width origin) target) y

-- ADD of a register to itself has one value twice
doubled_row : (laws : InstructionLaws) {first : Option Suspended} {device : Device} {ram registers : List ℕ} {pc len : ℕ} (done : Operation) {width : Width} (origin : Source)
    (target : Destination) {one other : Word} {x y bits : ℕ} (carry : ℕ) (made_so : Made)
    → is_doubled done origin target ≡ true → AreOperands first device ram registers pc len done width origin target one other x y bits
    → MayMake done width (with_free_bits width (source_place pc registers origin) bits x)
    (with_free_bits width (destination_place pc len (grown registers width origin) target) bits y) carry made_so
    → HoldsOfMade width (twice_flags width (values_of width other)) made_so
doubled_row laws {registers} operation.Add {width} (source.Register register) (destination.Register second) {other} {x} {y} {bits} carry made_so e are may =
    let At : Register → ℕ → ℕ = λ r v. with_free_bits width (place.InRegister r) bits v in
    let alike : At register (value_in registers register % modulus width) ≡ At second (value_in registers second % modulus width) =
    ap (λ r. At r (value_in registers r % modulus width)) (one_register register second e) in
    let same : At register x ≡ At second y = ap (At register) are.stands ∙ alike ∙ sym (ap (At second) are.held) in
    let is : sum width (At second y) (At register x) 0 ≡ made_so = same_Some (sum width (At second y) (At register x) 0) made_so may in
    subst (HoldsOfMade width (twice_flags width (values_of width other))) (ap (λ n. sum width (At second y) n 0) (sym same) ∙ is)
    (laws.results.twice width (At second y) (values_of width other) are.target_so.values)
doubled_row laws done origin target carry made_so e are may = absurd (cc)

pub made_holds : (laws : InstructionLaws) {first : Option Suspended} {device : Device} {ram registers : List ℕ} {pc len : ℕ} {done : Operation} {width : Width} {origin : Source}
    {target : Destination} {one other : Word} {x y bits : ℕ} (carry : ℕ) (c : Tri) (made_so : Made)
    → IsBit c carry → AreOperands first device ram registers pc len done width origin target one other x y bits
    → MayMake done width (with_free_bits width (source_place pc registers origin) bits x)
    (with_free_bits width (destination_place pc len (grown registers width origin) target) bits y) carry made_so
    → HoldsOfMade width (made_of done width origin target one other c) made_so
made_holds laws {registers} {pc} {len} {done} {width} {origin} {target} {one} {other} {x} {y} {bits} carry c made_so bit are may =
    cond_both (is_doubled done origin target) (twice_flags width (values_of width other)) (double_made done width (values_of width one) (values_of width other) c)
    (λ (set_so : MadeSet). HoldsOfMade width set_so made_so)
    (λ e. doubled_row laws done origin target carry made_so e are may)
    (λ e. laws.results.double done width (with_free_bits width (source_place pc registers origin) bits x)
    (with_free_bits width (destination_place pc len (grown registers width origin) target) bits y) carry (values_of width one) (values_of width other) c made_so are.source.values are.target_so.values bit may)

-- the relation of the result
result_related : (laws : InstructionLaws) {first : Option Suspended} {device : Device} {ram registers : List ℕ} {pc len : ℕ} {done : Operation} (width : Width) {origin : Source}
    {target : Destination} {one other : Word} {x y bits : ℕ} (carry : ℕ) (made_so : Made)
    → IsSource origin → AreOperands first device ram registers pc len done width origin target one other x y bits
    → MayMake done width (with_free_bits width (source_place pc registers origin) bits x)
    (with_free_bits width (destination_place pc len (grown registers width origin) target) bits y) carry made_so
    → width ≡ Words → IsFromEntry first (relation_of done (constant_of origin) one.entry other.entry) made_so.0
result_related laws Byte carry made_so is are may e = absurd (cc)
result_related laws {first} {device} {ram} {registers} {pc} {len} {done} Words {origin} {target} {one} {other} {x} {y} {bits} carry made_so is are may e =
    related laws.known first done (constant_of origin) one.entry other.entry (with_free_bits Words (source_place pc registers origin) bits x)
    (with_free_bits Words (destination_place pc len (grown registers Words origin) target) bits y) carry made_so may
    (λ m constant. constant_value_is device ram registers pc origin x bits m is constant are.stands) (are.source.holds refl).1 (are.target_so.holds refl).1

-- THE LAW

-- the flags behind a write
pub flags_put : {device : Device} {framed : Bool} {a : Known} {first : Option ChipState} {next : Form} {left : Left} {made_set : MadeSet} {made_so : Made} {width : Width}
    → IsKnown device.ram.lo device.ram.hi framed a
    → HoldsOfMade width made_set made_so → IsPut device a first next left
    → IsLeft device (with_flag_bits a made_set.1) first next (with_status made_so.1 left)
flags_put {next} {left} {made_set} {made_so} form made_is put = record {
  next_is = subst (IsResult 65536 next) (sym (get_or-set_other left.registers 2 0 (with_made_flags (get_or left.registers 2 0) made_so.1) 0 (λ e. omega (arith, e)))) put.next_is;
  parts = flags_written made_set.1 made_so.1 put.are.count form.bits form.fact made_is.flags put.parts;
}

pub double_law : (laws : InstructionLaws) {device : Device} {framed : Bool} {a : Known} {s : ChipState} {first : Option ChipState} {len : ℕ} {done : Operation} {width : Width}
    {origin : Source} {target : Destination} {outcome : Outcome ChipState}
    → IsUnder device framed a s first → IsSource origin → IsDestination target → LeavesStatus target
    → (may : MayDouble device s len done width origin target outcome)
    → let worked = double_worked device framed a (register_of s 0) len done width origin target in IsLeft device worked.after first worked.next may.left
unfolding double_worked
double_law laws {device} {framed} {a} {s} {first} {len} {done} {width} {origin} {target} {outcome} under from_so to_so leaves may =
    let pc = register_of s 0 in
    let counted = may.counted in
    let suspended = option_map suspended_of first in
    let counted_so = counter_set pc len origin target in
    let way = way laws under (counter_is laws s len origin target counted may.counts) width origin from_so in
    let grown_so = grown_known a counted_so width origin in
    let to = destination_reach pc len grown_so counted_so target in
    let one = operand_word device a counted_so width (source_reach pc a counted_so origin) in
    let two = destination_word device grown_so counted_so done width to in
    let registers = behind_source s counted width origin in
    let stands = place_of s len counted width origin target in
    let none = no_status pc len registers target leaves in
    let to_is = destination_reached laws way.behind pc len target to_so in
    let are : AreOperands suspended device s.ram (at_source s counted) pc len done width origin target one two may.x may.y may.bits = record {
      source = operand_held laws way.on under.device_so width _ (origin_of s counted origin) may.x may.bits way.source may.reads may.free.below;
      target_so = target_held laws way.behind under.device_so (reads_destination done) width to stands may.y may.bits to_is none may.held may.free.below;
      stands = may.reads;
      held = may.held;
    } in
    let made_set = made_of done width origin target one two (carry_of a) in
    let relation = relation_of done (constant_of origin) one.entry two.entry in
    let word = written_word width made_set.0 relation in
    let after = behind s len in
    let small : after < 65536 = omega arith in
    let ready : IsReady device framed grown_so first (set registers 0 after) s.ram after =
    let are = counted_are after small way.behind.are in
    let at = get_or-set_same registers 0 after 0 (omega (arith, way.behind.are.count)) in
    let parts = parts_counted after way.behind.form.fact way.behind.parts in
    assumption (are, at, parts, small, way.behind.form, under) in
    let forms = double_forms laws under.device_so under.form pc len done width origin target from_so to_so in
    let put_so = put_known_if (writes_result done) device framed grown_so width to word in
    elim may.leaves [
      | FreeStatus free freed ↦ absurd (false≢true (sym none ∙ (and_parts (sets_flags done) (is_status stands) free).1))
      | OfResult other made_so makes is ↦
          let made_is = made_holds laws (register_of s 2 % 2) (carry_of a) made_so (carry_bit under) are makes in
          let related = result_related laws width (register_of s 2 % 2) made_so from_so are makes in
          let written = written_is laws suspended width relation (record { normal = made_is.normal; has = made_is.result }) related in
          let put_is = put_if_is laws ready (writes_result done) to stands to_is none written in
          subst (IsLeft device (with_flag_bits put_so made_set.1) first (next_if (writes_result done) to word after)) (sym is) (flags_put forms.put made_is put_is)
    ]
