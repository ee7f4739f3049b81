-- What is made of a state has the form of states.
use Rattle.msp430_state.specs.FormFacts.{no_relation}
use Rattle.msp430_alu.specs.NumberFacts.{even_parts_form, moved_normal}
use Rattle.std.proofs.Common.{◌≡◌, ℕ, ◌+◌, ◌-◌, ◌%◌, ◌<◌, ◌==◌, ◌&&◌, ◌++◌, Bool, true, false, Option, None, Some, List, [], ◌∷◌, length, replicate, refl, ◌∙◌, arith, Contains}
use Rattle.std.specs.Prelude.{nat_le}
use Rattle.std.proofs.lemmas.Bool.{cond_both}
use Rattle.std.proofs.lemmas.List.{length-append, length-replicate}
use Rattle.plain_lemmas.specs.Members.{in_first, in_rest}
use Rattle.entry_value.specs.declared.cells.Cell.{Cell}
use Rattle.entry_value.specs.declared.word.Entry.{Entry}
use Rattle.entry_value.specs.declared.word.Word.{Word}
use Rattle.entry_value.specs.Cells.{cell_at, found_or, put_together, read, unknown}
use Rattle.value_set.specs.declared.form.Form.{Form}
use Rattle.value_set.specs.Form.{IsNormal, make, members}
use Rattle.value_set.specs.Joining.{join}
use Rattle.value_set.specs.Remainders.{HasRemainder}
use Rattle.value_set.specs.Summing.{single, add}
use Rattle.value_bits.specs.declared.tri.Tri.{Tri}
use Rattle.value_bits.specs.declared.tri.Tri.TheVariants.{Either}
use Rattle.value_bits.specs.Sets.{pair_set}
use Rattle.msp430_decode.specs.declared.instr.Destination.{Destination}
use Rattle.msp430_decode.specs.declared.instr.Destination.TheVariants as destination
use Rattle.msp430_decode.specs.declared.instr.Operation.{Operation}
use Rattle.msp430_decode.specs.declared.instr.Register.{Register}
use Rattle.msp430_decode.specs.declared.instr.Register.TheVariants.{Pc}
use Rattle.msp430_decode.specs.declared.instr.SingleOperation.{SingleOperation}
use Rattle.msp430_decode.specs.declared.instr.SingleOperation.TheVariants.{Call}
use Rattle.msp430_decode.specs.declared.instr.Source.{Source}
use Rattle.msp430_decode.specs.declared.instr.Source.TheVariants as source
use Rattle.msp430_decode.specs.declared.instr.Width.{Width}
use Rattle.msp430_decode.specs.declared.instr.Width.TheVariants.{Word as Words, Byte}
use Rattle.msp430_decode.specs.Codes.{number}
use Rattle.msp430_decode.specs.Operands.{IsSource, IsDestination}
use Rattle.msp430_chip.specs.declared.device.Device.{Device}
use Rattle.msp430_chip.specs.Arithmetic.{modulus, reads_destination, writes_result}
use Rattle.msp430_chip.specs.Kinds.{Kind}
use Rattle.msp430_chip.specs.Kinds.Kind.{Counter, Stack, Status, Empty, General}
use Rattle.msp430_chip.specs.Memory.{is_ram, size_of}
use Rattle.msp430_chip.specs.Operands.{growth}
use Rattle.msp430_chip.specs.Step.{reads_counter, is_formed_by_stack}
use Rattle.msp430_state.specs.declared.status.Status.{Status as StatusBits}
use Rattle.msp430_state.specs.Forms.{IsRelation, IsWord, IsChipCell, IsKnown}
use Rattle.msp430_state.specs.Known.{Known}
use Rattle.msp430_alu.specs.declared.reach.Reach.{Reach}
use Rattle.msp430_alu.specs.declared.reach.Reach.TheVariants.{InRegister, InMemory, Fixed}
use Rattle.msp430_alu.specs.Doing.{IsWellMade}
use Rattle.msp430_alu.specs.Formats.{lowered_known, forming_known, pushed_known, called_next, push_worked, single_worked, double_worked, constant_of, relation_of, counter_set, is_doubled, carry_of, destination_word, made_of, put_known, put_known_if, next_by, next_if, double_worked}
use Rattle.msp430_results.specs.Words.{values_of, written_word}
use Rattle.msp430_results.specs.FlagSets.{MadeSet}
use Rattle.msp430_alu.specs.Memory.{IsDevice, located, word_by, byte_by, program_word, read_one, read_each, read_list}
use Rattle.msp430_alu.specs.Operands.{beside, source_reach, destination_reach, grown_known, operand_word}
use Rattle.msp430_results.specs.InstructionLaws.{InstructionLaws}
use Rattle.msp430_alu.specs.Registers.{even_parts, status_set, register_word, with_flag_bits, with_sp}
use Rattle.msp430_results.specs.Results.{double_made, single_made, twice_flags, HasWidth}
use Rattle.msp430_alu.proofs.Growth.{growth_small}
use Rattle.msp430_alu.specs.RelationFacts.{constant_below, constant_small, own_relation, relation_form}
use Rattle.msp430_alu.proofs.OperandLemmas.{general_word, word_of_form}
use Rattle.msp430_alu.proofs.WhereAccesses.{located_even, located_normal}
use Rattle.msp430_alu.proofs.ReadingLemmas.{read_known_normal}
use Rattle.msp430_alu.proofs.Shapes.{IsCellWord, register_form, sp_form, flags_form, store_form}

-- REGISTERS AS OPERANDS

pub status_normal : (laws : InstructionLaws) (status : StatusBits) → length status.bits ≡ 9 → IsNormal 65536 (status_set status)
status_normal laws status long =
    let count : length (status.bits ++ replicate 7 Either) ≡ 16 = length-append status.bits (replicate 7 Either) ∙ omega (arith, long, length-replicate 7 Either) in
    laws.known.bits.from_normal 16 (status.bits ++ replicate 7 Either) count

register_word_form : (laws : InstructionLaws) {lo hi : ℕ} {framed : Bool} {a : Known} (counted : Form) → IsKnown lo hi framed a
    → IsNormal 65536 counted → {register : Register}
    → Kind register → IsWord framed (register_word a counted register)
register_word_form laws {framed} counted form normal (Counter e) = rw e (record { normal = normal; entry = no_relation framed })
register_word_form laws {framed} counted form normal (Stack e) = rw e (record { normal = form.sp.normal; entry = no_relation framed })
register_word_form laws {framed} {a} counted form normal (Status e) =
    rw e (record { normal = status_normal laws a.status form.bits; entry = own_relation framed a.status.entry form.status })
register_word_form laws {framed} counted form normal (Empty e) = rw e (record { normal = (laws.known.sets.single 65536 0 (omega arith)).0; entry = no_relation framed })
register_word_form laws {a} counted form normal {register} (General is) = rw (general_word a counted register is.above) (word_of_form laws form (number register))

-- WHERE OPERANDS STAND

abbrev pub IsReachNormal : Reach → Type 0
IsReachNormal (InMemory set_so) = IsNormal 65536 set_so
IsReachNormal other = Unit {0}

beside_form : (laws : InstructionLaws) {lo hi : ℕ} {framed : Bool} {a : Known} (counted : Form) → IsKnown lo hi framed a
    → IsNormal 65536 counted → (register : Register) (offset : ℕ)
    → offset < 65536
    → IsNormal 65536 (beside a counted register offset)
beside_form laws {a} counted form normal register offset small =
    moved_normal laws.known (register_word a counted register).set offset small (register_word_form laws counted form normal (laws.places.kinds register)).normal

pub source_form : (laws : InstructionLaws) {lo hi : ℕ} {framed : Bool} {a : Known} (counted : Form) → IsKnown lo hi framed a
    → IsNormal 65536 counted → (pc : ℕ) (origin : Source)
    → IsSource origin
    → IsReachNormal (source_reach pc a counted origin)
source_form laws counted form normal pc (source.Register register) is = tt
source_form laws counted form normal pc (source.Indexed register offset) is = beside_form laws counted form normal register offset is.1
source_form laws counted form normal pc (source.Indirect register) is = (register_word_form laws counted form normal (laws.places.kinds register)).normal
source_form laws counted form normal pc (source.IndirectIncrement register) is = (register_word_form laws counted form normal (laws.places.kinds register)).normal
source_form laws counted form normal pc (source.Immediate value) is = tt
source_form laws counted form normal pc (source.Symbolic offset) is = (laws.known.sets.single 65536 ((pc + 2 + offset) % 65536) (omega arith)).0
source_form laws counted form normal pc (source.Absolute address) is = (laws.known.sets.single 65536 address is).0
source_form laws counted form normal pc (source.Constant constant) is = tt

pub destination_form : (laws : InstructionLaws) {lo hi : ℕ} {framed : Bool} {a : Known} (counted : Form)
    → IsKnown lo hi framed a → IsNormal 65536 counted
    → (pc len : ℕ) (target : Destination) → IsDestination target
    → IsReachNormal (destination_reach pc len a counted target)
destination_form laws counted form normal pc len (destination.Register register) is = tt
destination_form laws counted form normal pc len (destination.Indexed register offset) is = beside_form laws counted form normal register offset is.1
destination_form laws counted form normal pc len (destination.Symbolic offset) is = (laws.known.sets.single 65536 ((pc + len - 2 + offset) % 65536) (omega arith)).0
destination_form laws counted form normal pc len (destination.Absolute address) is = (laws.known.sets.single 65536 address is).0

pub grown_form : (laws : InstructionLaws) {lo hi : ℕ} {framed : Bool} {a : Known} (counted : Form) → IsKnown lo hi framed a
    → IsNormal 65536 counted → (width : Width) (origin : Source)
    → IsKnown lo hi framed (grown_known a counted width origin)
grown_form laws {framed} {a} counted form normal width (source.IndirectIncrement register) =
    let more = growth width register in
    register_form laws (laws.places.kinds register) (record {
      normal = moved_normal laws.known (register_word a counted register).set more (growth_small width register)
          (register_word_form laws counted form normal (laws.places.kinds register)).normal;
      entry = no_relation framed;
    }) form
grown_form laws counted form normal width other = form

-- WHAT THEY HOLD

found_relation : (framed : Bool) (cells : List Cell) (at size : ℕ) (otherwise : Word)
    → ((c : Cell) → Contains cells c → IsChipCell framed c) → IsRelation framed otherwise.entry
    → IsRelation framed (found_or (cell_at cells at size) otherwise).entry
found_relation framed [] at size otherwise forms none = none
found_relation framed (cell ∷ cells) at size otherwise forms none =
    cond_both ((cell.place == at) && (cell.size == size)) (Some cell.word) (cell_at cells at size) (λ found. IsRelation framed (found_or found otherwise).entry)
    (λ e. (forms cell (in_first cell cells)).entry)
    (λ e. found_relation framed cells at size otherwise (λ c there. forms c (in_rest cell cells c there)) none)

read_relation : (framed : Bool) (cells : List Cell) (at size : ℕ)
    → ((c : Cell) → Contains cells c → IsChipCell framed c) → IsRelation framed (read cells at size).entry
unfolding read
read_relation framed cells at size forms = found_relation framed cells at size (put_together cells at size) forms (no_relation framed)

word_relation : (framed : Bool) (one other : Option ℕ) → IsRelation framed (word_by one other).entry
word_relation framed None other = no_relation framed
word_relation framed (Some low) None = no_relation framed
word_relation framed (Some low) (Some high) = no_relation framed

byte_relation : (framed : Bool) (found : Option ℕ) → IsRelation framed (byte_by found).entry
byte_relation framed None = no_relation framed
byte_relation framed (Some byte) = no_relation framed

program_relation : (framed : Bool) (device : Device) (width : Width) (at : ℕ) → IsRelation framed (program_word device width at).entry
program_relation framed device Words at = word_relation framed _ _
program_relation framed device Byte at = byte_relation framed _

one_relation : {framed : Bool} (device : Device) {a : Known} (width : Width) (at : ℕ) → IsKnown device.ram.lo device.ram.hi framed a
    → IsRelation framed (read_one device a width at).entry
one_relation {framed} device {a} width at form =
    cond_both (is_ram device at) (read a.cells.cells at (size_of width)) (program_word device width at) (λ word. IsRelation framed word.entry)
    (λ e. read_relation framed a.cells.cells at (size_of width) form.each_cell) (λ e. program_relation framed device width at)

pub list_relation : {framed : Bool} (device : Device) {a : Known} (width : Width) (list : List ℕ)
    → IsKnown device.ram.lo device.ram.hi framed a
    → IsRelation framed (read_list device a width list).entry
list_relation {framed} device width [] form = no_relation framed
list_relation device width (only ∷ []) form = one_relation device width only form
list_relation {framed} device {a} width (one ∷ next ∷ rest) form =
    cond_both (nat_le (length rest) 254) (record { set = read_each device a width (read_one device a width one).set (next ∷ rest); entry = None }) (unknown (size_of width))
    (λ word. IsRelation framed word.entry) (λ e. no_relation framed) (λ e. no_relation framed)

abbrev pub IsReachSmall : Reach → Type 0
IsReachSmall (Fixed value) = value < 65536
IsReachSmall other = Unit {0}

pub source_small : (pc : ℕ) (a : Known) (counted : Form) (origin : Source) → IsSource origin
    → IsReachSmall (source_reach pc a counted origin)
source_small pc a counted (source.Immediate value) is = is
source_small pc a counted (source.Constant constant) is = constant_small constant
source_small pc a counted other is = tt

pub destination_small : (pc len : ℕ) (a : Known) (counted : Form) (target : Destination)
    → IsReachSmall (destination_reach pc len a counted target)
destination_small pc len a counted (destination.Register register) = tt
destination_small pc len a counted other = tt

pub operand_form : (laws : InstructionLaws) {device : Device} {framed : Bool} {a : Known} (counted : Form) → IsDevice device
    → IsKnown device.ram.lo device.ram.hi framed a
    → IsNormal 65536 counted → (width : Width) (reach : Reach)
    → IsReachSmall reach → IsWord framed (operand_word device a counted width reach)
operand_form laws counted is form normal width (InRegister register) small = register_word_form laws counted form normal (laws.places.kinds register)
operand_form laws {device} {a} counted is form normal width (InMemory set_so) small = record {
  normal = read_known_normal laws a is form.cells width (located device width set_so);
  entry = list_relation device width (members 65536 (located device width set_so)) form;
}
operand_form laws {framed} counted is form normal width (Fixed value) small = record { normal = (laws.known.sets.single 65536 value small).0; entry = no_relation framed }

pub values_form : (laws : InstructionLaws) {framed : Bool} (width : Width) {word : Word} → IsWord framed word
    → IsNormal (modulus width) (values_of width word)
values_form laws Words is = is.normal
values_form laws Byte {word} is = laws.known.bits.low_normal word.set is.normal

-- WRITES

-- a word that may be written to any place
pub record IsWritable (framed : Bool) (width : Width) (word : Word) : Type 0 where
  pub word_so : IsWord framed word
  pub cell : IsCellWord framed width word

word_writable : {framed : Bool} {word : Word} → IsWord framed word → IsWritable framed Words word
word_writable is = record {
  word_so = is;
  cell = record {
    storable = record { normal = is.normal; byte = λ e. absurd (omega (arith, e)) };
    byte = λ e. absurd (omega (arith, e));
    entry = is.entry;
  };
}

pub written_form : (laws : InstructionLaws) (framed : Bool) (width : Width) (set_so : Form) (entry : Option Entry)
    → IsNormal (modulus width) set_so → IsRelation framed entry
    → IsWritable framed width (written_word width set_so entry)
written_form laws framed Words set_so entry normal form = word_writable (record { normal = normal; entry = form })
written_form laws framed Byte set_so entry normal form =
    let paired = laws.known.bits.pair_normal set_so (single 0) normal (laws.known.sets.single 256 0 (omega arith)).0 in
    record {
      word_so = record { normal = paired; entry = no_relation framed };
      cell = record {
        storable = record { normal = paired; byte = λ e n h. laws.known.bits.pair_byte set_so n normal h };
        byte = λ e. refl;
        entry = no_relation framed;
      };
    }

pub put_form : (laws : InstructionLaws) {device : Device} {framed : Bool} {a : Known} → IsDevice device
    → IsKnown device.ram.lo device.ram.hi framed a
    → {width : Width} (reach : Reach) {word : Word} → IsReachNormal reach
    → IsWritable framed width word → IsKnown device.ram.lo device.ram.hi framed (put_known device framed a width reach word)
put_form laws is form (InRegister register) normal writable = register_form laws (laws.places.kinds register) writable.word_so form
put_form laws {device} is form {width} (InMemory set_so) normal writable =
    let there = located_normal laws is.ram width set_so normal in
    store_form laws (located device width set_so) is (laws.known.sets.some 65536 (located device width set_so) there)
    (located_even laws is.ram width set_so normal) writable.cell form
put_form laws is form (Fixed value) normal writable = form

pub put_if_form : (laws : InstructionLaws) {device : Device} {framed : Bool} {a : Known} → IsDevice device
    → IsKnown device.ram.lo device.ram.hi framed a
    → (writes : Bool) {width : Width} (reach : Reach) {word : Word} → IsReachNormal reach
    → IsWritable framed width word → IsKnown device.ram.lo device.ram.hi framed (put_known_if writes device framed a width reach word)
put_if_form laws is form true reach normal writable = put_form laws is form reach normal writable
put_if_form laws is form false reach normal writable = form

-- the next addresses are in one form, and even where the address behind is
pub record AreNext (ahead : ℕ) (next : Form) : Type 0 where
  pub normal : IsNormal 65536 next
  pub even : ahead % 2 ≡ 0 → HasRemainder 65536 2 0 next

ahead_next : (laws : InstructionLaws) (ahead : ℕ) → ahead < 65536 → AreNext ahead (single ahead)
ahead_next laws ahead small = record {
  normal = (laws.known.sets.single 65536 ahead small).0;
  even = laws.known.sets.single_rest 65536 2 0 ahead;
}

parts_next : (laws : InstructionLaws) (ahead : ℕ) (set_so : Form) → IsNormal 65536 set_so → AreNext ahead (even_parts set_so)
parts_next laws ahead set_so normal = let parts = even_parts_form laws.known set_so normal in record { normal = parts.normal; even = λ even. parts.even }

next_form : (laws : InstructionLaws) (reach : Reach) (word : Word) (ahead : ℕ) → IsNormal 65536 word.set → ahead < 65536
    → AreNext ahead (next_by reach word ahead)
next_form laws (InRegister Pc) word ahead normal small = parts_next laws ahead word.set normal
next_form laws other word ahead normal small = ahead_next laws ahead small

next_if_form : (laws : InstructionLaws) (writes : Bool) (reach : Reach) (word : Word) (ahead : ℕ) → IsNormal 65536 word.set → ahead < 65536
    → AreNext ahead (next_if writes reach word ahead)
next_if_form laws true reach word ahead normal small = next_form laws reach word ahead normal small
next_if_form laws false reach word ahead normal small = ahead_next laws ahead small

-- TWO OPERANDS

counter_form : (laws : InstructionLaws) (pc len : ℕ) (origin : Source) (target : Destination) → IsNormal 65536 (counter_set pc len origin target)
counter_form laws pc len origin target =
    let one = laws.known.sets.single 65536 ((pc + 2) % 65536) (omega arith) in
    let two = laws.known.sets.single 65536 ((pc + 4) % 65536) (omega arith) in
    cond_both (reads_counter origin target) (join 65536 (single ((pc + 2) % 65536)) (single ((pc + 4) % 65536))) (single ((pc + len) % 65536)) (IsNormal 65536)
    (λ e. laws.known.sets.join_normal 65536 (single ((pc + 2) % 65536)) (single ((pc + 4) % 65536)) one.0 two.0)
    (λ e. (laws.known.sets.single 65536 ((pc + len) % 65536) (omega arith)).0)

target_form : (laws : InstructionLaws) {device : Device} {framed : Bool} {a : Known} (counted : Form) → IsDevice device
    → IsKnown device.ram.lo device.ram.hi framed a
    → IsNormal 65536 counted → (done : Operation) (width : Width) (reach : Reach)
    → IsReachSmall reach → IsWord framed (destination_word device a counted done width reach)
target_form laws {device} {framed} {a} counted is form normal done width reach small =
    cond_both (reads_destination done) (operand_word device a counted width reach) (record { set = single 0; entry = None }) (IsWord framed)
    (λ e. operand_form laws counted is form normal width reach small)
    (λ e. record { normal = (laws.known.sets.single 65536 0 (omega arith)).0; entry = no_relation framed })

made_form : (laws : InstructionLaws) {framed : Bool} (done : Operation) (width : Width) (origin : Source) (target : Destination) {one other : Word} (c : Tri)
    → IsWord framed one
    → IsWord framed other
    → IsNormal (modulus width) (made_of done width origin target one other c).0
made_form laws done width origin target {one} {other} c h k =
    cond_both (is_doubled done origin target) (twice_flags width (values_of width other)) (double_made done width (values_of width one) (values_of width other) c)
    (λ (made_so : MadeSet). IsNormal (modulus width) made_so.0)
    (λ e. laws.results.twice_normal width (values_of width other) (values_form laws width k))
    (λ e. laws.results.double_normal done width (values_of width one) (values_of width other) c (values_form laws width h) (values_form laws width k))

-- the parts of what an instruction with operands makes of a state: behind the write of its result, and behind its flags
pub record AreMade (device : Device) (framed : Bool) (put_so after : Known) (ahead : ℕ) (next : Form) : Type 0 where
  pub put : IsKnown device.ram.lo device.ram.hi framed put_so
  pub after_so : IsKnown device.ram.lo device.ram.hi framed after
  pub next_so : AreNext ahead next

pub double_forms : (laws : InstructionLaws) {device : Device} {framed : Bool} {a : Known} → IsDevice device
    → IsKnown device.ram.lo device.ram.hi framed a
    → (pc len : ℕ) (done : Operation) (width : Width) (origin : Source) (target : Destination)
    → IsSource origin → IsDestination target
    → let counted = counter_set pc len origin target in
    let grown_so = grown_known a counted width origin in
    let to = destination_reach pc len grown_so counted target in
    let one = operand_word device a counted width (source_reach pc a counted origin) in
    let other = destination_word device grown_so counted done width to in
    let made_so = made_of done width origin target one other (carry_of a) in
    let word = written_word width made_so.0 (relation_of done (constant_of origin) one.entry other.entry) in
    let put_so = put_known_if (writes_result done) device framed grown_so width to word in
    AreMade device framed put_so (with_flag_bits put_so made_so.1) ((pc + len) % 65536) (next_if (writes_result done) to word ((pc + len) % 65536))
double_forms laws {device} {framed} {a} is form pc len done width origin target from_so to_so =
    let counted = counter_set pc len origin target in
    let counted_so = counter_form laws pc len origin target in
    let grown_so = grown_known a counted width origin in
    let grown_is = grown_form laws counted form counted_so width origin in
    let from = source_reach pc a counted origin in
    let to = destination_reach pc len grown_so counted target in
    let one = operand_word device a counted width from in
    let other = destination_word device grown_so counted done width to in
    let one_is = operand_form laws counted is form counted_so width from (source_small pc a counted origin from_so) in
    let other_is = target_form laws counted is grown_is counted_so done width to (destination_small pc len grown_so counted target) in
    let made_so = made_of done width origin target one other (carry_of a) in
    let relation = relation_of done (constant_of origin) one.entry other.entry in
    let word = written_word width made_so.0 relation in
    let writable = written_form laws framed width made_so.0 relation (made_form laws done width origin target (carry_of a) one_is other_is)
    (relation_form framed done (constant_of origin) one.entry other.entry (λ m e. constant_below origin m from_so e) one_is.entry other_is.entry) in
    let put_is = put_if_form laws is grown_is (writes_result done) to (destination_form laws counted grown_is counted_so pc len target to_so) writable in
    let put_so = put_known_if (writes_result done) device framed grown_so width to word in
    record {
      put = put_is;
      after_so = flags_form made_so.1 put_is;
      next_so = next_if_form laws (writes_result done) to word ((pc + len) % 65536) writable.word_so.normal (omega arith);
    }

pub double_well_made : (laws : InstructionLaws)
    → (device : Device) (framed : Bool) (a : Known) (pc len : ℕ) (done : Operation) (width : Width) (origin : Source) (target : Destination)
    → IsDevice device
    → IsKnown device.ram.lo device.ram.hi framed a → IsSource origin → IsDestination target
    → IsWellMade device framed ((pc + len) % 65536) (double_worked device framed a pc len done width origin target)
unfolding double_worked
double_well_made laws device framed a pc len done width origin target is form from_so to_so =
    let forms = double_forms laws is form pc len done width origin target from_so to_so in
    record { form = forms.after_so; next = forms.next_so.normal; even = forms.next_so.even }

-- ONE OPERAND

pub single_forms : (laws : InstructionLaws) {device : Device} {framed : Bool} {a : Known} → IsDevice device
    → IsKnown device.ram.lo device.ram.hi framed a
    → (pc len : ℕ) (done : SingleOperation) (width : Width) (operand : Source)
    → IsSource operand → HasWidth done width
    → let counted = single ((pc + len) % 65536) in
    let grown_so = grown_known a counted width operand in
    let from = source_reach pc a counted operand in
    let made_so = single_made done width (values_of width (operand_word device a counted width from)) (carry_of a) in
    let word = written_word width made_so.0 None in
    let put_so = put_known device framed grown_so width from word in
    AreMade device framed put_so (with_flag_bits put_so made_so.1) ((pc + len) % 65536) (next_by from word ((pc + len) % 65536))
single_forms laws {device} {framed} {a} is form pc len done width operand from_so fits =
    let counted = single ((pc + len) % 65536) in
    let counted_so = (laws.known.sets.single 65536 ((pc + len) % 65536) (omega arith)).0 in
    let grown_so = grown_known a counted width operand in
    let grown_is = grown_form laws counted form counted_so width operand in
    let from = source_reach pc a counted operand in
    let one = operand_word device a counted width from in
    let one_is = operand_form laws counted is form counted_so width from (source_small pc a counted operand from_so) in
    let made_so = single_made done width (values_of width one) (carry_of a) in
    let word = written_word width made_so.0 None in
    let writable = written_form laws framed width made_so.0 None (laws.results.single_normal done width (values_of width one) (carry_of a) fits (values_form laws width one_is))
    (no_relation framed) in
    let put_is = put_form laws is grown_is from (source_form laws counted form counted_so pc operand from_so) writable in
    let put_so = put_known device framed grown_so width from word in
    record {
      put = put_is;
      after_so = flags_form made_so.1 put_is;
      next_so = next_form laws from word ((pc + len) % 65536) writable.word_so.normal (omega arith);
    }

pub single_well_made : (laws : InstructionLaws)
    → (device : Device) (framed : Bool) (a : Known) (pc len : ℕ) (done : SingleOperation) (width : Width) (operand : Source)
    → IsDevice device
    → IsKnown device.ram.lo device.ram.hi framed a → IsSource operand → HasWidth done width
    → IsWellMade device framed ((pc + len) % 65536) (single_worked device framed a pc len done width operand)
unfolding single_worked
single_well_made laws device framed a pc len done width operand is form from_so fits =
    let forms = single_forms laws is form pc len done width operand from_so fits in
    record { form = forms.after_so; next = forms.next_so.normal; even = forms.next_so.even }

-- PUSH AND CALL

lowered_form : (laws : InstructionLaws) {lo hi : ℕ} {framed : Bool} {a : Known} → IsKnown lo hi framed a → IsKnown lo hi framed (lowered_known a)
lowered_form laws {a} form =
    sp_form laws (add 65536 a.sp (single 65534)) (moved_normal laws.known a.sp 65534 (omega arith) form.sp.normal) form

forming_form : (laws : InstructionLaws) {lo hi : ℕ} {framed : Bool} {a : Known} (operand : Source) → IsKnown lo hi framed a
    → IsKnown lo hi framed (forming_known operand a)
forming_form laws {lo} {hi} {framed} {a} operand form =
    let less = add 65536 a.sp (single 65534) in
    let less_normal = moved_normal laws.known a.sp 65534 (omega arith) form.sp.normal in
    cond_both (is_formed_by_stack operand) (with_sp a (join 65536 a.sp less)) a (IsKnown lo hi framed)
    (λ e. sp_form laws (join 65536 a.sp less) (laws.known.sets.join_normal 65536 a.sp less form.sp.normal less_normal) form) (λ e. form)

byte_form : (laws : InstructionLaws) {framed : Bool} {x : Word} → IsWord framed x
    → IsWord framed (record { set = pair_set (values_of Byte x) (make 256 0 1 256); entry = None })
byte_form laws {framed} {x} is = record {
  normal = laws.known.bits.pair_normal (values_of Byte x) (make 256 0 1 256) (values_form laws Byte is) (laws.known.sets.whole_normal 256 (omega arith));
  entry = no_relation framed;
}

pushed_form : (laws : InstructionLaws) {framed : Bool} (done : SingleOperation) (width : Width) {x : Word} (after : ℕ)
    → after < 65536 → IsWord framed x
    → IsWord framed (pushed_known done width x after)
pushed_form laws {framed} Call width after small is = record { normal = (laws.known.sets.single 65536 after small).0; entry = no_relation framed }
pushed_form laws other Words after small is = is
pushed_form laws other Byte after small is = byte_form laws is

called_form : (laws : InstructionLaws) {framed : Bool} (done : SingleOperation) (width : Width) {x : Word} (after : ℕ)
    → after < 65536 → IsWord framed x
    → AreNext after (called_next done width x after)
called_form laws {framed} Call width {x} after small is =
    let target = written_word width (values_of width x) None in
    parts_next laws after target.set (written_form laws framed width (values_of width x) None (values_form laws width is) (no_relation framed)).word_so.normal
called_form laws other width after small is = ahead_next laws after small

pub push_well_made : (laws : InstructionLaws)
    → (device : Device) (framed : Bool) (a : Known) (pc len : ℕ) (done : SingleOperation) (width : Width) (operand : Source)
    → IsDevice device
    → IsKnown device.ram.lo device.ram.hi framed a → IsSource operand
    → IsWellMade device framed ((pc + len) % 65536) (push_worked device framed a pc len done width operand)
unfolding push_worked
push_well_made laws device framed a pc len done width operand is form from_so =
    let after = (pc + len) % 65536 in
    let small : after < 65536 = omega arith in
    let counted = single after in
    let counted_so = (laws.known.sets.single 65536 after small).0 in
    let forming = forming_known operand a in
    let forming_is = forming_form laws operand form in
    let from = source_reach pc forming counted operand in
    let x = operand_word device forming counted width from in
    let x_is = operand_form laws counted is forming_is counted_so width from (source_small pc forming counted operand from_so) in
    let grown_so = grown_known a counted width operand in
    let at = lowered_known grown_so in
    let at_is = lowered_form laws (grown_form laws counted form counted_so width operand) in
    let next_so = called_form laws done width after small x_is in
    record {
      form = put_form laws is at_is (InMemory at.sp) at_is.sp.normal
          (word_writable (pushed_form laws done width after small x_is));
      next = next_so.normal;
      even = next_so.even;
    }
