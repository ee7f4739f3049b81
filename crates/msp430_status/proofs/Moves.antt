-- What MOV of the same source to R3 and to R4 tells: the state behind the growth, and what the source holds.
use Rattle.std.proofs.Common.{◌≡◌, ℕ, ◌+◌, ◌*◌, ◌%◌, ◌<◌, ◌||◌, Bool, false, Option, None, List, length, take, get_or, set, refl, sym, ap, ◌∙◌, subst, inl, inr, arith, get_or-set_same, get_or-set_other}
use Rattle.std.proofs.lemmas.Bool.{cases_Bool, cond-false, false≢true}
use Rattle.std.proofs.lemmas.List.{length-set}
use Rattle.std.proofs.lemmas.List.Elements.{All-get_or}
use Rattle.std.specs.Option.{option_map}
use Rattle.choosing.specs.Asking.{IsOption}
use Rattle.entry_value.specs.declared.word.Entry.{Entry}
use Rattle.entry_value.specs.declared.word.Word.{Word}
use Rattle.entry_value.specs.Cells.{unknown}
use Rattle.entry_value.specs.Words.{HoldsOfWord, IsFromEntry}
use Rattle.irq_frames.specs.KnownLaws.{KnownLaws}
use Rattle.value_set.specs.declared.form.Form.{Form}
use Rattle.value_set.specs.Form.{Has}
use Rattle.value_set.specs.Summing.{single}
use Rattle.value_bits.specs.Bits.{Agrees, known_bits}
use Rattle.msp430_decode.specs.declared.instr.Destination.TheVariants as destination
use Rattle.msp430_decode.specs.declared.instr.Instr.TheVariants.{Double}
use Rattle.msp430_decode.specs.declared.instr.Operation.{Operation}
use Rattle.msp430_decode.specs.declared.instr.Operation.TheVariants.{Mov}
use Rattle.msp430_decode.specs.declared.instr.Register.{Register}
use Rattle.msp430_decode.specs.declared.instr.Register.TheVariants.{Sr, R3, R4}
use Rattle.msp430_decode.specs.declared.instr.Source.{Source}
use Rattle.msp430_decode.specs.declared.instr.Source.TheVariants as source
use Rattle.msp430_decode.specs.declared.instr.Width.{Width}
use Rattle.msp430_decode.specs.declared.instr.Width.TheVariants.{Word as Words, Byte}
use Rattle.msp430_decode.specs.Operands.{IsSource}
use Rattle.msp430_chip.specs.declared.device.Device.{Device}
use Rattle.msp430_chip.specs.declared.place.Place.{Place}
use Rattle.msp430_chip.specs.declared.place.Place.TheVariants as place
use Rattle.msp430_chip.specs.declared.state.ChipState.{ChipState}
use Rattle.msp430_chip.specs.Kinds.Kind.{Counter, Stack, Status, Empty, General}
use Rattle.msp430_chip.specs.Laws.{PlaceLaws}
use Rattle.msp430_chip.specs.Leading.{MayCount, MayDouble, at_source, behind_source, origin_of}
use Rattle.msp430_chip.specs.Leading.MayCount.{Behind, Within}
use Rattle.msp430_chip.specs.Leading.MayLeaveDouble.{OfResult}
use Rattle.msp430_chip.specs.Operands.{grown, growth, has_free_bits, with_free_bits, with_register, value_in}
use Rattle.msp430_chip.specs.Outcome.{Outcome}
use Rattle.msp430_chip.specs.State.{even, register_of}
use Rattle.msp430_chip.specs.Step.{Left, behind, done as ended, double_accesses, put, reads_counter, with_status}
use Rattle.msp430_results.specs.Words.{values_of, written_word}
use Rattle.msp430_state.specs.Forms.{IsKnown, IsRelation, IsWord}
use Rattle.msp430_state.specs.Holding.{HoldsOfParts, suspended_of}
use Rattle.msp430_state.specs.Known.{Known, word_of}
use Rattle.msp430_alu.specs.Doing.{here_at}
use Rattle.msp430_alu.specs.Formats.{IsUnder, counter_set, double_worked}
use Rattle.msp430_alu.specs.Laws.{DoublesHold, WordsHold}
use Rattle.msp430_alu.specs.Memory.{IsDevice}
use Rattle.msp430_alu.specs.Operands.{grown_known, operand_word, source_reach}
use Rattle.msp430_status.specs.Status.{lowest_bits}
use Rattle.msp430_status.proofs.BitLemmas.{AgreesBelow, places, taken_agrees}

-- the laws of instructions and of bits that the law of SR rests on
pub record StatusLaws : Type 0 where
  pub known : KnownLaws
  pub words : WordsHold
  pub doubles : DoublesHold
  pub places : PlaceLaws

-- PC AS AN OPERAND

reads_none : PlaceLaws → (origin : Source) (target : Register)
    → reads_counter origin (destination.Register target) ≡ false
reads_none places (source.Register register) target = elim (places.kinds register) [
  | Counter e ↦ ap (λ r. reads_counter (source.Register r) (destination.Register target)) e
  | Stack e ↦ ap (λ r. reads_counter (source.Register r) (destination.Register target)) e
  | Status e ↦ ap (λ r. reads_counter (source.Register r) (destination.Register target)) e
  | Empty e ↦ ap (λ r. reads_counter (source.Register r) (destination.Register target)) e
  | General is ↦ is.no_counter (destination.Register target)
]
reads_none places other target = refl

pub counter_one : (laws : StatusLaws) (pc len : ℕ) (origin : Source) (target : Register)
    → counter_set pc len origin (destination.Register target) ≡ single ((pc + len) % 65536)
counter_one laws pc len origin target = cond-false (reads_counter origin (destination.Register target)) _ (single ((pc + len) % 65536)) (reads_none laws.places origin target)

counts_behind : (laws : StatusLaws) (s : ChipState) (len : ℕ) (origin : Source) (target : Register) (counted : ℕ)
    → MayCount s len origin (destination.Register target) counted
    → counted ≡ behind s len
counts_behind laws s len origin target counted (Behind none is) = is
counts_behind laws s len origin target counted (Within some option few is) = absurd (false≢true (sym (reads_none laws.places origin target) ∙ some))

-- MOVES

-- the free bits of SR as the source, where they are asked
pub record FreeBits (width : Width) (stands : Place) (bits x : ℕ) : Type 0 where
  pub chosen : ℕ
  pub option : IsOption (has_free_bits width stands || false) 128 chosen
  pub same : with_free_bits width stands chosen x ≡ with_free_bits width stands bits x

free_bits : (width : Width) (stands : Place) (bits x : ℕ) → bits < 128 → FreeBits width stands bits x
free_bits width stands bits x few = elim (cases_Bool (has_free_bits width stands)) [
  | inl asked ↦ record {
    chosen = bits;
    option = record { below = few; none = λ e. absurd (false≢true (sym e ∙ ap (λ b. b || false) asked)) };
    same = refl;
  }
  | inr never ↦ record {
    chosen = 0;
    option = record { below = omega arith; none = λ e. refl };
    same = cond-false (has_free_bits width stands) (x + 512 * 0) x never ∙ sym (cond-false (has_free_bits width stands) (x + 512 * bits) x never);
  }
]

-- the registers behind the source
abbrev pub registers_behind : ChipState → (len counted : ℕ) → Width → Source → List ℕ
registers_behind s len counted width origin = set (behind_source s counted width origin) 0 (behind s len)

-- the source as a number
abbrev pub source_number : ChipState → (counted : ℕ) → Width → Source → (bits x : ℕ) → ℕ
source_number s counted width origin bits x = with_free_bits width (origin_of s counted origin) bits x

abbrev pub moved_left : Device → ChipState → (len counted : ℕ) → Width → Source → Register → (v : ℕ) → Left
moved_left device s len counted width origin target v = with_status None (put device (registers_behind s len counted width origin) s.ram width (place.InRegister target) v)

pub record Moved (device : Device) (s : ChipState) (len counted : ℕ) (width : Width) (origin : Source) (target : Register) (v : ℕ) : Type 0 where
  pub outcome : Outcome ChipState
  pub may : MayDouble device s len Mov width origin (destination.Register target) outcome
  pub left_is : may.left ≡ moved_left device s len counted width origin target v

moved : (laws : StatusLaws) {device : Device} {s : ChipState} {len : ℕ} {done : Operation} {width : Width} {origin : Source} {outcome : Outcome ChipState}
    (may : MayDouble device s len done width origin (destination.Register Sr) outcome)
    (target : Register) → Moved device s len may.counted width origin target (source_number s may.counted width origin may.bits may.x)
moved laws {device} {s} {len} {width} {origin} {outcome} may target =
    let free = free_bits width (origin_of s may.counted origin) may.bits may.x may.free.below in
    let v = source_number s may.counted width origin free.chosen may.x in
    let left = moved_left device s len may.counted width origin target v in
    record {
      outcome = ended s (Double Mov width origin (destination.Register target))
          (double_accesses device (register_of s 0) Mov width (origin_of s may.counted origin) (place.InRegister target)) left;
      may = record {
        counted = may.counted;
        x = may.x;
        y = 0;
        bits = free.chosen;
        left = left;
        counts = Behind (reads_none laws.places origin target) (counts_behind laws s len origin Sr may.counted may.counts);
        reads = may.reads;
        held = refl;
        free = free.option;
        leaves = OfResult refl (v, None) refl refl;
        outcome_is = refl;
      };
      left_is = ap (moved_left device s len may.counted width origin target) free.same;
    }

-- MOV to R3 leaves what is grown
pub grown_form : (laws : StatusLaws) {device : Device} {framed : Bool} {a : Known} (pc len : ℕ) (width : Width) (origin : Source)
    → IsDevice device
    → IsKnown device.ram.lo device.ram.hi framed a → IsSource origin
    → IsKnown device.ram.lo device.ram.hi framed (grown_known a (single ((pc + len) % 65536)) width origin)
unfolding double_worked
grown_form laws {device} {framed} {a} pc len width origin is form from_so =
    subst (λ counted. IsKnown device.ram.lo device.ram.hi framed (grown_known a counted width origin)) (counter_one laws pc len origin R3)
    (laws.doubles.made device framed a pc len Mov width origin (destination.Register R3) is form from_so tt).form

pub grown_parts : (laws : StatusLaws) {device : Device} {framed : Bool} {a : Known} {s : ChipState} {first : Option ChipState} {len : ℕ} {done : Operation} {width : Width}
    {origin : Source} {outcome : Outcome ChipState}
    → IsUnder device framed a s first → IsSource origin → (may : MayDouble device s len done width origin (destination.Register Sr) outcome)
    → let registers = registers_behind s len may.counted width origin in
    HoldsOfParts device (grown_known a (single ((register_of s 0 + len) % 65536)) width origin) first (set registers 2 (get_or registers 2 0)) s.ram
unfolding double_worked
grown_parts laws {device} {framed} {a} {s} {first} {len} {width} {origin} under from_so may =
    let by = moved laws may R3 in
    let v = source_number s may.counted width origin may.bits may.x in
    let is = (laws.doubles.comes (here_at device framed a s first) len Mov width origin (destination.Register R3) by.outcome under from_so tt tt by.may).left_so in
    subst (λ counted. HoldsOfParts device (grown_known a counted width origin) first (moved_left device s len may.counted width origin R3 v).registers s.ram)
    (counter_one laws (register_of s 0) len origin R3)
    (subst (λ (left : Left). HoldsOfParts device (grown_known a (counter_set (register_of s 0) len origin (destination.Register R3)) width origin) first left.registers left.ram) by.left_is is.parts)

-- MOV to R4 shows the source
written_set : (width : Width) (word : Word) (entry : Option Entry)
    → (written_word width (values_of width word) entry).set ≡ (written_word width (values_of width word) None).set
written_set Words word entry = refl
written_set Byte word entry = refl

written_entry : (width : Width) (word : Word) (entry : Option Entry) → width ≡ Words
    → (written_word width (values_of width word) entry).entry ≡ entry
written_entry Words word entry e = refl
written_entry Byte word entry e = absurd (cc)

-- the word that MOV to R4 leaves there
moved_word : (laws : StatusLaws) {device : Device} {framed : Bool} {a : Known} (pc len : ℕ) (width : Width) (origin : Source)
    → IsDevice device
    → IsKnown device.ram.lo device.ram.hi framed a → IsSource origin
    → let counted = counter_set pc len origin (destination.Register R4) in let word = operand_word device a counted width (source_reach pc a counted origin) in
    word_of (double_worked device framed a pc len Mov width origin (destination.Register R4)).after 4 ≡ written_word width (values_of width word) word.entry
unfolding double_worked
moved_word laws {device} {framed} {a} pc len width origin is form from_so =
    let counted = counter_set pc len origin (destination.Register R4) in
    let word = operand_word device a counted width (source_reach pc a counted origin) in
    let grown_so = grown_known a counted width origin in
    let grown_is : IsKnown device.ram.lo device.ram.hi framed grown_so =
    subst (λ counted. IsKnown device.ram.lo device.ram.hi framed (grown_known a counted width origin)) (sym (counter_one laws pc len origin R4))
    (grown_form laws pc len width origin is form from_so) in
    let some : 0 < length grown_so.registers = omega (arith, grown_is.count) in
    get_or-set_same grown_so.registers 0 (written_word width (values_of width word) word.entry) (unknown 2) some

moved_word_form : (laws : StatusLaws) {device : Device} {framed : Bool} {a : Known} (pc len : ℕ) (width : Width) (origin : Source)
    → IsDevice device
    → IsKnown device.ram.lo device.ram.hi framed a → IsSource origin
    → IsWord framed (word_of (double_worked device framed a pc len Mov width origin (destination.Register R4)).after 4)
moved_word_form laws {device} {framed} {a} pc len width origin is form from_so =
    let after = (double_worked device framed a pc len Mov width origin (destination.Register R4)).after in
    let known = (laws.doubles.made device framed a pc len Mov width origin (destination.Register R4) is form from_so tt).form in
    All-get_or (IsWord framed) after.registers 0 (unknown 2) (omega (arith, known.count)) known.registers

-- the relation of a word, as the source is read, is in form
pub source_relation : (laws : StatusLaws) {device : Device} {framed : Bool} {a : Known} (pc len : ℕ) (width : Width) (origin : Source)
    → IsDevice device
    → IsKnown device.ram.lo device.ram.hi framed a → IsSource origin → width ≡ Words
    → let counted = single ((pc + len) % 65536) in IsRelation framed (operand_word device a counted width (source_reach pc a counted origin)).entry
source_relation laws {device} {framed} {a} pc len width origin is form from_so e =
    let Relation : Form → Type 0 = λ counted. IsRelation framed (operand_word device a counted width (source_reach pc a counted origin)).entry in
    let counted = counter_set pc len origin (destination.Register R4) in
    let word = operand_word device a counted width (source_reach pc a counted origin) in
    let same = ap (λ (w : Word). w.entry) (moved_word laws pc len width origin is form from_so) ∙ written_entry width word word.entry e in
    subst Relation (counter_one laws pc len origin R4) (subst (IsRelation framed) same (moved_word_form laws pc len width origin is form from_so).entry)

with_length : (laws : StatusLaws) (registers : List ℕ) (register : Register) (value : ℕ)
    → length (with_register registers register value) ≡ length registers
with_length laws registers register value = elim (laws.places.kinds register) [
  | Counter e ↦ rw e (length-set registers 0 (even value))
  | Stack e ↦ rw e (length-set registers 1 (even value))
  | Status e ↦ rw e (length-set registers 2 (value % 512))
  | Empty e ↦ rw e refl
  | General is ↦ rw (is.set registers value) (length-set registers _ value)
]

grown_length : (laws : StatusLaws) (registers : List ℕ) (width : Width) (origin : Source)
    → length (grown registers width origin) ≡ length registers
grown_length laws registers width (source.IndirectIncrement register) = with_length laws registers register ((value_in registers register + growth width register) % 65536)
grown_length laws registers width other = refl

pub behind_length : (laws : StatusLaws) (s : ChipState) (len counted : ℕ) (width : Width) (origin : Source)
    → length (registers_behind s len counted width origin) ≡ length s.registers
behind_length laws s len counted width origin =
    length-set (behind_source s counted width origin) 0 (behind s len) ∙ (grown_length laws (at_source s counted) width origin ∙ length-set s.registers 0 counted)

-- what stands in R4 behind the move
moved_number : (laws : StatusLaws) (device : Device) (s : ChipState) (len counted : ℕ) (width : Width) (origin : Source) (v : ℕ)
    → length s.registers ≡ 16
    → get_or (moved_left device s len counted width origin R4 v).registers 4 0 ≡ v
moved_number laws device s len counted width origin v sixteen =
    let registers = registers_behind s len counted width origin in
    let long = behind_length laws s len counted width origin in
    get_or-set_other (set registers 4 v) 2 4 _ 0 (λ e. omega (arith, e)) ∙ get_or-set_same registers 4 v 0 (omega (arith, long, sixteen))

-- the source's number has the bits that are known of it, and a word came from where its relation says
pub record IsKnownSource (device : Device) (a : Known) (first : Option ChipState) (pc len : ℕ) (width : Width) (origin : Source) (v : ℕ) : Type 0 where
  pub agrees : let counted = single ((pc + len) % 65536) in AgreesBelow (places width)
      (lowest_bits width (operand_word device a counted width (source_reach pc a counted origin))) v
  pub from : width ≡ Words → let counted = single ((pc + len) % 65536) in
      IsFromEntry (option_map suspended_of first) (operand_word device a counted width (source_reach pc a counted origin)).entry v
  pub below : v < 65536

pub source_known : (laws : StatusLaws) {device : Device} {framed : Bool} {a : Known} {s : ChipState} {first : Option ChipState} {len : ℕ} {done : Operation} {width : Width}
    {origin : Source} {outcome : Outcome ChipState}
    → IsUnder device framed a s first → IsSource origin → (may : MayDouble device s len done width origin (destination.Register Sr) outcome)
    → IsKnownSource device a first (register_of s 0) len width origin (source_number s may.counted width origin may.bits may.x)
source_known laws {device} {framed} {a} {s} {first} {len} {width} {origin} under from_so may =
    let pc = register_of s 0 in
    let by = moved laws may R4 in
    let v = source_number s may.counted width origin may.bits may.x in
    let is = (laws.doubles.comes (here_at device framed a s first) len Mov width origin (destination.Register R4) by.outcome under from_so tt tt by.may).left_so in
    let after = (double_worked device framed a pc len Mov width origin (destination.Register R4)).after in
    let under_first = option_map suspended_of first in
    let (has, came) : HoldsOfWord under_first (word_of after 4) (get_or by.may.left.registers 4 0) = is.parts.words 4 (omega arith) (omega arith) in
    let same : get_or by.may.left.registers 4 0 ≡ v = ap (λ (left : Left). get_or left.registers 4 0) by.left_is
    ∙ moved_number laws device s len may.counted width origin v under.holds.state.registers in
    let there : Has 65536 (word_of after 4).set v = subst (Has 65536 (word_of after 4).set) same has in
    let normal = (moved_word_form laws pc len width origin under.device_so under.form from_so).normal in
    let agrees : Agrees (known_bits 16 (word_of after 4).set) v = laws.known.bits.known 16 v (word_of after 4).set normal there in
    let Bits : Form → Type 0 = λ counted. AgreesBelow (places width) (lowest_bits width (operand_word device a counted width (source_reach pc a counted origin))) v in
    let counted = counter_set pc len origin (destination.Register R4) in
    let word = operand_word device a counted width (source_reach pc a counted origin) in
    let left_word = moved_word laws pc len width origin under.device_so under.form from_so in
    let set_is : (word_of after 4).set ≡ (written_word width (values_of width word) None).set =
    ap (λ (w : Word). w.set) left_word ∙ written_set width word word.entry in
    let From : Form → Type 0 = λ counted. IsFromEntry under_first (operand_word device a counted width (source_reach pc a counted origin)).entry v in
    record {
      agrees = subst Bits (counter_one laws pc len origin R4)
          (subst (λ set. AgreesBelow (places width) (take 9 (known_bits 16 set)) v) set_is (taken_agrees width (known_bits 16 (word_of after 4).set) v agrees));
      from = λ e. subst From (counter_one laws pc len origin R4)
          (subst (λ entry. IsFromEntry under_first entry v) (ap (λ (w : Word). w.entry) left_word ∙ written_entry width word word.entry e)
          (subst (IsFromEntry under_first (word_of after 4).entry) same came));
      below = laws.known.sets.below 65536 v (word_of after 4).set normal there;
    }
