-- What the formats of instructions make of what is known of a state: the two operands, the one operand, PUSH and CALL.
use Rattle.std.specs.Prelude.{◌≡◌, ℕ, ◌+◌, ◌-◌, ◌%◌, ◌==◌, if◌then◌else◌, Bool, true, false, Option, None, Some, option_map, List, [], ◌∷◌, ◌++◌, slice_index, slice_index_or, Contains}
use Rattle.call_context.specs.Showing.{AreShowing}
use Rattle.chip_numbers.specs.Single.{Single}
use Rattle.call_context.specs.declared.shown.Item.{Item}
use Rattle.call_context.specs.declared.shown.Item.TheVariants.{Access}
use Rattle.call_context.specs.declared.shown.Set.TheVariants.{W}
use Rattle.chip_numbers.specs.declared.space.Space.TheVariants.{Mem}
use Rattle.entry_value.specs.declared.word.Entry.{Entry}
use Rattle.entry_value.specs.declared.word.Word.{Word}
use Rattle.entry_value.specs.Words.{entry_and, entry_or}
use Rattle.value_set.specs.declared.form.Form.{Form}
use Rattle.value_set.specs.Form.{Has, make}
use Rattle.value_set.specs.Joining.{join}
use Rattle.value_set.specs.Summing.{add, single}
use Rattle.value_bits.specs.declared.tri.Tri.{Tri}
use Rattle.value_bits.specs.declared.tri.Tri.TheVariants.{Either}
use Rattle.value_bits.specs.Sets.{pair_set}
use Rattle.msp430_decode.specs.declared.instr.Destination.{Destination}
use Rattle.msp430_decode.specs.declared.instr.Destination.TheVariants as destination
use Rattle.msp430_decode.specs.declared.instr.Operation.{Operation}
use Rattle.msp430_decode.specs.declared.instr.Operation.TheVariants as operation
use Rattle.msp430_decode.specs.declared.instr.Register.{Register}
use Rattle.msp430_decode.specs.declared.instr.Register.TheVariants.{Pc, Sr}
use Rattle.msp430_decode.specs.declared.instr.SingleOperation.{SingleOperation}
use Rattle.msp430_decode.specs.declared.instr.SingleOperation.TheVariants.{Call}
use Rattle.msp430_decode.specs.declared.instr.Source.{Source}
use Rattle.msp430_decode.specs.declared.instr.Source.TheVariants as source
use Rattle.msp430_decode.specs.declared.instr.Width.{Width}
use Rattle.msp430_decode.specs.declared.instr.Width.TheVariants.{Word as Words, Byte}
use Rattle.msp430_decode.specs.Codes.{number}
use Rattle.msp430_chip.specs.declared.device.Device.{Device}
use Rattle.msp430_chip.specs.Arithmetic.{writes_result, reads_destination}
use Rattle.msp430_chip.specs.Memory.{hit_at, size_of}
use Rattle.msp430_decode.specs.Operands.{constant_value}
use Rattle.msp430_chip.specs.Step.{reads_counter, is_formed_by_stack, Left}
use Rattle.msp430_chip.specs.declared.state.ChipState.{ChipState}
use Rattle.msp430_state.specs.Forms.{IsKnown}
use Rattle.msp430_state.specs.Holding.{HoldsOf, HoldsOfParts}
use Rattle.msp430_state.specs.Known.{Known}
use Rattle.msp430_alu.specs.declared.reach.Reach.{Reach}
use Rattle.msp430_alu.specs.declared.reach.Reach.TheVariants.{InRegister, InMemory, Fixed}
use Rattle.msp430_results.specs.FlagSets.{MadeSet, IsResult}
use Rattle.msp430_alu.specs.Memory.{IsDevice, located, with_store}
use Rattle.msp430_alu.specs.Operands.{source_reach, destination_reach, grown_known, operand_word}
use Rattle.msp430_results.specs.Words.{values_of, written_word}
use Rattle.msp430_alu.specs.Registers.{even_parts, put_register, with_flag_bits, with_sp}
use Rattle.msp430_results.specs.Results.{double_made, single_made, twice_flags}

-- WRITES TO A PLACE

abbrev pub put_known : Device → (framed : Bool) → Known → Width → Reach → Word → Known
put_known device framed a width (InRegister register) word = put_register a register word
put_known device framed a width (InMemory set) word = with_store device framed a width (located device width set) word
put_known device framed a width (Fixed value) word = a

abbrev pub put_known_if : Bool → Device → (framed : Bool) → Known → Width → Reach → Word → Known
put_known_if true device framed a width reach word = put_known device framed a width reach word
put_known_if false device framed a width reach word = a

-- the next address: where PC is written, what is written there, and else what follows
abbrev pub next_by : Reach → Word → (behind : ℕ) → Form
next_by (InRegister Pc) word behind = even_parts word.set
next_by other word behind = single behind

abbrev pub next_if : Bool → Reach → Word → (behind : ℕ) → Form
next_if true reach word behind = next_by reach word behind
next_if false reach word behind = single behind

-- RESULTS AS WORDS

-- the number that a source is, if it is one
abbrev pub constant_of : Source → Option ℕ
constant_of (source.Immediate value) = Some value
constant_of (source.Constant constant) = Some (constant_value constant)
constant_of other = None

abbrev pub masked_and : Option ℕ → Option Entry → Option Entry
masked_and None entry = None
masked_and (Some m) entry = option_map (entry_and m) entry

abbrev pub masked_clear : Option ℕ → Option Entry → Option Entry
masked_clear None entry = None
masked_clear (Some m) entry = option_map (entry_and (65535 - m)) entry

abbrev pub masked_or : Option ℕ → Option Entry → Option Entry
masked_or None entry = None
masked_or (Some m) entry = option_map (entry_or m) entry

-- copies keep a relation, and AND, BIC and BIS with a constant mask it; all else drops it
abbrev pub relation_of : Operation → (constant : Option ℕ) → (source destination : Option Entry) → Option Entry
relation_of operation.Mov constant s d = s
relation_of operation.And constant s d = masked_and constant d
relation_of operation.Bic constant s d = masked_clear constant d
relation_of operation.Bis constant s d = masked_or constant d
relation_of other constant s d = None

-- TWO OPERANDS

-- PC as an operand: behind the instruction, or in front of one of its extension words
abbrev pub counter_set : (pc len : ℕ) → Source → Destination → Form
counter_set pc len source target =
    if reads_counter source target then join 65536 (single ((pc + 2) % 65536)) (single ((pc + 4) % 65536)) else single ((pc + len) % 65536)

abbrev pub is_one_register : Register → Register → Bool
is_one_register a b = number a == number b

-- ADD of a register to itself
abbrev pub is_doubled : Operation → Source → Destination → Bool
is_doubled operation.Add (source.Register register) (destination.Register other) = is_one_register register other
is_doubled operation.Add other target = false
is_doubled other origin target = false

abbrev pub carry_of : Known → Tri
carry_of a = slice_index_or a.status.bits 0 Either

-- what a destination may hold, where the operation reads it
abbrev pub destination_word : Device → Known → (counted : Form) → Operation → Width → Reach → Word
destination_word device a counted operation width reach =
    if reads_destination operation then operand_word device a counted width reach else record { set = single 0; entry = None }

abbrev pub made_of : Operation → Width → Source → Destination → (s d : Word) → Tri → MadeSet
made_of operation width origin target s d carry =
    if is_doubled operation origin target then twice_flags width (values_of width d)
    else double_made operation width (values_of width s) (values_of width d) carry

-- what an instruction makes of what is known: the state behind it, the next addresses, its accesses, and the addresses of
-- a store, if it stores
pub record Worked : Type 0 where
  pub after : Known
  pub next : Form
  pub accesses : List Item
  pub store : Option Form

abbrev pub access_of : Device → (pc : ℕ) → (write : Bool) → Width → Reach → List Item
access_of device pc write width (InMemory set) = Access pc Mem write (size_of width) (W (located device width set)) ∷ []
access_of device pc write width other = []

abbrev pub access_if : Bool → Device → (pc : ℕ) → (write : Bool) → Width → Reach → List Item
access_if true device pc write width reach = access_of device pc write width reach
access_if false device pc write width reach = []

abbrev pub store_of : Bool → Device → Width → Reach → Option Form
store_of true device width (InMemory set) = Some (located device width set)
store_of true device width other = None
store_of false device width reach = None

-- by the stages: where the operands stand, what they hold, the result, and what it leaves
abbrev pub double_behind : Device → (framed : Bool) → (pc len : ℕ) → Operation → Width → Source → Destination
    → (counted : Form) → (grown_so : Known) → (origin target_so : Reach) → (s d : Word) → (carry : Tri) → Worked
double_behind device framed pc len done width origin target counted grown_so from to s d carry =
    let made_so = made_of done width origin target s d carry in
    let word = written_word width made_so.0 (relation_of done (constant_of origin) s.entry d.entry) in
    record {
      after = with_flag_bits (put_known_if (writes_result done) device framed grown_so width to word) made_so.1;
      next = next_if (writes_result done) to word ((pc + len) % 65536);
      accesses = access_of device pc false width from ++ access_if (reads_destination done) device pc false width to ++ access_if (writes_result done) device pc true width to;
      store = store_of (writes_result done) device width to;
    }

unfoldable pub double_worked : Device → (framed : Bool) → Known → (pc len : ℕ) → Operation → Width → Source → Destination → Worked
double_worked device framed a pc len done width origin target =
    let counted = counter_set pc len origin target in
    let from = source_reach pc a counted origin in
    let grown_so = grown_known a counted width origin in
    let to = destination_reach pc len grown_so counted target in
    double_behind device framed pc len done width origin target counted grown_so from to (operand_word device a counted width from) (destination_word device grown_so counted done width to) (carry_of a)

-- ONE OPERAND

-- from its place and what it holds; results have no relation
abbrev pub single_behind : Device → (framed : Bool) → (pc len : ℕ) → SingleOperation → Width → (grown_so : Known)
    → (from : Reach) → (x : Word) → (carry : Tri) → Worked
single_behind device framed pc len done width grown_so from x carry =
    let made_so = single_made done width (values_of width x) carry in
    let word = written_word width made_so.0 None in
    record {
      after = with_flag_bits (put_known device framed grown_so width from word) made_so.1;
      next = next_by from word ((pc + len) % 65536);
      accesses = access_of device pc false width from ++ access_of device pc true width from;
      store = store_of true device width from;
    }

unfoldable pub single_worked : Device → (framed : Bool) → Known → (pc len : ℕ) → SingleOperation → Width → Source → Worked
single_worked device framed a pc len done width operand =
    let counted = single ((pc + len) % 65536) in
    let from = source_reach pc a counted operand in
    single_behind device framed pc len done width (grown_known a counted width operand) from (operand_word device a counted width from) (carry_of a)

-- SR isn't the operand
abbrev pub LeavesStatusAlone : Source → Type 0
LeavesStatusAlone (source.Register Sr) = ⊥
LeavesStatusAlone other = Unit {0}

-- PUSH AND CALL

-- SP lowered by 2
abbrev pub lowered_known : Known → Known
lowered_known a = with_sp a (add 65536 a.sp (single 65534))

-- an operand that is formed by SP, without growth, sees SP and the lowered SP
abbrev pub forming_known : Source → Known → Known
forming_known operand a = if is_formed_by_stack operand then with_sp a (join 65536 a.sp (add 65536 a.sp (single 65534))) else a

-- CALL pushes the address behind it, PUSH the operand as it is, and PUSH.B its byte below any byte
abbrev pub pushed_known : SingleOperation → Width → (x : Word) → (behind : ℕ) → Word
pushed_known Call width x behind = record { set = single behind; entry = None }
pushed_known other Words x behind = x
pushed_known other Byte x behind = record { set = pair_set (values_of Byte x) (make 256 0 1 256); entry = None }

abbrev pub called_next : SingleOperation → Width → (x : Word) → (behind : ℕ) → Form
called_next Call width x behind = even_parts (written_word width (values_of width x) None).set
called_next other width x behind = single behind

abbrev pub push_behind : Device → (framed : Bool) → (pc len : ℕ) → SingleOperation → Width → (grown_so : Known)
    → (from : Reach) → (x : Word) → Worked
push_behind device framed pc len done width grown_so from x =
    let at = lowered_known grown_so in
    record {
      after = put_known device framed at Words (InMemory at.sp) (pushed_known done width x ((pc + len) % 65536));
      next = called_next done width x ((pc + len) % 65536);
      accesses = access_of device pc false width from ++ access_of device pc true Words (InMemory at.sp);
      store = store_of true device Words (InMemory at.sp);
    }

unfoldable pub push_worked : Device → (framed : Bool) → Known → (pc len : ℕ) → SingleOperation → Width → Source → Worked
push_worked device framed a pc len done width operand =
    let counted = single ((pc + len) % 65536) in
    let forming = forming_known operand a in
    let from = source_reach pc forming counted operand in
    push_behind device framed pc len done width (grown_known a counted width operand) from (operand_word device forming counted width from)

-- SR isn't the destination
abbrev pub LeavesStatus : Destination → Type 0
LeavesStatus (destination.Register Sr) = ⊥
LeavesStatus other = Unit {0}

-- LAWS OF A FORMAT

-- a state that stands under what is known, in an interrupt's frame or in none
pub record IsUnder (device : Device) (framed : Bool) (a : Known) (s : ChipState) (first : Option ChipState) : Type 0 where
  pub device_so : IsDevice device
  pub base : framed ≡ false → first ≡ None
  pub form : IsKnown device.ram.lo device.ram.hi framed a
  pub holds : HoldsOf device a s first

-- what an instruction leaves stands under what is known behind it, and PC is one of the next addresses
pub record IsLeft (device : Device) (after : Known) (first : Option ChipState) (next : Form) (left : Left) : Type 0 where
  pub next_is : IsResult 65536 next (slice_index left.registers 0)
  pub parts : HoldsOfParts device after first left.registers left.ram

-- a store at one of the addresses of an open store's set hits the program at this byte
abbrev pub IsHit : Device → Width → (store : Option Form) → (at : ℕ) → Type 0
IsHit device width None at = ⊥
IsHit device width (Some set) at = (address : ℕ) × Has 65536 set address × (hit_at device width address ≡ Some at)

-- the items show each access
abbrev pub AreShown : List Item → List Single → Type 0
AreShown items singles = (single_so : Single) → Contains singles single_so → AreShowing items single_so
