-- What holds of what instructions make of what is known of a state. Proofs above take these laws from records.
use Rattle.entry_value.specs.Words.{HoldsOfWord}
use Rattle.entry_value.specs.declared.word.Word.{Word}
use Rattle.irq_frames.specs.KnownLaws.{KnownLaws}
use Rattle.msp430_alu.specs.Doing.{ComesTo, Here, IsWellMade, StandsHere, counter_of}
use Rattle.msp430_alu.specs.Formats.{AreShown, LeavesStatus, LeavesStatusAlone, double_worked, push_worked, single_worked}
use Rattle.msp430_alu.specs.Memory.{IsDevice, IsRam, located as located_set, read_known, with_store}
use Rattle.msp430_alu.specs.Registers.{status_set}
use Rattle.msp430_chip.specs.Leading.{MayDouble, MayPush, MayReadWord, MaySingle, origin_of, place_of}
use Rattle.msp430_chip.specs.Memory.{HasRam, aligned, with_stored}
use Rattle.msp430_chip.specs.Outcome.{Outcome}
use Rattle.msp430_chip.specs.Step.{double_accesses}
use Rattle.msp430_chip.specs.declared.device.Device.{Device}
use Rattle.msp430_chip.specs.declared.state.ChipState.{ChipState}
use Rattle.msp430_decode.specs.Operands.{IsDestination, IsSource}
use Rattle.msp430_decode.specs.declared.instr.Destination.{Destination}
use Rattle.msp430_decode.specs.declared.instr.Instr.TheVariants.{Double, Single as OneOperand}
use Rattle.msp430_decode.specs.declared.instr.Operation.{Operation}
use Rattle.msp430_decode.specs.declared.instr.SingleOperation.{SingleOperation}
use Rattle.msp430_decode.specs.declared.instr.Source.{Source}
use Rattle.msp430_decode.specs.declared.instr.Width.{Width}
use Rattle.msp430_decode.specs.declared.instr.Width.TheVariants.{Word as Words}
use Rattle.msp430_results.specs.Results.{HasWidth}
use Rattle.msp430_state.specs.Forms.{IsKnown, IsStatusRelation, IsWord}
use Rattle.msp430_state.specs.Holding.{HoldsOfParts, HoldsOfStatus, suspended_of}
use Rattle.msp430_state.specs.Known.{Known}
use Rattle.msp430_state.specs.declared.status.Status.{Status}
use Rattle.std.specs.Prelude.{Bool, List, None, Option, false, length, option_map, ℕ, ◌%◌, ◌*◌, ◌+◌, ◌<◌, ◌≡◌}
use Rattle.value_set.specs.Form.{Has, IsNormal}
use Rattle.value_set.specs.declared.form.Form.{Form}

-- Of instructions with two operands, but for those that write SR: what they come to, by `double_worked`, which is well made. The
-- accesses of those that write SR are shown, too.
pub record DoublesHold : Type 0 where
  pub comes : (here : Here) (len : ℕ) (done : Operation) (width : Width) (origin : Source) (target : Destination)
      (outcome : Outcome ChipState)
      → StandsHere here → IsSource origin → IsDestination target → LeavesStatus target
      → (may : MayDouble here.device here.state len done width origin target outcome)
      → let made = double_worked here.device here.framed here.known (counter_of here) len done width origin target in
      ComesTo here made (Double done width origin target) width may.left outcome
  pub shown : (here : Here) (len : ℕ) (done : Operation) (width : Width) (origin : Source) (target : Destination)
      (outcome : Outcome ChipState)
      → StandsHere here → IsSource origin → IsDestination target
      → (may : MayDouble here.device here.state len done width origin target outcome)
      → let made = double_worked here.device here.framed here.known (counter_of here) len done width origin target in
      AreShown made.accesses (double_accesses here.device (counter_of here) done width
      (origin_of here.state may.counted origin) (place_of here.state len may.counted width origin target))
  pub made : (device : Device) (framed : Bool) (a : Known) (pc len : ℕ) (done : Operation) (width : Width)
      (origin : Source) (target : Destination)
      → IsDevice device → IsKnown device.ram.lo device.ram.hi framed a → IsSource origin → IsDestination target
      → let made = double_worked device framed a pc len done width origin target in
      IsWellMade device framed ((pc + len) % 65536) made

-- The same of instructions with one operand, but for those that write SR.
pub record SinglesHold : Type 0 where
  pub comes : (here : Here) (len : ℕ) (done : SingleOperation) (width : Width) (operand : Source)
      (outcome : Outcome ChipState)
      → StandsHere here → IsSource operand → LeavesStatusAlone operand → HasWidth done width
      → (may : MaySingle here.device here.state len done width operand outcome)
      → let made = single_worked here.device here.framed here.known (counter_of here) len done width operand in
      ComesTo here made (OneOperand done width operand) width may.left outcome
  pub made : (device : Device) (framed : Bool) (a : Known) (pc len : ℕ) (done : SingleOperation) (width : Width)
      (operand : Source)
      → IsDevice device → IsKnown device.ram.lo device.ram.hi framed a → IsSource operand → HasWidth done width
      → let made = single_worked device framed a pc len done width operand in
      IsWellMade device framed ((pc + len) % 65536) made

-- The same of PUSH and CALL, which store words.
pub record PushesHold : Type 0 where
  pub comes : (here : Here) (len : ℕ) (done : SingleOperation) (width : Width) (operand : Source)
      (outcome : Outcome ChipState)
      → StandsHere here → IsSource operand
      → (may : MayPush here.device here.state len done width operand outcome)
      → let made = push_worked here.device here.framed here.known (counter_of here) len done width operand in
      ComesTo here made (OneOperand done width operand) Words may.left outcome
  pub made : (device : Device) (framed : Bool) (a : Known) (pc len : ℕ) (done : SingleOperation) (width : Width)
      (operand : Source)
      → IsDevice device → IsKnown device.ram.lo device.ram.hi framed a → IsSource operand
      → let made = push_worked device framed a pc len done width operand in
      IsWellMade device framed ((pc + len) % 65536) made

-- An access at one of some addresses is made at one of where they are located. What is known behind a store of a word there holds
-- behind it, and a word that may be read holds of what is read there. SR's word holds whatever its bits 9 to 15 are.
pub record WordsHold : Type 0 where
  pub located : (device : Device) (set : Form) (at : ℕ) → HasRam device → IsNormal 65536 set → Has 65536 set at
      → Has 65536 (located_set device Words set) (aligned device Words at)
  pub stored : (device : Device) (framed : Bool) (a : Known) (first : Option ChipState) (registers ram : List ℕ)
      (set : Form) (at v : ℕ) (word : Word)
      → IsDevice device → IsRam device ram → (framed ≡ false → first ≡ None) → IsKnown device.ram.lo device.ram.hi framed a
      → IsNormal 65536 set → Has 65536 set at → IsWord framed word
      → HoldsOfWord (option_map suspended_of first) word v → HoldsOfParts device a first registers ram
      → HoldsOfParts device (with_store device framed a Words (located_set device Words set) word) first registers
      (with_stored device ram Words at v)
  pub stored_form : (device : Device) (framed : Bool) (a : Known) (set : Form) (word : Word) → IsDevice device
      → IsKnown device.ram.lo device.ram.hi framed a → IsNormal 65536 set → IsWord framed word
      → IsKnown device.ram.lo device.ram.hi framed (with_store device framed a Words (located_set device Words set) word)
  pub ram : (device : Device) (ram : List ℕ) (at v : ℕ) → v < 65536 → IsRam device ram
      → IsRam device (with_stored device ram Words at v)
  pub read : (device : Device) (framed : Bool) (a : Known) (first : Option ChipState) (registers ram : List ℕ)
      (set : Form) (at word : ℕ)
      → IsDevice device → IsKnown device.ram.lo device.ram.hi framed a → IsNormal 65536 set → Has 65536 set at
      → HoldsOfParts device a first registers ram → MayReadWord device ram at word
      → HoldsOfWord (option_map suspended_of first) (read_known device a Words (located_set device Words set)) word
  pub read_form : (device : Device) (framed : Bool) (a : Known) (set : Form) → IsDevice device
      → IsKnown device.ram.lo device.ram.hi framed a → IsWord framed (read_known device a Words set)
  pub status : (framed : Bool) (first : Option ChipState) (status : Status) (sr bits : ℕ) → length status.bits ≡ 9
      → IsStatusRelation framed status.entry → sr < 512 → bits < 128
      → HoldsOfStatus (option_map suspended_of first) status sr
      → HoldsOfWord (option_map suspended_of first) (record { set = status_set status; entry = status.entry })
      (sr + 512 * bits)
  pub status_form : (framed : Bool) (status : Status) → length status.bits ≡ 9 → IsStatusRelation framed status.entry
      → IsWord framed (record { set = status_set status; entry = status.entry })

pub record MemoryLaws : Type 0 where
  pub known : KnownLaws
  pub words : WordsHold
