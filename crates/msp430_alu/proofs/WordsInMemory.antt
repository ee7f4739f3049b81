-- Words in memory, and SR as a word, for whoever pushes and reads them.
use Rattle.std.proofs.Common.{◌≡◌, ℕ, Bool, false, Option, None, List, length, arith}
use Rattle.std.specs.Option.{option_map}
use Rattle.entry_value.specs.declared.word.Word.{Word}
use Rattle.entry_value.specs.Words.{HoldsOfWord}
use Rattle.value_set.specs.declared.form.Form.{Form}
use Rattle.value_set.specs.Form.{Has, IsNormal, members}
use Rattle.msp430_decode.specs.declared.instr.Width.TheVariants.{Word as Words}
use Rattle.msp430_chip.specs.declared.device.Device.{Device}
use Rattle.msp430_chip.specs.declared.state.ChipState.{ChipState}
use Rattle.msp430_chip.specs.Leading.{MayReadWord}
use Rattle.msp430_chip.specs.Memory.{aligned, with_stored, HasRam}
use Rattle.msp430_state.specs.declared.status.Status.{Status}
use Rattle.msp430_state.specs.Forms.{IsKnown, IsStatusRelation, IsWord}
use Rattle.msp430_state.specs.Holding.{suspended_of, HoldsOfParts}
use Rattle.msp430_state.specs.Known.{Known}
use Rattle.msp430_alu.specs.Memory.{IsDevice, IsRam, located, read_known, with_store}
use Rattle.msp430_results.specs.InstructionLaws.{InstructionLaws}
use Rattle.msp430_alu.specs.Registers.{status_set}
use Rattle.msp430_alu.proofs.WhereAccesses.{located_even, located_is, located_normal}
use Rattle.msp430_alu.proofs.ReadingLemmas.{IsMemory, known_held, read_known_normal}
use Rattle.msp430_alu.proofs.Shapes.{store_form}
use Rattle.msp430_alu.proofs.Storing.{store_holds}
use Rattle.msp430_alu.specs.RelationFacts.{own_relation}
use Rattle.msp430_alu.proofs.WorkedForms.{list_relation, status_normal}

pub word_located : (laws : InstructionLaws) (device : Device) (set : Form) (at : ℕ) → HasRam device → IsNormal 65536 set → Has 65536 set at
    → Has 65536 (located device Words set) (aligned device Words at)
word_located laws device set at is normal has = (located_is laws is Words (record { normal = normal; has = has })).has

-- STORES

pub word_stored : (laws : InstructionLaws) (device : Device) (framed : Bool) (a : Known) (first : Option ChipState) (registers ram : List ℕ) (set : Form) (at v : ℕ) (word : Word)
    → IsDevice device → IsRam device ram
    → (framed ≡ false → first ≡ None) → IsKnown device.ram.lo device.ram.hi framed a → IsNormal 65536 set
    → Has 65536 set at → IsWord framed word
    → HoldsOfWord (option_map suspended_of first) word v
    → HoldsOfParts device a first registers ram
    → HoldsOfParts device (with_store device framed a Words (located device Words set) word) first registers (with_stored device ram Words at v)
word_stored laws device framed a first registers ram set at v word is ram_is base form normal has word_so holds parts =
    store_holds laws {width = Words} at v is ram_is base form (laws.known.sets.below 65536 at set normal has)
    (located_is laws is.ram Words (record { normal = normal; has = has }))
    (laws.known.sets.below 65536 v word.set word_so.normal holds.0) (record { normal = word_so.normal; byte = λ e. absurd (omega (arith, e)) }) holds parts

pub word_stored_form : (laws : InstructionLaws) (device : Device) (framed : Bool) (a : Known) (set : Form) (word : Word)
    → IsDevice device → IsKnown device.ram.lo device.ram.hi framed a
    → IsNormal 65536 set → IsWord framed word
    → IsKnown device.ram.lo device.ram.hi framed (with_store device framed a Words (located device Words set) word)
word_stored_form laws device framed a set word is form normal word_so =
    let at = located device Words set in
    store_form laws {width = Words} at is (laws.known.sets.some 65536 at (located_normal laws is.ram Words set normal)) (located_even laws is.ram Words set normal)
    (record { storable = record { normal = word_so.normal; byte = λ e. absurd (omega (arith, e)) }; byte = λ e. absurd (omega (arith, e)); entry = word_so.entry }) form

-- READS

pub word_read : (laws : InstructionLaws) (device : Device) (framed : Bool) (a : Known) (first : Option ChipState) (registers ram : List ℕ) (set : Form) (at word : ℕ)
    → IsDevice device
    → IsKnown device.ram.lo device.ram.hi framed a → IsNormal 65536 set → Has 65536 set at → HoldsOfParts device a first registers ram
    → MayReadWord device ram at word
    → HoldsOfWord (option_map suspended_of first) (read_known device a Words (located device Words set)) word
word_read laws device framed a first registers ram set at word is form normal has parts reads =
    let under = option_map suspended_of first in
    let memory : IsMemory device a under ram = record { device_so = is; cells = form.cells; stands = parts.cells } in
    (known_held laws memory Words word (record { normal = normal; has = has }) reads).holds

pub word_read_form : (laws : InstructionLaws) (device : Device) (framed : Bool) (a : Known) (set : Form) → IsDevice device
    → IsKnown device.ram.lo device.ram.hi framed a
    → IsWord framed (read_known device a Words set)
word_read_form laws device framed a set is form = record {
  normal = read_known_normal laws a is form.cells Words set;
  entry = list_relation device Words (members 65536 set) form;
}

-- SR

pub status_word_form : (laws : InstructionLaws) (framed : Bool) (status : Status) → length status.bits ≡ 9 → IsStatusRelation framed status.entry
    → IsWord framed (record { set = status_set status; entry = status.entry })
status_word_form laws framed status long form = record { normal = status_normal laws status long; entry = own_relation framed status.entry form }
