-- What is known behind a write to a place holds behind it.
use Rattle.std.proofs.Common.{◌≡◌, ℕ, ◌%◌, ◌<◌, Bool, true, false, Option, None, List, get_or, set, refl, sym, ap, ◌∙◌, subst, arith, get_or-set_same, get_or-set_other}
use Rattle.std.specs.Option.{option_map}
use Rattle.std.proofs.lemmas.List.{length-set}
use Rattle.std.proofs.lemmas.List.Elements.{All-set}
use Rattle.entry_value.specs.declared.word.Word.{Word}
use Rattle.entry_value.specs.Words.{Suspended}
use Rattle.value_set.specs.declared.form.Form.{Form}
use Rattle.value_set.specs.Form.{Has}
use Rattle.value_set.specs.Summing.{single}
use Rattle.msp430_decode.specs.declared.instr.Register.{Register}
use Rattle.msp430_decode.specs.declared.instr.Register.TheVariants.{Pc, Sp, Sr, R3}
use Rattle.msp430_decode.specs.declared.instr.Width.{Width}
use Rattle.msp430_decode.specs.declared.instr.Width.TheVariants.{Word as Words, Byte}
use Rattle.msp430_decode.specs.Codes.{number}
use Rattle.msp430_chip.specs.declared.device.Device.{Device}
use Rattle.msp430_chip.specs.declared.place.Place.{Place}
use Rattle.msp430_chip.specs.declared.place.Place.TheVariants as place
use Rattle.msp430_chip.specs.declared.state.ChipState.{ChipState}
use Rattle.msp430_chip.specs.Arithmetic.{modulus}
use Rattle.msp430_chip.specs.Kinds.{Kind}
use Rattle.msp430_chip.specs.Kinds.Kind.{Counter, Stack, Status, Empty, General}
use Rattle.msp430_chip.specs.Memory.{size_of}
use Rattle.msp430_chip.specs.Operands.{is_status, with_register}
use Rattle.msp430_chip.specs.Registers.{kept_at}
use Rattle.msp430_chip.specs.State.{even}
use Rattle.msp430_chip.specs.Step.{Left, put, put_if}
use Rattle.msp430_state.specs.Forms.{IsKnown}
use Rattle.msp430_state.specs.Holding.{suspended_of, HoldsOfParts}
use Rattle.msp430_state.specs.Known.{Known}
use Rattle.msp430_alu.specs.declared.reach.Reach.{Reach}
use Rattle.msp430_alu.specs.declared.reach.Reach.TheVariants.{InRegister, InMemory, Fixed}
use Rattle.msp430_results.specs.FlagSets.{IsResult}
use Rattle.msp430_alu.specs.Formats.{put_known, put_known_if, next_by, next_if}
use Rattle.msp430_alu.specs.Memory.{IsDevice, IsRam}
use Rattle.msp430_alu.specs.Operands.{IsReached}
use Rattle.msp430_results.specs.InstructionLaws.{InstructionLaws}
use Rattle.msp430_alu.specs.Registers.{AreRegisters, put_register, with_word}
use Rattle.msp430_alu.proofs.WhereAccesses.{located_is}
use Rattle.msp430_alu.specs.NumberFacts.{single_is, even_parts_is}
use Rattle.msp430_alu.proofs.Parts.{parts_counted, word_written, sp_written}
use Rattle.msp430_alu.proofs.ReadingLemmas.{IsHeld}
use Rattle.msp430_alu.proofs.Storing.{IsStorable, store_holds}

-- THE REGISTERS BEHIND A WRITE

pub general_put : (a : Known) (register : Register) (word : Word) → 3 < number register
    → put_register a register word ≡ with_word a (number register) word
general_put a Pc word low = absurd (omega (arith, low))
general_put a Sp word low = absurd (omega (arith, low))
general_put a Sr word low = absurd (omega (arith, low))
general_put a R3 word low = absurd (omega (arith, low))
general_put a other word low = refl

even_small : (v : ℕ) → v < 65536 → even v < 65536
even_small v small = omega (arith, small)

-- the registers behind a write, by what stands in SP, SR and R3
set_are : {registers : List ℕ} (i value : ℕ) → value < 65536 → (i ≡ 1 → value % 2 ≡ 0) → (i ≡ 2 → value < 512)
    → (i ≡ 3 → value ≡ 0) → AreRegisters registers
    → AreRegisters (set registers i value)
set_are {registers} i value small even_so status nothing are = record {
  count = length-set registers i value ∙ are.count;
  words = All-set (λ r. r < 65536) registers i value small are.words;
  even_sp = kept_at (λ r. r % 2 ≡ 0) registers i value 1 (omega (arith, are.count)) (λ e. even_so (sym e)) are.even_sp;
  status = kept_at (λ r. r < 512) registers i value 2 (omega (arith, are.count)) (λ e. status (sym e)) are.status;
  nothing = kept_at (λ r. r ≡ 0) registers i value 3 (omega (arith, are.count)) (λ e. nothing (sym e)) are.nothing;
}

pub counted_are : {registers : List ℕ} (pc : ℕ) → pc < 65536 → AreRegisters registers → AreRegisters (set registers 0 pc)
counted_are pc small = set_are 0 pc small (λ e. omega (arith, e)) (λ e. omega (arith, e)) (λ e. omega (arith, e))

general_are : {registers : List ℕ} (register value : ℕ) → 3 < register → value < 65536 → AreRegisters registers
    → AreRegisters (set registers register value)
general_are register value low small = set_are register value small (λ e. omega (arith, e, low)) (λ e. omega (arith, e, low)) (λ e. omega (arith, e, low))

pub sp_are : {registers : List ℕ} (value : ℕ) → value < 65536 → AreRegisters registers → AreRegisters (set registers 1 (even value))
sp_are value small = set_are 1 (even value) (even_small value small) (λ e. omega arith) (λ e. omega (arith, e)) (λ e. omega (arith, e))

status_are : {registers : List ℕ} (value : ℕ) → AreRegisters registers → AreRegisters (set registers 2 (value % 512))
status_are value = set_are 2 (value % 512) (omega arith) (λ e. omega (arith, e)) (λ e. omega arith) (λ e. omega (arith, e))

pub written_are : {registers : List ℕ} {register : Register} (value : ℕ) → value < 65536 → Kind register → AreRegisters registers
    → AreRegisters (with_register registers register value)
written_are value small (Counter e) are = rw e (counted_are (even value) (even_small value small) are)
written_are value small (Stack e) are = rw e (sp_are value small are)
written_are value small (Status e) are = rw e (status_are value are)
written_are value small (Empty e) are = rw e are
written_are {registers} {register} value small (General is) are = rw (is.set registers value) (general_are (number register) value is.above small are)

-- WRITES TO A PLACE

-- a word that may be written: it holds of the value, and of bytes it is a byte
pub record IsWritten (first : Option Suspended) (width : Width) (word : Word) (value : ℕ) : Type 0 where
  pub held : IsHeld first word value
  pub byte : size_of width ≡ 1 → (n : ℕ) → Has 65536 word.set n → n < 256

pub register_put : (laws : InstructionLaws) {device : Device} {framed : Bool} {a : Known} {first : Option ChipState} {registers ram : List ℕ} {register : Register} {word : Word}
    {value : ℕ} → IsKnown device.ram.lo device.ram.hi framed a
    → AreRegisters registers → is_status (place.InRegister register) ≡ false → Kind register
    → IsHeld (option_map suspended_of first) word value
    → HoldsOfParts device a first registers ram
    → HoldsOfParts device (put_register a register word) first (with_register registers register value) ram
register_put laws {value} form are no_status (Counter e) held holds = rw e (parts_counted (even value) form.fact holds)
register_put laws {word} {value} form are no_status (Stack e) held holds =
    let parts = even_parts_is laws.known word.set value (record { normal = held.normal; has = held.holds.0 }) in
    rw e (sp_written value word.set are.count form.fact parts.has holds)
register_put laws {register} form are no_status (Status e) held holds =
    let yes : is_status (place.InRegister register) ≡ true = rw e refl in absurd (cc)
register_put laws form are no_status (Empty e) held holds = rw e holds
register_put laws {a} {registers} {register} {word} {value} form are no_status (General is) held holds =
    rw (general_put a register word is.above, is.set registers value)
    (word_written (number register) value word are.count form.count is.above is.below held.holds holds)

value_below : (laws : InstructionLaws) {first : Option Suspended} (width : Width) {word : Word} {value : ℕ}
    → IsWritten first width word value → value < modulus width
value_below laws Words {word} {value} is = laws.known.sets.below 65536 value word.set is.held.normal is.held.holds.0
value_below laws Byte {value} is = is.byte refl value is.held.holds.0

storable_is : {first : Option Suspended} {width : Width} {word : Word} {value : ℕ} → IsWritten first width word value
    → IsStorable width word
storable_is is = record { normal = is.held.normal; byte = is.byte }

-- what a write leaves
pub record IsPut (device : Device) (after : Known) (first : Option ChipState) (next : Form) (left : Left) : Type 0 where
  pub are : AreRegisters left.registers
  pub next_is : IsResult 65536 next (get_or left.registers 0 0)
  pub parts : HoldsOfParts device after first left.registers left.ram

general_next : (register : Register) (word : Word) (behind_so : ℕ) → 3 < number register
    → next_by (InRegister register) word behind_so ≡ single behind_so
general_next Pc word behind_so low = absurd (omega (arith, low))
general_next Sp word behind_so low = refl
general_next Sr word behind_so low = refl
general_next R3 word behind_so low = refl
general_next other word behind_so low = refl

register_next : (laws : InstructionLaws) {first : Option Suspended} {registers : List ℕ} {register : Register} {word : Word} {value : ℕ} (behind_so : ℕ)
    → AreRegisters registers
    → get_or registers 0 0 ≡ behind_so → behind_so < 65536
    → Kind register → IsHeld first word value
    → IsResult 65536 (next_by (InRegister register) word behind_so) (get_or (with_register registers register value) 0 0)
register_next laws {registers} {word} {value} behind_so are pc small (Counter e) held =
    let parts = even_parts_is laws.known word.set value (record { normal = held.normal; has = held.holds.0 }) in
    rw (e, get_or-set_same registers 0 (even value) 0 (omega (arith, are.count))) parts
register_next laws {registers} {value} behind_so are pc small (Stack e) held =
    rw (e, get_or-set_other registers 1 0 (even value) 0 (λ f. omega (arith, f)), pc) (single_is laws.known 65536 behind_so small)
register_next laws {registers} {value} behind_so are pc small (Status e) held =
    rw (e, get_or-set_other registers 2 0 (value % 512) 0 (λ f. omega (arith, f)), pc) (single_is laws.known 65536 behind_so small)
register_next laws behind_so are pc small (Empty e) held = rw (e, pc) (single_is laws.known 65536 behind_so small)
register_next laws {registers} {register} {word} {value} behind_so are pc small (General is) held =
    let low = is.above in
    rw (general_next register word behind_so low, is.set registers value, get_or-set_other registers (number register) 0 value 0 (λ f. omega (arith, f, low)), pc)
    (single_is laws.known 65536 behind_so small)

-- the state in which a write is done
pub record IsReady (device : Device) (framed : Bool) (a : Known) (first : Option ChipState) (registers ram : List ℕ) (behind_so : ℕ) : Type 0 where
  pub device_so : IsDevice device
  pub base : framed ≡ false → first ≡ None
  pub form : IsKnown device.ram.lo device.ram.hi framed a
  pub are : AreRegisters registers
  pub ram_is : IsRam device ram
  pub pc : get_or registers 0 0 ≡ behind_so
  pub small : behind_so < 65536
  pub parts : HoldsOfParts device a first registers ram

pub put_is : (laws : InstructionLaws) {device : Device} {framed : Bool} {a : Known} {first : Option ChipState} {registers ram : List ℕ} {behind_so : ℕ}
    → IsReady device framed a first registers ram behind_so
    → {width : Width} (reach : Reach) (stands : Place) {word : Word} {value : ℕ} → IsReached reach stands → is_status stands ≡ false
    → IsWritten (option_map suspended_of first) width word value
    → IsPut device (put_known device framed a width reach word) first (next_by reach word behind_so) (put device registers ram width stands value)
put_is laws {device} {a} {first} {registers} {ram} {behind_so} ready {width} (InRegister register) (place.InRegister other) {word} {value} reached no_status is =
    subst (λ r. IsPut device (put_register a register word) first (next_by (InRegister register) word behind_so)
    (put device registers ram width (place.InRegister r) value)) reached record {
      are = written_are value (laws.known.sets.below 65536 value word.set is.held.normal is.held.holds.0) (laws.places.kinds register) ready.are;
      next_is = register_next laws behind_so ready.are ready.pc ready.small (laws.places.kinds register) is.held;
      parts = register_put laws ready.form ready.are (ap (λ r. is_status (place.InRegister r)) reached ∙ no_status) (laws.places.kinds register) is.held ready.parts;
    }
put_is laws {behind_so} ready {width} (InMemory set_so) (place.InMemory address) {value} reached no_status is = record {
  are = ready.are;
  next_is = subst (IsResult 65536 (single behind_so)) (sym ready.pc) (single_is laws.known 65536 behind_so ready.small);
  parts = store_holds laws address value ready.device_so ready.ram_is ready.base ready.form
      (laws.known.sets.below 65536 address set_so reached.normal reached.has) (located_is laws ready.device_so.ram width reached) (value_below laws width is)
      (storable_is is) is.held.holds ready.parts;
}
put_is laws {behind_so} ready (Fixed fixed) (place.Fixed other) reached no_status is = record {
  are = ready.are;
  next_is = subst (IsResult 65536 (single behind_so)) (sym ready.pc) (single_is laws.known 65536 behind_so ready.small);
  parts = ready.parts;
}
put_is laws ready reach stands reached no_status is = absurd reached

-- the same, where the result is written
pub put_if_is : (laws : InstructionLaws) {device : Device} {framed : Bool} {a : Known} {first : Option ChipState} {registers ram : List ℕ} {behind_so : ℕ}
    → IsReady device framed a first registers ram behind_so
    → (writes : Bool) {width : Width} (reach : Reach) (stands : Place) {word : Word} {value : ℕ}
    → IsReached reach stands → is_status stands ≡ false
    → IsWritten (option_map suspended_of first) width word value
    → IsPut device (put_known_if writes device framed a width reach word) first (next_if writes reach word behind_so) (put_if writes device registers ram width stands value)
put_if_is laws ready true reach stands reached no_status is =
    put_is laws ready reach stands reached no_status is
put_if_is laws {behind_so} ready false reach stands reached no_status is = record {
  are = ready.are;
  next_is = subst (IsResult 65536 (single behind_so)) (sym ready.pc) (single_is laws.known 65536 behind_so ready.small);
  parts = ready.parts;
}
