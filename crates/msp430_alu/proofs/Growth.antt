-- Registers on the way through an instruction: PC as it counts, and @Rn+ that has grown.
use Rattle.std.proofs.Common.{◌≡◌, ℕ, ◌+◌, ◌-◌, ◌%◌, ◌<◌, Bool, false, Option, None, List, get_or, set, refl, sym, ap, ◌∙◌, subst, arith, get_or-set_same, get_or-set_other}
use Rattle.std.specs.Option.{option_map}
use Rattle.entry_value.specs.declared.word.Word.{Word}
use Rattle.value_set.specs.declared.form.Form.{Form}
use Rattle.value_set.specs.Summing.{single, add}
use Rattle.msp430_decode.specs.declared.instr.Register.{Register}
use Rattle.msp430_decode.specs.declared.instr.Register.TheVariants.{Sp, Sr}
use Rattle.msp430_decode.specs.declared.instr.Source.{Source}
use Rattle.msp430_decode.specs.declared.instr.Source.TheVariants as source
use Rattle.msp430_decode.specs.declared.instr.Width.{Width}
use Rattle.msp430_decode.specs.declared.instr.Width.TheVariants.{Word as Words, Byte}
use Rattle.msp430_decode.specs.Codes.{number}
use Rattle.msp430_decode.specs.Operands.{IsPointer, IsSource}
use Rattle.msp430_chip.specs.declared.device.Device.{Device}
use Rattle.msp430_chip.specs.declared.place.Place.TheVariants as place
use Rattle.msp430_chip.specs.declared.state.ChipState.{ChipState}
use Rattle.msp430_chip.specs.Kinds.{Kind}
use Rattle.msp430_chip.specs.Kinds.Kind.{Counter, Stack, Status, Empty, General}
use Rattle.msp430_chip.specs.Operands.{growth, grown, is_status, value_in, with_register}
use Rattle.msp430_chip.specs.Leading.{at_source, behind_source, origin_of}
use Rattle.msp430_chip.specs.State.{IsChipState, register_of}
use Rattle.msp430_chip.specs.Step.{behind}
use Rattle.msp430_state.specs.Forms.{IsKnown}
use Rattle.msp430_state.specs.Holding.{suspended_of, HoldsOf}
use Rattle.msp430_state.specs.Known.{Known}
use Rattle.msp430_results.specs.FlagSets.{IsResult}
use Rattle.msp430_alu.specs.Formats.{IsUnder}
use Rattle.msp430_alu.specs.Operands.{grown_known, source_reach, IsReached}
use Rattle.msp430_results.specs.InstructionLaws.{InstructionLaws}
use Rattle.msp430_alu.specs.Registers.{AreRegisters, register_word}
use Rattle.msp430_alu.specs.NumberFacts.{single_is, add_is}
use Rattle.msp430_alu.proofs.OperandLemmas.{IsOnTheWay, pointer_held, source_reached}
use Rattle.msp430_alu.proofs.Parts.{parts_counted}
use Rattle.msp430_alu.proofs.Putting.{counted_are, written_are, register_put}
use Rattle.msp430_alu.proofs.ReadingLemmas.{IsHeld}
use Rattle.msp430_alu.proofs.Shapes.{register_form}
use Rattle.msp430_state.specs.FormFacts.{no_relation}

-- the registers of a state
pub state_are : (device : Device) (s : ChipState) → IsChipState device s → AreRegisters s.registers
state_are device s is = record { count = is.registers; words = is.words; even_sp = is.even_sp; status = is.status; nothing = is.nothing }

-- PC counts so
pub on_the_way : {device : Device} {framed : Bool} {a : Known} {counted_so : Form} {first : Option ChipState} {s : ChipState} {counted : ℕ}
    → IsKnown device.ram.lo device.ram.hi framed a → HoldsOf device a s first
    → counted < 65536 → IsResult 65536 counted_so counted → IsOnTheWay device framed a counted_so first (set s.registers 0 counted) s.ram
on_the_way {device} {counted_so} {s} {counted} form holds small is =
    let are = state_are device s holds.state in
    let stored : get_or (set s.registers 0 counted) 0 0 ≡ counted = get_or-set_same s.registers 0 counted 0 (omega (arith, are.count)) in
    record {
      form = form;
      are = counted_are counted small are;
      counts = subst (IsResult 65536 counted_so) (sym stored) is;
      parts = parts_counted counted form.fact holds.parts;
    }

pub growth_small : (width : Width) (register : Register) → growth width register < 65536
growth_small Words register = omega arith
growth_small Byte Sp = omega arith
growth_small Byte other = omega arith

pointer_no_status : (register : Register) → IsPointer register → is_status (place.InRegister register) ≡ false
pointer_no_status Sr pointer = absurd pointer
pointer_no_status other pointer = refl

-- a write to a pointer leaves PC
pointer_pc : (registers : List ℕ) {register : Register} (value : ℕ) → IsPointer register → Kind register
    → get_or (with_register registers register value) 0 0 ≡ get_or registers 0 0
pointer_pc registers value pointer (Counter e) = absurd (subst IsPointer e pointer)
pointer_pc registers value pointer (Stack e) =
    ap (λ r. get_or (with_register registers r value) 0 0) e ∙ get_or-set_other registers 1 0 (value - value % 2) 0 (λ e. omega (arith, e))
pointer_pc registers value pointer (Status e) = absurd (subst IsPointer e pointer)
pointer_pc registers value pointer (Empty e) = absurd (subst IsPointer e pointer)
pointer_pc registers {register} value pointer (General is) =
    ap (λ list. get_or list 0 0) (is.set registers value) ∙ get_or-set_other registers (number register) 0 value 0 (λ e. let low = is.above in omega (arith, e, low))

-- what is known behind @Rn+
pub grown_on : (laws : InstructionLaws) {device : Device} {framed : Bool} {a : Known} {counted : Form} {first : Option ChipState} {registers ram : List ℕ}
    → IsOnTheWay device framed a counted first registers ram
    → (width : Width) (origin : Source) → IsSource origin
    → IsOnTheWay device framed (grown_known a counted width origin) counted first (grown registers width origin) ram
grown_on laws {framed} {a} {counted} {first} {registers} on width (source.IndirectIncrement register) is =
    let kind = laws.places.kinds register in
    let more = growth width register in
    let value = (value_in registers register + more) % 65536 in
    let small : value < 65536 = omega arith in
    let sum = add_is laws.known 65536 (value_in registers register) more (register_word a counted register).set (single more)
    (pointer_held laws on register is) (single_is laws.known 65536 more (growth_small width register)) in
    let word : Word = record { set = add 65536 (register_word a counted register).set (single more); entry = None } in
    let held : IsHeld (option_map suspended_of first) word value = record { normal = sum.normal; holds = (sum.has, tt) } in
    record {
      form = register_form laws kind (record { normal = sum.normal; entry = no_relation framed }) on.form;
      are = written_are value small kind on.are;
      counts = subst (IsResult 65536 counted) (sym (pointer_pc registers value is kind)) on.counts;
      parts = register_put laws on.form on.are (pointer_no_status register is) kind held on.parts;
    }
grown_on laws on width other is = on

-- and PC stays
pub grown_pc : (laws : InstructionLaws) (registers : List ℕ) (width : Width) (origin : Source) → IsSource origin
    → get_or (grown registers width origin) 0 0 ≡ get_or registers 0 0
grown_pc laws registers width (source.IndirectIncrement register) is =
    pointer_pc registers ((value_in registers register + growth width register) % 65536) is (laws.places.kinds register)
grown_pc laws registers width other is = refl

-- the registers on the way through an instruction: at its source, and behind that
pub record IsOnWay (device : Device) (framed : Bool) (a : Known) (s : ChipState) (first : Option ChipState) (counted : ℕ) (counted_so : Form) (width : Width)
    (origin : Source) : Type 0 where
  pub on : IsOnTheWay device framed a counted_so first (at_source s counted) s.ram
  pub behind : IsOnTheWay device framed (grown_known a counted_so width origin) counted_so first (behind_source s counted width origin) s.ram
  pub source : IsReached (source_reach (register_of s 0) a counted_so origin) (origin_of s counted origin)

pub way : (laws : InstructionLaws) {device : Device} {framed : Bool} {a : Known} {s : ChipState} {first : Option ChipState} {counted : ℕ} {counted_so : Form}
    → IsUnder device framed a s first → IsResult 65536 counted_so counted
    → (width : Width) (origin : Source) → IsSource origin → IsOnWay device framed a s first counted counted_so width origin
way laws {s = s} {counted = counted} {counted_so = counted_so} under is width origin from_so =
    let on = on_the_way under.form under.holds (laws.known.sets.below 65536 counted counted_so is.normal is.has) is in
    record { on = on; behind = grown_on laws on width origin from_so; source = source_reached laws on (register_of s 0) origin from_so }

-- PC behind an instruction
pub behind_is : (laws : InstructionLaws) (s : ChipState) (len : ℕ) → IsResult 65536 (single (behind s len)) (behind s len)
behind_is laws s len = single_is laws.known 65536 (behind s len) (omega arith)
