-- What an operand may hold holds of it.
use Rattle.std.proofs.Common.{◌≡◌, ℕ, ◌+◌, ◌-◌, ◌*◌, ◌%◌, ◌<◌, Bool, false, Option, None, List, length, get_or, refl, sym, ap, ◌∙◌, subst, inl, inr, arith}
use Rattle.std.specs.Option.{option_map}
use Rattle.std.proofs.Math.Nat.{mod-eq_of_lt}
use Rattle.std.proofs.lemmas.List.Elements.{All-get_or}
use Rattle.std.proofs.lemmas.List.{get_or_past}
use Rattle.std.proofs.lemmas.Bool.{cases_lt, cond_both}
use Rattle.entry_value.specs.declared.word.Word.{Word}
use Rattle.entry_value.specs.Cells.{unknown}
use Rattle.entry_value.specs.Words.{Suspended, HoldsOfWord}
use Rattle.value_set.specs.declared.form.Form.{Form}
use Rattle.value_set.specs.Form.{Has}
use Rattle.value_set.specs.Summing.{single}
use Rattle.value_bits.specs.Sets.{low_set}
use Rattle.msp430_decode.specs.declared.instr.Destination.{Destination}
use Rattle.msp430_decode.specs.declared.instr.Destination.TheVariants as destination
use Rattle.msp430_decode.specs.declared.instr.Register.{Register}
use Rattle.msp430_decode.specs.declared.instr.Register.TheVariants.{Pc, Sp, Sr, R3}
use Rattle.msp430_decode.specs.declared.instr.Source.{Source}
use Rattle.msp430_decode.specs.declared.instr.Source.TheVariants as source
use Rattle.msp430_decode.specs.declared.instr.Width.{Width}
use Rattle.msp430_decode.specs.declared.instr.Width.TheVariants.{Word as Words, Byte}
use Rattle.msp430_decode.specs.Codes.{number}
use Rattle.msp430_decode.specs.Operands.{IsPointer, IsSource, IsDestination}
use Rattle.msp430_chip.specs.declared.device.Device.{Device}
use Rattle.msp430_chip.specs.declared.place.Place.{Place}
use Rattle.msp430_chip.specs.declared.place.Place.TheVariants as place
use Rattle.msp430_chip.specs.declared.state.ChipState.{ChipState}
use Rattle.msp430_chip.specs.Arithmetic.{modulus}
use Rattle.msp430_chip.specs.Kinds.{Kind}
use Rattle.msp430_chip.specs.Kinds.Kind.{Counter, Stack, Status, Empty, General}
use Rattle.msp430_chip.specs.Leading.{MayStandAt}
use Rattle.msp430_chip.specs.Operands.{value_in, source_place, destination_place, is_status, with_free_bits}
use Rattle.msp430_state.specs.FormFacts.{no_relation}
use Rattle.msp430_state.specs.Forms.{IsWord, IsKnown}
use Rattle.msp430_state.specs.Holding.{suspended_of, HoldsOfParts}
use Rattle.msp430_state.specs.Known.{Known, word_of}
use Rattle.msp430_alu.specs.RelationFacts.{constant_small}
use Rattle.msp430_alu.specs.declared.reach.Reach.{Reach}
use Rattle.msp430_alu.specs.declared.reach.Reach.TheVariants.{InRegister, InMemory, Fixed}
use Rattle.msp430_results.specs.FlagSets.{IsResult}
use Rattle.msp430_alu.specs.Memory.{IsDevice}
use Rattle.msp430_alu.specs.Operands.{beside, source_reach, destination_reach, IsReached, operand_word}
use Rattle.msp430_results.specs.Words.{values_of}
use Rattle.msp430_results.specs.InstructionLaws.{InstructionLaws}
use Rattle.msp430_alu.specs.Registers.{AreRegisters, register_word}
use Rattle.msp430_alu.specs.NumberFacts.{single_is, add_is}
use Rattle.msp430_alu.proofs.ReadingLemmas.{IsHeld, IsMemory, known_held, memory_below}
use Rattle.msp430_alu.proofs.StatusWord.{status_set_is}

-- REGISTERS

pub general_word : (a : Known) (counted : Form) (register : Register) → 3 < number register
    → register_word a counted register ≡ word_of a (number register)
general_word a counted Pc low = absurd (omega (arith, low))
general_word a counted Sp low = absurd (omega (arith, low))
general_word a counted Sr low = absurd (omega (arith, low))
general_word a counted R3 low = absurd (omega (arith, low))
general_word a counted other low = refl

pub word_of_form : (laws : InstructionLaws) {lo hi : ℕ} {framed : Bool} {a : Known} → IsKnown lo hi framed a → (register : ℕ)
    → IsWord framed (word_of a register)
word_of_form laws {framed} {a} form register = elim (cases_lt (register - 4) (length a.registers)) [
  | inl inside ↦ All-get_or (IsWord framed) a.registers (register - 4) (unknown 2) inside form.registers
  | inr past ↦ rw (get_or_past a.registers (register - 4) (unknown 2) past) (record { normal = laws.known.sets.whole_normal 65536 (omega arith); entry = no_relation framed })
]

-- registers on the way through an instruction, in which PC counts so
pub record IsOnTheWay (device : Device) (framed : Bool) (a : Known) (counted : Form) (first : Option ChipState) (registers ram : List ℕ) : Type 0 where
  pub form : IsKnown device.ram.lo device.ram.hi framed a
  pub are : AreRegisters registers
  pub counts : IsResult 65536 counted (get_or registers 0 0)
  pub parts : HoldsOfParts device a first registers ram

-- a register as a word operand, with bits of SR that nothing holds
pub register_held : (laws : InstructionLaws) {device : Device} {framed : Bool} {a : Known} {counted : Form} {first : Option ChipState} {registers ram : List ℕ}
    → IsOnTheWay device framed a counted first registers ram
    → {register : Register} (bits : ℕ) → bits < 128 → (is_status (place.InRegister register) ≡ false → bits ≡ 0) → Kind register
    → IsHeld (option_map suspended_of first) (register_word a counted register) (value_in registers register + 512 * bits)
register_held laws {counted} {registers} on bits few none (Counter e) =
    let zero_bits : bits ≡ 0 = none (ap (λ r. is_status (place.InRegister r)) e) in
    let same : get_or registers 0 0 ≡ get_or registers 0 0 + 512 * bits = omega (arith, zero_bits) in
    rw e (record { normal = on.counts.normal; holds = (subst (Has 65536 counted) same on.counts.has, tt) })
register_held laws {a} {registers} on bits few none (Stack e) =
    let zero_bits : bits ≡ 0 = none (ap (λ r. is_status (place.InRegister r)) e) in
    let same : get_or registers 1 0 ≡ get_or registers 1 0 + 512 * bits = omega (arith, zero_bits) in
    rw e (record { normal = on.form.sp.normal; holds = (subst (Has 65536 a.sp) same on.parts.sp, tt) })
register_held laws {framed} {a} {first} {registers} on bits few none (Status e) =
    let is = status_set_is laws framed first a.status (get_or registers 2 0) bits on.form.bits on.form.status on.are.status few on.parts.status in
    rw e (record { normal = is.0; holds = is.1 })
register_held laws {registers} on bits few none (Empty e) =
    let zero_bits : bits ≡ 0 = none (ap (λ r. is_status (place.InRegister r)) e) in
    let same : 0 ≡ get_or registers 3 0 + 512 * bits = omega (arith, zero_bits, on.are.nothing) in
    let is = single_is laws.known 65536 0 (omega arith) in
    rw e (record { normal = is.normal; holds = (subst (Has 65536 (single 0)) same is.has, tt) })
register_held laws {a} {counted} {first} {registers} on {register} bits few none (General is) =
    let zero_bits : bits ≡ 0 = none is.no_status in
    let value = get_or registers (number register) 0 in
    let same : value ≡ value + 512 * bits = omega (arith, zero_bits) in
    subst (λ word. IsHeld (option_map suspended_of first) word (value + 512 * bits)) (sym (general_word a counted register is.above)) (record {
      normal = (word_of_form laws on.form (number register)).normal;
      holds = subst (HoldsOfWord (option_map suspended_of first) (word_of a (number register))) same (on.parts.words (number register) is.above is.below);
    })

-- WHERE OPERANDS STAND

pub pointer_held : (laws : InstructionLaws) {device : Device} {framed : Bool} {a : Known} {counted : Form} {first : Option ChipState} {registers ram : List ℕ}
    → IsOnTheWay device framed a counted first registers ram
    → (register : Register) → IsPointer register → IsResult 65536 (register_word a counted register).set (value_in registers register)
pointer_held laws {a} {counted} {registers} on register pointer =
    let held = register_held laws on 0 (omega arith) (λ e. refl) (laws.places.kinds register) in
    let same : value_in registers register + 512 * 0 ≡ value_in registers register = omega arith in
    record { normal = held.normal; has = subst (Has 65536 (register_word a counted register).set) same held.holds.0 }

beside_held : (laws : InstructionLaws) {device : Device} {framed : Bool} {a : Known} {counted : Form} {first : Option ChipState} {registers ram : List ℕ}
    → IsOnTheWay device framed a counted first registers ram
    → (register : Register) (offset : ℕ) → IsPointer register → offset < 65536
    → IsResult 65536 (beside a counted register offset) ((value_in registers register + offset) % 65536)
beside_held laws {a} {counted} {registers} on register offset pointer small =
    add_is laws.known 65536 (value_in registers register) offset (register_word a counted register).set (single offset)
    (pointer_held laws on register pointer) (single_is laws.known 65536 offset small)

wrapped : (n : ℕ) → n % 65536 < 65536
wrapped n = omega arith

pub source_reached : (laws : InstructionLaws) {device : Device} {framed : Bool} {a : Known} {counted : Form} {first : Option ChipState} {registers ram : List ℕ}
    → IsOnTheWay device framed a counted first registers ram
    → (pc : ℕ) (origin : Source) → IsSource origin → IsReached (source_reach pc a counted origin) (source_place pc registers origin)
source_reached laws on pc (source.Register register) is = refl
source_reached laws on pc (source.Indexed register offset) is =
    beside_held laws on register offset is.0 is.1
source_reached laws on pc (source.Indirect register) is = pointer_held laws on register is
source_reached laws on pc (source.IndirectIncrement register) is = pointer_held laws on register is
source_reached laws on pc (source.Immediate value) is = (refl, is)
source_reached laws on pc (source.Symbolic offset) is = single_is laws.known 65536 ((pc + 2 + offset) % 65536) (wrapped (pc + 2 + offset))
source_reached laws on pc (source.Absolute address) is = single_is laws.known 65536 address is
source_reached laws on pc (source.Constant constant) is = (refl, constant_small constant)

pub destination_reached : (laws : InstructionLaws) {device : Device} {framed : Bool} {a : Known} {counted : Form} {first : Option ChipState} {registers ram : List ℕ}
    → IsOnTheWay device framed a counted first registers ram
    → (pc len : ℕ) (target : Destination) → IsDestination target
    → IsReached (destination_reach pc len a counted target) (destination_place pc len registers target)
destination_reached laws on pc len (destination.Register register) is = refl
destination_reached laws on pc len (destination.Indexed register offset) is =
    beside_held laws on register offset is.0 is.1
destination_reached laws on pc len (destination.Symbolic offset) is = single_is laws.known 65536 ((pc + len - 2 + offset) % 65536) (wrapped (pc + len - 2 + offset))
destination_reached laws on pc len (destination.Absolute address) is = single_is laws.known 65536 address is

-- WHAT THEY HOLD

-- a word holds of what stands at a place, and as many bits of it as the width has are among the values
pub record IsOperand (first : Option Suspended) (width : Width) (word : Word) (v : ℕ) : Type 0 where
  pub values : IsResult (modulus width) (values_of width word) v
  pub holds : width ≡ Words → HoldsOfWord first word v

of_word : {first : Option Suspended} {word : Word} {v : ℕ} → IsHeld first word v → IsOperand first Words word v
of_word held = record { values = record { normal = held.normal; has = held.holds.0 }; holds = λ e. held.holds }

of_byte : (laws : InstructionLaws) {first : Option Suspended} {word : Word} {v : ℕ} (x : ℕ) → IsHeld first word v → x ≡ v % 256
    → IsOperand first Byte word x
of_byte laws {word} {v} x held is = record {
  values = record { normal = laws.known.bits.low_normal word.set held.normal; has = subst (Has 256 (low_set word.set)) (sym is) (laws.known.bits.low v word.set held.normal held.holds.0) };
  holds = λ e. absurd (cc);
}

value_small : {registers : List ℕ} → AreRegisters registers → (n : ℕ) → n < 16 → get_or registers n 0 < 65536
value_small {registers} are n small = All-get_or (λ r. r < 65536) registers n 0 (omega (arith, are.count, small)) are.words

number_small : (register : Register) → number register < 16
number_small Pc = omega arith
number_small other = omega arith

register_small : {registers : List ℕ} (register : Register) → AreRegisters registers
    → value_in registers register % 65536 ≡ value_in registers register
register_small {registers} register are =
    mod-eq_of_lt {n = value_in registers register} {m = 65536} (value_small are (number register) (number_small register))

pub operand_held : (laws : InstructionLaws) {device : Device} {framed : Bool} {a : Known} {counted : Form} {first : Option ChipState} {registers ram : List ℕ}
    → IsOnTheWay device framed a counted first registers ram
    → IsDevice device → (width : Width) (reach : Reach) (stands : Place) (x bits : ℕ) → IsReached reach stands
    → MayStandAt device ram registers width stands x → bits < 128
    → IsOperand (option_map suspended_of first) width (operand_word device a counted width reach) (with_free_bits width stands bits x)
operand_held laws {a} {counted} {first} {registers} on is Words (InRegister register) (place.InRegister other) x bits reached stands few =
    let under = option_map suspended_of first in
    let value = value_in registers register in
    let same : x ≡ value = subst (λ r. x ≡ value_in registers r % 65536) (sym reached) stands ∙ register_small register on.are in
    subst (λ r. IsOperand under Words (register_word a counted register) (with_free_bits Words (place.InRegister r) bits x)) reached
    (subst (λ v. IsOperand under Words (register_word a counted register) (with_free_bits Words (place.InRegister register) bits v)) (sym same)
    (cond_both (is_status (place.InRegister register)) (value + 512 * bits) value (λ v. IsOperand under Words (register_word a counted register) v)
    (λ e. of_word (register_held laws on bits few (λ no_status. absurd (cc)) (laws.places.kinds register)))
    (λ e. let plain : value + 512 * 0 ≡ value = omega arith in
    subst (IsOperand under Words (register_word a counted register)) plain (of_word
    (register_held laws on 0 (omega arith) (λ no_status. refl) (laws.places.kinds register))))))
operand_held laws {first} {registers} on is Byte (InRegister register) (place.InRegister other) x bits reached stands few =
    let under = option_map suspended_of first in
    let value = value_in registers register in
    let low : x ≡ (value + 512 * 0) % 256 = subst (λ r. x ≡ value_in registers r % 256) (sym reached) stands ∙ ap (λ n. n % 256) (omega arith) in
    of_byte laws x (register_held laws on 0 (omega arith) (λ no_status. refl) (laws.places.kinds register)) low
operand_held laws {device} {a} {first} {ram} on is Words (InMemory set_so) (place.InMemory address) x bits reached stands few =
    let memory : IsMemory device a (option_map suspended_of first) ram = record { device_so = is; cells = on.form.cells; stands = on.parts.cells } in
    of_word (known_held laws memory Words x reached stands)
operand_held laws {device} {a} {first} {ram} on is Byte (InMemory set_so) (place.InMemory address) x bits reached stands few =
    let memory : IsMemory device a (option_map suspended_of first) ram = record { device_so = is; cells = on.form.cells; stands = on.parts.cells } in
    let small = memory_below is ram on.parts.cells.0 Byte address x stands in
    of_byte laws x (known_held laws memory Byte x reached stands) (omega (arith, small))
operand_held laws {first} on is Words (Fixed value) (place.Fixed other) x bits reached stands few =
    let one = single_is laws.known 65536 value reached.1 in
    let same : value ≡ x = reached.0 ∙ sym (stands ∙ mod-eq_of_lt {n = other} {m = 65536} (omega (arith, reached.0, reached.1))) in
    subst (IsOperand (option_map suspended_of first) Words (record { set = single value; entry = None })) same
    (of_word (record { normal = one.normal; holds = (one.has, tt) }))
operand_held laws on is Byte (Fixed value) (place.Fixed other) x bits reached stands few =
    let one = single_is laws.known 65536 value reached.1 in
    of_byte laws x (record { normal = one.normal; holds = (one.has, tt) }) (stands ∙ ap (λ n. n % 256) (sym reached.0))
operand_held laws on is width reach stands x bits reached held few = absurd reached
