-- The law of PUSH and CALL, along their stages.
use Rattle.std.proofs.Common.{◌≡◌, ℕ, ◌+◌, ◌*◌, ◌<◌, Bool, Option, None, List, get_or, set, refl, sym, ◌∙◌, subst, inl, inr, arith, get_or-set_same, get_or-set_other}
use Rattle.std.specs.Option.{option_map}
use Rattle.std.proofs.lemmas.Bool.{cond_both}
use Rattle.choosing.specs.Asking.{IsOption}
use Rattle.entry_value.specs.declared.word.Word.{Word}
use Rattle.entry_value.specs.Words.{Suspended}
use Rattle.value_set.specs.declared.form.Form.{Form}
use Rattle.value_set.specs.Form.{Has, make}
use Rattle.value_set.specs.Joining.{join}
use Rattle.value_set.specs.Summing.{add, single}
use Rattle.value_bits.specs.Sets.{pair_set}
use Rattle.msp430_decode.specs.declared.instr.SingleOperation.{SingleOperation}
use Rattle.msp430_decode.specs.declared.instr.SingleOperation.TheVariants.{Push, Call}
use Rattle.msp430_decode.specs.declared.instr.Source.{Source}
use Rattle.msp430_decode.specs.declared.instr.Width.{Width}
use Rattle.msp430_decode.specs.declared.instr.Width.TheVariants.{Word as Words, Byte}
use Rattle.msp430_decode.specs.Operands.{IsSource}
use Rattle.msp430_chip.specs.declared.device.Device.{Device}
use Rattle.msp430_chip.specs.declared.place.Place.TheVariants as place
use Rattle.msp430_chip.specs.declared.state.ChipState.{ChipState}
use Rattle.msp430_chip.specs.Leading.{MayPushWord, MayLeavePush, MayPush, at_source, behind_source, pushed_place}
use Rattle.msp430_chip.specs.Outcome.{Outcome}
use Rattle.msp430_chip.specs.State.{register_of, even}
use Rattle.msp430_chip.specs.Step.{Left, behind, is_formed_by_stack, with_lowered, lowered, pushed}
use Rattle.msp430_state.specs.Holding.{suspended_of, HoldsOfParts}
use Rattle.msp430_state.specs.Known.{Known}
use Rattle.msp430_alu.specs.declared.reach.Reach.TheVariants.{InMemory}
use Rattle.msp430_results.specs.FlagSets.{IsResult}
use Rattle.msp430_alu.specs.Formats.{put_known, lowered_known, forming_known, pushed_known, called_next, push_worked, IsUnder, IsLeft}
use Rattle.msp430_results.specs.Words.{values_of, written_word}
use Rattle.msp430_alu.specs.Operands.{grown_known}
use Rattle.msp430_results.specs.InstructionLaws.{InstructionLaws}
use Rattle.msp430_alu.specs.Registers.{AreRegisters, even_parts, with_sp}
use Rattle.msp430_alu.specs.NumberFacts.{single_is, add_is, even_parts_is, join_first_is, join_second_is}
use Rattle.msp430_alu.proofs.Doubles.{two_options, written_is}
use Rattle.msp430_alu.proofs.Growth.{behind_is, on_the_way, way, grown_pc}
use Rattle.msp430_alu.proofs.OperandLemmas.{IsOnTheWay, IsOperand, source_reached, operand_held}
use Rattle.msp430_alu.proofs.Parts.{parts_counted, sp_written}
use Rattle.msp430_alu.proofs.Putting.{IsPut, IsReady, IsWritten, counted_are, sp_are, put_is}
use Rattle.msp430_alu.proofs.Shapes.{sp_form}

-- SP

-- another set that has SP
sp_seen : (laws : InstructionLaws) {device : Device} {framed : Bool} {a : Known} {counted : Form} {first : Option ChipState} {registers ram : List ℕ} {set_so : Form}
    → IsOnTheWay device framed a counted first registers ram
    → IsResult 65536 set_so (get_or registers 1 0) → IsOnTheWay device framed (with_sp a set_so) counted first registers ram
sp_seen laws {registers} {set_so} on is =
    let same : even (get_or registers 1 0) ≡ get_or registers 1 0 = omega (arith, on.are.even_sp) in
    record {
      form = sp_form laws set_so is.normal on.form;
      are = on.are;
      counts = on.counts;
      parts = let seen = subst (Has 65536 (even_parts set_so)) same (even_parts_is laws.known set_so (get_or registers 1 0) is).has in assumption (on.parts, seen);
    }

-- another SP
sp_set : (laws : InstructionLaws) {device : Device} {framed : Bool} {a : Known} {counted : Form} {first : Option ChipState} {registers ram : List ℕ} {set_so : Form} {value : ℕ}
    → IsOnTheWay device framed a counted first registers ram
    → IsResult 65536 set_so value → even value ≡ value
    → IsOnTheWay device framed (with_sp a set_so) counted first (set registers 1 value) ram
sp_set laws {device} {a} {counted} {first} {registers} {ram} {set_so} {value} on is same =
    let small = laws.known.sets.below 65536 value set_so is.normal is.has in
    record {
      form = sp_form laws set_so is.normal on.form;
      are = subst (λ v. AreRegisters (set registers 1 v)) same (sp_are value small on.are);
      counts = subst (IsResult 65536 counted) (sym (get_or-set_other registers 1 0 value 0 (λ e. omega (arith, e)))) on.counts;
      parts = subst (λ v. HoldsOfParts device (with_sp a set_so) first (set registers 1 v) ram) same
          (sp_written value set_so on.are.count on.form.fact (even_parts_is laws.known set_so value is).has on.parts);
    }

pub lowered_is : (laws : InstructionLaws) {device : Device} {framed : Bool} {a : Known} {counted : Form} {first : Option ChipState} {registers ram : List ℕ}
    → IsOnTheWay device framed a counted first registers ram
    → IsResult 65536 (add 65536 a.sp (single 65534)) (lowered (get_or registers 1 0))
lowered_is laws {a} {registers} on =
    add_is laws.known 65536 (get_or registers 1 0) 65534 a.sp (single 65534) (record { normal = on.form.sp.normal; has = on.parts.sp })
    (single_is laws.known 65536 65534 (omega arith))

lowered_even : {registers : List ℕ} → AreRegisters registers → even (lowered (get_or registers 1 0)) ≡ lowered (get_or registers 1 0)
lowered_even are = omega (arith, are.even_sp)

pub lowered_on : (laws : InstructionLaws) {device : Device} {framed : Bool} {a : Known} {counted : Form} {first : Option ChipState} {registers ram : List ℕ}
    → IsOnTheWay device framed a counted first registers ram
    → IsOnTheWay device framed (lowered_known a) counted first (set registers 1 (lowered (get_or registers 1 0))) ram
lowered_on laws on =
    sp_set laws on (lowered_is laws on) (lowered_even on.are)

-- the operand is formed before or after SP is lowered
both_seen : (laws : InstructionLaws) {device : Device} {framed : Bool} {a : Known} {counted : Form} {first : Option ChipState} {registers ram : List ℕ} (option : ℕ)
    → option < 2
    → IsOnTheWay device framed a counted first registers ram
    → IsOnTheWay device framed (with_sp a (join 65536 a.sp (add 65536 a.sp (single 65534)))) counted first (with_lowered option registers) ram
both_seen laws {device} {framed} {a} {counted} {first} {registers} {ram} option few on =
    let less = add 65536 a.sp (single 65534) in
    let less_is = lowered_is laws on in
    elim (two_options option few) [
      | inl none ↦ subst (λ n. IsOnTheWay device framed (with_sp a (join 65536 a.sp less)) counted first (with_lowered n registers) ram) (sym none)
          (sp_seen laws on
          (join_first_is laws.known 65536 (get_or registers 1 0) a.sp less (record { normal = on.form.sp.normal; has = on.parts.sp }) less_is.normal))
      | inr some ↦ subst (λ n. IsOnTheWay device framed (with_sp a (join 65536 a.sp less)) counted first (with_lowered n registers) ram) (sym some)
          (sp_set laws on (join_second_is laws.known 65536 (lowered (get_or registers 1 0)) a.sp less on.form.sp.normal less_is) (lowered_even on.are))
    ]

pub forming_on : (laws : InstructionLaws) {device : Device} {framed : Bool} {a : Known} {counted : Form} {first : Option ChipState} {registers ram : List ℕ} (operand : Source)
    (option : ℕ) → IsOption (is_formed_by_stack operand) 2 option
    → IsOnTheWay device framed a counted first registers ram
    → IsOnTheWay device framed (forming_known operand a) counted first (with_lowered option registers) ram
forming_on laws {device} {framed} {a} {counted} {first} {registers} {ram} operand option formed on =
    cond_both (is_formed_by_stack operand) (with_sp a (join 65536 a.sp (add 65536 a.sp (single 65534)))) a
    (λ b. IsOnTheWay device framed b counted first (with_lowered option registers) ram)
    (λ e. both_seen laws option formed.below on)
    (λ e. subst (λ n. IsOnTheWay device framed a counted first (with_lowered n registers) ram) (sym (formed.none e)) on)

-- THE PUSHED WORD

byte_pushed : (laws : InstructionLaws) {first : Option Suspended} {x : Word} {v : ℕ} (word : ℕ) → IsOperand first Byte x v
    → MayPushWord Byte v word
    → IsWritten first Words (record { set = pair_set (values_of Byte x) (make 256 0 1 256); entry = None }) word
byte_pushed laws {x} {v} word held (high, few, is) =
    let above = make 256 0 1 256 in
    let normal = laws.known.sets.whole_normal 256 (omega arith) in
    let same : v + high * 256 ≡ word = omega (arith, is) in
    record {
      held = record {
        normal = laws.known.bits.pair_normal (values_of Byte x) above held.values.normal normal;
        holds =
            (subst (Has 65536 (pair_set (values_of Byte x) above)) same (laws.known.bits.pair v high (values_of Byte x) above held.values.normal normal held.values.has (laws.known.sets.whole 256 high few)), tt);
      };
      byte = λ e. absurd (omega (arith, e));
    }

word_pushed : {first : Option Suspended} {x : Word} {v : ℕ} → IsOperand first Words x v → IsWritten first Words x v
word_pushed held = record { held = record { normal = held.values.normal; holds = held.holds refl }; byte = λ e. absurd (omega (arith, e)) }

value_pushed : (laws : InstructionLaws) {first : Option Suspended} (width : Width) {x : Word} {v : ℕ} (word : ℕ)
    → IsOperand first width x v → MayPushWord width v word
    → IsWritten first Words (pushed_known Push width x word) word
value_pushed laws {first} Words {x} word held is = subst (IsWritten first Words x) (sym is) (word_pushed held)
value_pushed laws Byte word held is = byte_pushed laws word held is

-- all but CALL push alike
alike : (done : SingleOperation) (width : Width) (x : Word) (one other : ℕ) → (done ≡ Call → ⊥)
    → pushed_known Push width x one ≡ pushed_known done width x other
alike Call width x one other differs = absurd (differs refl)
alike done Words x one other differs = refl
alike done Byte x one other differs = refl

call_pushed : (laws : InstructionLaws) (first : Option Suspended) (width : Width) (x : Word) (after : ℕ) → after < 65536
    → IsWritten first Words (pushed_known Call width x after) after
call_pushed laws first width x after small =
    let is = single_is laws.known 65536 after small in record { held = record { normal = is.normal; holds = (is.has, tt) }; byte = λ e. absurd (omega (arith, e)) }

-- WHAT A PUSH LEAVES

-- where the word goes
pub slot_reached : (laws : InstructionLaws) {device : Device} {framed : Bool} {b : Known} {counted : Form} {first : Option ChipState} {registers ram : List ℕ}
    → IsOnTheWay device framed b counted first registers ram → IsResult 65536 (lowered_known b).sp (lowered (get_or registers 1 0))
slot_reached laws {b = b} {registers = registers} on =
    let sp = lowered (get_or registers 1 0) in
    let lower = lowered_on laws on in
    record { normal = lower.form.sp.normal; has = subst (Has 65536 (lowered_known b).sp) (get_or-set_same registers 1 sp 0 (omega (arith, on.are.count))) lower.parts.sp }

-- what is known behind it
abbrev pushed_behind : Device → Bool → Known → Word → Known
pushed_behind device framed b word = put_known device framed (lowered_known b) Words (InMemory (lowered_known b).sp) word

-- behind the operand PC has its value, and the word goes below SP
pushed_left : (laws : InstructionLaws) {device : Device} {framed : Bool} {b : Known} {first : Option ChipState} {registers ram : List ℕ} {pc word : ℕ} {pushed_so : Word}
    → IsReady device framed b first registers ram pc
    → IsWritten (option_map suspended_of first) Words pushed_so word
    → IsPut device (pushed_behind device framed b pushed_so) first (single pc) (pushed device registers ram word)
pushed_left laws {device} {framed} {b} {first} {registers} {ram} {pc} ready written =
    let sp = lowered (get_or registers 1 0) in
    let on : IsOnTheWay device framed b (single pc) first registers ram = record {
      form = ready.form;
      are = ready.are;
      counts = subst (IsResult 65536 (single pc)) (sym ready.pc) (single_is laws.known 65536 pc ready.small);
      parts = ready.parts;
    } in
    let lower = lowered_on laws on in
    let at : get_or (set registers 1 sp) 0 0 ≡ pc = get_or-set_other registers 1 0 sp 0 (λ e. omega (arith, e)) ∙ ready.pc in
    let below : IsReady device framed (lowered_known b) first (set registers 1 sp) ram pc = assumption (lower, at, ready) in
    put_is laws below (InMemory (lowered_known b).sp) (place.InMemory sp) (slot_reached laws on) refl written

plain_next : (done : SingleOperation) (width : Width) (x : Word) (after : ℕ) → (done ≡ Call → ⊥)
    → called_next done width x after ≡ single after
plain_next Call width x after differs = absurd (differs refl)
plain_next other width x after differs = refl

plain_left : (laws : InstructionLaws) {device : Device} {framed : Bool} {b : Known} {first : Option ChipState} {registers ram : List ℕ} {after : ℕ}
    → IsReady device framed b first registers ram after
    → (done : SingleOperation) {width : Width} {x : Word} {v : ℕ} (left : Left)
    → IsOperand (option_map suspended_of first) width x v → (done ≡ Call → ⊥)
    → (word : ℕ) × MayPushWord width v word × (left ≡ pushed device registers ram word)
    → IsLeft device (pushed_behind device framed b (pushed_known done width x after)) first (called_next done width x after) left
plain_left laws {device} {framed} {b} {first} {registers} {ram} {after} ready done {width} {x} left held differs (word, may, left_is) =
    let written = subst (λ p. IsWritten (option_map suspended_of first) Words p word) (alike done width x word after differs) (value_pushed laws width word held may) in
    let put_so = pushed_left laws ready written in
    subst (IsLeft device (pushed_behind device framed b (pushed_known done width x after)) first (called_next done width x after)) (sym left_is)
    (record { next_is = subst (λ n. IsResult 65536 n (get_or (pushed device registers ram word).registers 0 0)) (sym (plain_next done width x after differs)) put_so.next_is; parts = put_so.parts })

call_left : (laws : InstructionLaws) {device : Device} {framed : Bool} {b : Known} {first : Option ChipState} {registers ram : List ℕ} {after : ℕ}
    → IsReady device framed b first registers ram after
    → {width : Width} {x : Word} {v : ℕ} (left : Left) → IsOperand (option_map suspended_of first) width x v
    → left ≡ pushed device (set registers 0 (even v)) ram after
    → IsLeft device (pushed_behind device framed b (pushed_known Call width x after)) first (called_next Call width x after) left
call_left laws {device} {framed} {b} {first} {registers} {ram} {after} ready {width} {x} {v} left held left_is =
    let suspended = option_map suspended_of first in
    let target = written_word width (values_of width x) None in
    let value = written_is laws suspended width None held.values (λ e. tt) in
    let small = laws.known.sets.below 65536 v target.set value.held.normal value.held.holds.0 in
    let goes = even_parts_is laws.known target.set v (record { normal = value.held.normal; has = value.held.holds.0 }) in
    let even_small : even v < 65536 = omega (arith, small) in
    let jumped = set registers 0 (even v) in
    let stored : get_or jumped 0 0 ≡ even v = get_or-set_same registers 0 (even v) 0 (omega (arith, ready.are.count)) in
    let are = counted_are (even v) even_small ready.are in
    let parts = parts_counted (even v) ready.form.fact ready.parts in
    let there : IsReady device framed b first jumped ram (even v) = assumption (are, parts, stored, even_small, ready) in
    let put_so = pushed_left laws there (call_pushed laws suspended width x after ready.small) in
    let sp = lowered (get_or jumped 1 0) in
    let at_end : get_or (set jumped 1 sp) 0 0 ≡ even v = get_or-set_other jumped 1 0 sp 0 (λ e. omega (arith, e)) ∙ stored in
    subst (IsLeft device (pushed_behind device framed b (pushed_known Call width x after)) first (called_next Call width x after)) (sym left_is)
    (record { next_is = subst (IsResult 65536 (even_parts target.set)) (sym at_end) goes; parts = put_so.parts })

either_left : (laws : InstructionLaws) {device : Device} {framed : Bool} {b : Known} {first : Option ChipState} {registers ram : List ℕ} {after : ℕ}
    → IsReady device framed b first registers ram after
    → (done : SingleOperation) {width : Width} {x : Word} {v : ℕ} (left : Left) → IsOperand (option_map suspended_of first) width x v
    → MayLeavePush device ram registers done width v after left
    → IsLeft device (pushed_behind device framed b (pushed_known done width x after)) first (called_next done width x after) left
either_left laws ready Call left held leaves = call_left laws ready left held leaves
either_left laws ready other left held leaves = plain_left laws ready other left held (λ e. absurd (cc)) leaves

-- THE LAW

-- the registers that form the operand
pub push_forming : (laws : InstructionLaws) {device : Device} {framed : Bool} {a : Known} {s : ChipState} {first : Option ChipState} {len : ℕ} {done : SingleOperation} {width : Width}
    {operand : Source}
    {outcome : Outcome ChipState} → IsUnder device framed a s first → (may : MayPush device s len done width operand outcome)
    → IsOnTheWay device framed (forming_known operand a) (single (behind s len)) first (with_lowered may.option (at_source s (behind s len))) s.ram
push_forming laws {s = s} {len = len} {operand = operand} under may =
    forming_on laws operand may.option may.formed (on_the_way under.form under.holds (omega arith) (behind_is laws s len))

pub push_law : (laws : InstructionLaws) {device : Device} {framed : Bool} {a : Known} {s : ChipState} {first : Option ChipState} {len : ℕ} {done : SingleOperation} {width : Width}
    {operand : Source}
    {outcome : Outcome ChipState} → IsUnder device framed a s first → IsSource operand
    → (may : MayPush device s len done width operand outcome)
    → let worked = push_worked device framed a (register_of s 0) len done width operand in IsLeft device worked.after first worked.next may.left
unfolding push_worked
push_law laws {device} {framed} {a} {s} {first} {len} {done} {width} {operand} {outcome} under from_so may =
    let pc = register_of s 0 in
    let counted = behind s len in
    let small : counted < 65536 = omega arith in
    let before = at_source s counted in
    let forming = push_forming laws under may in
    let from_is = source_reached laws forming pc operand from_so in
    let held = operand_held laws forming under.device_so width _ (pushed_place s len may.option operand) may.x may.bits from_is may.reads may.free.below in
    let way = way laws under (behind_is laws s len) width operand from_so in
    let grown_so = grown_known a (single counted) width operand in
    let stored : get_or before 0 0 ≡ counted = get_or-set_same s.registers 0 counted 0 (omega (arith, way.on.are.count)) in
    let at = grown_pc laws before width operand from_so ∙ stored in
    let ready : IsReady device framed grown_so first (behind_source s counted width operand) s.ram counted = assumption (way.behind, at, small, under) in
    either_left laws ready done may.left held may.leaves
