-- The law of RETI: what it leaves, shows and goes on to.
use Rattle.std.proofs.Common.{◌≡◌, ℕ, zero, suc, ◌+◌, ◌%◌, ◌<◌, Bool, false, Option, length, get_or, set, refl, sym, ◌∙◌, subst, arith, get_or-set_same, get_or-set_other}
use Rattle.std.specs.Option.{option_map}
use Rattle.std.proofs.lemmas.List.{length-set}
use Rattle.call_context.specs.Showing.{AreShowing}
use Rattle.call_context.specs.declared.shown.Item.TheVariants.{Access}
use Rattle.call_context.specs.declared.shown.Set.TheVariants.{W}
use Rattle.chip_numbers.specs.declared.space.Space.TheVariants.{Mem}
use Rattle.entry_value.specs.Words.{HoldsOfWord}
use Rattle.value_set.specs.declared.form.Form.{Form}
use Rattle.value_set.specs.Form.{Has, IsNormal}
use Rattle.value_set.specs.Summing.{add, single}
use Rattle.msp430_decode.specs.declared.instr.Width.TheVariants.{Word as Words}
use Rattle.msp430_chip.specs.declared.device.Device.{Device}
use Rattle.msp430_chip.specs.declared.state.ChipState.{ChipState}
use Rattle.msp430_chip.specs.Leading.{MayReturn}
use Rattle.msp430_chip.specs.Outcome.{Outcome}
use Rattle.msp430_chip.specs.Memory.{aligned}
use Rattle.msp430_chip.specs.State.{even, register_of}
use Rattle.msp430_results.specs.FlagSets.{IsResult}
use Rattle.msp430_state.specs.Forms.{IsKnown}
use Rattle.msp430_state.specs.Holding.{suspended_of, HoldsOfStatus}
use Rattle.msp430_state.specs.Known.{Known, word_of}
use Rattle.msp430_alu.specs.Doing.{IsWellMade}
use Rattle.msp430_alu.specs.Formats.{AreShown, IsLeft, IsUnder}
use Rattle.msp430_alu.specs.Memory.{IsDevice, read_known}
use Rattle.msp430_alu.specs.Registers.{even_parts}
use Rattle.msp430_alu.specs.Laws.{MemoryLaws}
use Rattle.msp430_return.specs.Return.{counter_place, left_of_return, return_accesses, return_items, return_worked, status_from, status_place}
use Rattle.msp430_alu.specs.NumberFacts.{add_is, even_parts_form, even_parts_is, single_is, sum_even}
use Rattle.msp430_alu.specs.RelationFacts.{status_relation_form}
use Rattle.msp430_return.proofs.StatusWord.{status_holds, status_length}

-- THE SLOTS

abbrev above : Form → Form
above sp = add 65536 sp (single 2)

above_normal : (laws : MemoryLaws) {lo hi : ℕ} {framed : Bool} {a : Known} → IsKnown lo hi framed a → IsNormal 65536 (above a.sp)
above_normal laws {a} form = (sum_even laws.known a.sp 2 (omega arith) refl form.sp).normal

-- SP and a number
sp_raised : (laws : MemoryLaws) {device : Device} {framed : Bool} {a : Known} {s : ChipState} {first : Option ChipState}
    → IsUnder device framed a s first → (n : ℕ) → n < 65536
    → Has 65536 (add 65536 a.sp (single n)) ((register_of s 1 + n) % 65536)
sp_raised laws {a} {s} under n small =
    (add_is laws.known 65536 (register_of s 1) n a.sp (single n) (record { normal = under.form.sp.normal; has = under.holds.parts.sp }) (single_is laws.known 65536 n small)).has

sp_is : (laws : MemoryLaws) {device : Device} {framed : Bool} {a : Known} {s : ChipState} {first : Option ChipState}
    → IsUnder device framed a s first
    → Has 65536 (status_place device a.sp) (aligned device Words (register_of s 1))
sp_is laws {device} {a} {s} under = laws.words.located device a.sp (register_of s 1) under.device_so.ram under.form.sp.normal under.holds.parts.sp

above_is : (laws : MemoryLaws) {device : Device} {framed : Bool} {a : Known} {s : ChipState} {first : Option ChipState}
    → IsUnder device framed a s first
    → Has 65536 (counter_place device a.sp) (aligned device Words ((register_of s 1 + 2) % 65536))
above_is laws {device} {a} {s} under =
    laws.words.located device (above a.sp) ((register_of s 1 + 2) % 65536) under.device_so.ram (above_normal laws under.form)
    (sp_raised laws under 2 (omega arith))

status_read : (laws : MemoryLaws) {device : Device} {framed : Bool} {a : Known} {s : ChipState} {first : Option ChipState} {outcome : Outcome ChipState}
    → IsUnder device framed a s first → (may : MayReturn device s outcome)
    → HoldsOfWord (option_map suspended_of first) (read_known device a Words (status_place device a.sp)) may.status
status_read laws {device} {framed} {a} {s} {first} under may =
    laws.words.read device framed a first s.registers s.ram a.sp (register_of s 1) may.status under.device_so under.form under.form.sp.normal under.holds.parts.sp
    under.holds.parts may.reads_status

pub counter_read : (laws : MemoryLaws) {device : Device} {framed : Bool} {a : Known} {s : ChipState} {first : Option ChipState} {outcome : Outcome ChipState}
    → IsUnder device framed a s first → (may : MayReturn device s outcome)
    → HoldsOfWord (option_map suspended_of first) (read_known device a Words (counter_place device a.sp)) may.target
counter_read laws {device} {framed} {a} {s} {first} under may =
    laws.words.read device framed a first s.registers s.ram (above a.sp) ((register_of s 1 + 2) % 65536) may.target under.device_so under.form
    (above_normal laws under.form) (sp_raised laws under 2 (omega arith)) under.holds.parts may.reads_target

-- THE REGISTERS BEHIND IT

pub counter_left : (s : ChipState) (status target : ℕ) → length s.registers ≡ 16
    → get_or (left_of_return s status target).registers 0 0 ≡ even target
counter_left s status target long =
    let counted = set s.registers 0 (even target) in
    get_or-set_other (set counted 1 ((register_of s 1 + 4) % 65536)) 2 0 (status % 512) 0 (λ e. omega (arith, e))
    ∙ get_or-set_other counted 1 0 ((register_of s 1 + 4) % 65536) 0 (λ e. omega (arith, e)) ∙ get_or-set_same s.registers 0 (even target) 0 (omega (arith, long))

pub stack_left : (s : ChipState) (status target : ℕ) → length s.registers ≡ 16
    → get_or (left_of_return s status target).registers 1 0 ≡ (register_of s 1 + 4) % 65536
stack_left s status target long =
    let counted = set s.registers 0 (even target) in
    get_or-set_other (set counted 1 ((register_of s 1 + 4) % 65536)) 2 1 (status % 512) 0 (λ e. omega (arith, e))
    ∙ get_or-set_same counted 1 ((register_of s 1 + 4) % 65536) 0 (omega (arith, long, length-set s.registers 0 (even target)))

status_left : (s : ChipState) (status target : ℕ) → length s.registers ≡ 16
    → get_or (left_of_return s status target).registers 2 0 ≡ status % 512
status_left s status target long =
    let counted = set s.registers 0 (even target) in
    let stacked = set counted 1 ((register_of s 1 + 4) % 65536) in
    get_or-set_same stacked 2 (status % 512) 0 (omega (arith, long, length-set s.registers 0 (even target), length-set counted 1 ((register_of s 1 + 4) % 65536)))

other_left : (s : ChipState) (status target r : ℕ) → 3 < r → get_or s.registers r 0 ≡ get_or (left_of_return s status target).registers r 0
other_left s status target r high =
    let counted = set s.registers 0 (even target) in
    sym (get_or-set_other (set counted 1 ((register_of s 1 + 4) % 65536)) 2 r (status % 512) 0 (λ e. omega (arith, e, high))
    ∙ get_or-set_other counted 1 r ((register_of s 1 + 4) % 65536) 0 (λ e. omega (arith, e, high)) ∙ get_or-set_other s.registers 0 r (even target) 0
    (λ e. omega (arith, e, high)))

-- THE LAW

pub return_law : (laws : MemoryLaws) {device : Device} {framed : Bool} {a : Known} {s : ChipState} {first : Option ChipState} {outcome : Outcome ChipState}
    → IsUnder device framed a s first → (may : MayReturn device s outcome)
    → IsLeft device (return_worked device a (register_of s 0)).after first (return_worked device a (register_of s 0)).next (left_of_return s may.status may.target)
unfolding return_worked
return_law laws {device} {framed} {a} {s} {first} {outcome} under may =
    let suspended = option_map suspended_of first in
    let long = under.holds.state.registers in
    let status_word = read_known device a Words (status_place device a.sp) in
    let counter_word = read_known device a Words (counter_place device a.sp) in
    let status_so = status_holds laws framed first status_word may.status (laws.words.read_form device framed a (status_place device a.sp) under.device_so under.form)
    (status_read laws under may) in
    let counter_so : IsResult 65536 counter_word.set may.target = record {
      normal = (laws.words.read_form device framed a (counter_place device a.sp) under.device_so under.form).normal;
      has = (counter_read laws under may).0;
    } in
    let parts = under.holds.parts in
    record {
      next_is = subst (IsResult 65536 (even_parts counter_word.set)) (sym (counter_left s may.status may.target long))
          (even_parts_is laws.known counter_word.set may.target counter_so);
      parts = record {
        sp = subst (Has 65536 (add 65536 a.sp (single 4))) (sym (stack_left s may.status may.target long)) (sp_raised laws under 4 (omega arith));
        status = subst (HoldsOfStatus suspended (status_from status_word)) (sym (status_left s may.status may.target long)) status_so;
        words = λ register low high. subst (HoldsOfWord suspended (word_of a register)) (other_left s may.status may.target register low) (parts.words register low high);
        fact = tt;
        cells = parts.cells;
        untouched = parts.untouched;
      };
    }

-- an access of the list is the first one or the second
pub return_shown : (laws : MemoryLaws) {device : Device} {framed : Bool} {a : Known} {s : ChipState} {first : Option ChipState}
    → IsUnder device framed a s first
    → AreShown (return_worked device a (register_of s 0)).accesses (return_accesses device s)
unfolding return_worked
return_shown laws {device} {framed} {a} {s} {first} under single_so (zero, lt, is) =
    let pc = register_of s 0 in
    subst (AreShowing (return_items device pc a.sp)) is (Access pc Mem false 2 (W (status_place device a.sp)), (0, omega arith, refl), (refl, refl, refl, refl, sp_is laws under))
return_shown laws {device} {framed} {a} {s} {first} under single_so (suc zero, lt, is) =
    let pc = register_of s 0 in
    subst (AreShowing (return_items device pc a.sp)) is
    (Access pc Mem false 2 (W (counter_place device a.sp)), (1, omega arith, refl), (refl, refl, refl, refl, above_is laws under))
return_shown laws {device} {framed} {a} {s} {first} under single_so (suc (suc k), lt, is) = absurd (omega (arith, lt))

pub return_made : (laws : MemoryLaws) (device : Device) (framed : Bool) (a : Known) (pc behind : ℕ) → IsDevice device
    → IsKnown device.ram.lo device.ram.hi framed a → IsWellMade device framed behind (return_worked device a pc)
unfolding return_worked
return_made laws device framed a pc behind is form =
    let word = read_known device a Words (status_place device a.sp) in
    let sp = sum_even laws.known a.sp 4 (omega arith) refl form.sp in
    let status = status_relation_form framed word.entry (laws.words.read_form device framed a (status_place device a.sp) is form).entry in
    let counter = read_known device a Words (counter_place device a.sp) in
    let next = even_parts_form laws.known counter.set (laws.words.read_form device framed a (counter_place device a.sp) is form).normal in
    record {
      form = assumption (sp, status_length word, status, form);
      next = next.normal;
      even = λ _. next.even;
    }
