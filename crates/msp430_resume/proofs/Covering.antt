-- What a handler left stands where the suspended state goes on, and what is known there is in form.
use Rattle.std.proofs.Common.{◌≡◌, ℕ, zero, suc, ◌-◌, ◌%◌, ◌<◌, Bool, true, false, Option, None, Some, map, get_or, sym, ◌∙◌, subst, arith}
use Rattle.std.specs.Option.{option_map}
use Rattle.call_context.specs.declared.node.Frame.TheVariants.{Irq}
use Rattle.value_set.specs.Form.{Has, members}
use Rattle.value_set.specs.Joining.{is_in}
use Rattle.value_set.specs.Remainders.{HasRemainder}
use Rattle.value_set.specs.Summing.{single}
use Rattle.entry_value.specs.declared.word.Word.{Word}
use Rattle.entry_value.specs.Words.{HoldsOfWord}
use Rattle.entry_value.specs.Cells.{unknown}
use Rattle.irq_frames.specs.Resuming.{resumed_sized, resumed_word}
use Rattle.msp430_chip.specs.declared.device.Device.{Device}
use Rattle.msp430_chip.specs.declared.state.ChipState.{ChipState}
use Rattle.msp430_chip.specs.State.{IsChipState, register_of}
use Rattle.msp430_state.specs.Forms.{IsEvenWord, IsKnown, IsWord}
use Rattle.msp430_state.specs.Holding.{CameAt, GoesOn, HoldsOf, HoldsOfParts, ram_byte, suspended_of}
use Rattle.msp430_state.specs.Known.{Known, word_of}
use Rattle.msp430_resume.specs.Resume.{place_word, resumed_known}
use Rattle.msp430_alu.specs.Laws.{MemoryLaws}
use Rattle.msp430_resume.proofs.HeldWords.{IsSuspended, each_resumed, has_masks, register_small, length-resumed, place_form, relation_tells, resumed_at, resumed_form, word_of_form}
use Rattle.msp430_resume.proofs.Facts.{fact_form, fact_holds, status_form, status_holds}
use Rattle.msp430_resume.proofs.CellParts.{can_resume, cells_form, each_cell, each_tells, map_form, untouched_behind}
use Rattle.irq_frames.specs.TouchFacts.{none_touched, touched_form}
use Rattle.plain_lemmas.specs.AnyOf.{any_from}

-- COVER

-- one of R4 to R15
word_stands : (laws : MemoryLaws) (device : Device) (framed : Bool) (a exit : Known) (f : ChipState) (first : Option ChipState) (register v : ℕ)
    → IsSuspended device framed a f first → IsKnown device.ram.lo device.ram.hi true exit
    → register_of f 0 < 65536 → 3 < register → register < 16 → HoldsOfWord (Some (suspended_of f)) (word_of exit register) v
    → HoldsOfWord (option_map suspended_of first) (get_or (map (resumed_word (place_word a (register_of f 0))) exit.registers) (register - 4) (unknown 2)) v
word_stands laws device framed a exit f first register v is form small above below holds =
    let pc = register_of f 0 in
    let places = place_word a pc in
    let own = word_of_form laws true exit.registers form.registers (register - 4) in
    subst (λ (word : Word). HoldsOfWord (option_map suspended_of first) word v)
    (sym (resumed_at (resumed_word places) exit.registers (register - 4) (unknown 2) (omega (arith, above, below, form.count))))
    (laws.known.frames.word places (suspended_of f) (option_map suspended_of first) (word_of exit register) v (λ place. (place_form laws device.ram.lo device.ram.hi framed a pc small is.form place).normal)
    (has_masks (word_of exit register).entry own.entry) (relation_tells laws device framed a f first is (word_of exit register).entry own.entry) holds)

parts_stand : (laws : MemoryLaws) (device : Device) (framed : Bool) (a exit : Known) (f t : ChipState) (first : Option ChipState) (sp : ℕ)
    → device.ram.hi < 65536 → (framed ≡ false → first ≡ None)
    → IsSuspended device framed a f first → IsKnown device.ram.lo device.ram.hi true exit → IsChipState device t
    → HoldsOfParts device exit (Some f) t.registers t.ram
    → register_of f 0 < 65536 → register_of t 1 ≡ sp → sp < 65536
    → HoldsOfParts device (resumed_known framed a (register_of f 0) sp exit) first t.registers t.ram
unfolding resumed_known
parts_stand laws device framed a exit f t first sp below base is form state left small at sp_small =
    let pc = register_of f 0 in
    let places = place_word a pc in
    let under = option_map suspended_of first in
    let can = can_resume laws device.ram.lo device.ram.hi framed a exit pc below small is.form form in
    record {
      sp = subst (Has 65536 (single sp)) (sym at) (laws.known.sets.single 65536 sp sp_small).1;
      status = status_holds laws device framed a f first exit.status (register_of t 2) is form.status state.status left.status;
      words = λ register above low. word_stands laws device framed a exit f first register (register_of t register) is form small above low (left.words register above low);
      fact = fact_holds device exit f t a.fact is.state state is.form.fact is.parts.fact left.status.entry (λ register above low. (left.words register above low).1);
      cells = laws.known.frames.untouched (resumed_sized places) under (ram_byte device f.ram) (ram_byte device t.ram) a.cells exit.cells exit.touched
          (map_form device.ram.lo device.ram.hi framed a below is.form) can.form (laws.known.frames.sized_fit places exit.cells can)
          (laws.known.frames.sized_hold places (suspended_of f) under (ram_byte device t.ram) exit.cells can (each_tells laws device framed a exit f first is form) left.cells)
          left.untouched left.cells.0 is.parts.cells;
      untouched = untouched_behind laws device framed a.touched exit.touched f t.ram first base is.parts.untouched left.untouched;
    }

pub covers : (laws : MemoryLaws) (device : Device) (framed : Bool) (a exit : Known) (f t : ChipState) (first : Option ChipState) (vector sp level : ℕ)
    → device.ram.hi < 65536
    → (framed ≡ false → first ≡ None) → IsKnown device.ram.lo device.ram.hi framed a → IsKnown device.ram.lo device.ram.hi true exit
    → HoldsOf device a f first → HoldsOf device exit t (Some f) → GoesOn (Irq vector (Some sp) level) t (Some f)
    → HoldsOf device (resumed_known framed a (register_of f 0) sp exit) t first
unfolding resumed_known
covers laws device framed a exit f t first vector sp level below base form exit_form holds left goes =
    let is : IsSuspended device framed a f first = record { state = holds.state; form = form; parts = holds.parts } in
    let small : register_of f 0 < 65536 = register_small device f holds.state 0 (omega arith) in
    let sp_small : sp < 65536 = subst (λ n. n < 65536) goes.1 (register_small device t left.state 1 (omega arith)) in
    record {
      state = left.state;
      suspended = holds.suspended;
      late = left.late;
      parts = parts_stand laws device framed a exit f t first sp below base is exit_form left.state left.parts small goes.1 sp_small;
    }

pub has_pointer : (device : Device) (a : Known) (f : ChipState) (first : Option ChipState) (sp : ℕ)
    → HoldsOf device a f first → CameAt (Some sp) f → is_in 65536 a.sp sp ≡ true
has_pointer device a f first sp holds came = any_from sp (members 65536 a.sp) (subst (Has 65536 a.sp) came holds.parts.sp)

-- FORM

single_even : (sp : ℕ) → sp % 2 ≡ 0 → HasRemainder 65536 2 0 (single sp)
single_even sp even v (zero, lt, is) = let same : sp ≡ v = is in subst (λ n. n % 2 ≡ 0) same even
single_even sp even v (suc k, lt, is) = absurd (omega (arith, lt))

pub in_form : (laws : MemoryLaws) (lo hi : ℕ) (framed : Bool) (a exit : Known) (pc sp : ℕ) → hi < 65536
    → IsKnown lo hi framed a → IsKnown lo hi true exit
    → IsEvenWord pc → IsEvenWord sp → IsKnown lo hi framed (resumed_known framed a pc sp exit)
unfolding resumed_known
in_form laws lo hi framed a exit pc sp below form exit_form pc_so sp_so =
    let places = place_word a pc in
    let status = status_form framed a.status exit.status form.bits exit_form.bits form.status exit_form.status in
    record {
      sp = record { normal = (laws.known.sets.single 65536 sp sp_so.0).0; even = single_even sp sp_so.1 };
      bits = status.0;
      status = status.1;
      count = length-resumed (resumed_word places) exit.registers ∙ exit_form.count;
      registers = each_resumed (IsWord true) (IsWord framed) (resumed_word places) exit.registers (λ word. resumed_form laws framed places word (place_form laws lo hi framed a pc pc_so.0 form)) exit_form.registers;
      fact = fact_form exit a.fact form.fact;
      from = laws.known.frames.untouched_lo (resumed_sized places) a.cells exit.cells exit.touched ∙ form.from;
      up_to = laws.known.frames.untouched_hi (resumed_sized places) a.cells exit.cells exit.touched ∙ form.up_to;
      cells = cells_form laws lo hi framed a exit pc below pc_so.0 form exit_form;
      each_cell = each_cell laws lo hi framed a exit pc pc_so.0 form exit_form;
      touched = touched_form laws.known.ranges lo hi framed a.touched exit.touched form.touched exit_form.touched;
      none_touched = none_touched framed a.touched exit.touched;
    }
