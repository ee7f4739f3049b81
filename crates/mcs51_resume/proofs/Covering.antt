-- What a handler left stands where the suspended state goes on, and what is known there is in form.
use Rattle.std.proofs.Common.{◌≡◌, ℕ, ◌<◌, Bool, true, Option, Some, refl, sym, subst, arith}
use Rattle.std.specs.Option.{option_map}
use Rattle.call_context.specs.declared.node.Frame.TheVariants.{Irq}
use Rattle.value_set.specs.Form.{Has, members}
use Rattle.value_set.specs.Joining.{is_in}
use Rattle.value_set.specs.Summing.{single}
use Rattle.entry_value.specs.declared.byte.Byte.{Byte}
use Rattle.entry_value.specs.Words.{HoldsOfByte}
use Rattle.mcs51_chip.specs.declared.place.Sfr.{Sfr}
use Rattle.mcs51_chip.specs.declared.place.Sfr.TheVariants.{Ie, Ip}
use Rattle.mcs51_chip.specs.declared.state.ChipState.{ChipState}
use Rattle.mcs51_state.specs.Forms.{IsByte, IsKnown, IsOwnByte, IsOwnRelation, IsRelation}
use Rattle.mcs51_state.specs.Holding.{CameAt, GoesOn, HoldsOf, HoldsOfParts, HoldsOfReads}
use Rattle.mcs51_state.specs.Known.{Known}
use Rattle.mcs51_state.specs.Places.{ie_place, ip_place, suspended_of}
use Rattle.mcs51_state.specs.Under.{IsUnder}
use Rattle.mcs51_results.specs.InstructionLaws.{InstructionLaws}
use Rattle.mcs51_resume.specs.Resume.{place_byte, resumed_byte, resumed_known}
use Rattle.mcs51_resume.proofs.Masks.{byte_form, byte_holds, own_form, own_is_relation}
use Rattle.mcs51_resume.proofs.PlaceLemmas.{at_enable, at_priority, relation_formed, relation_tells}
use Rattle.mcs51_resume.proofs.Psw.{status_form, status_holds}
use Rattle.mcs51_resume.proofs.FactLemmas.{IsLeft, carry_form, carry_holds, linear_form, linear_holds}
use Rattle.mcs51_resume.proofs.CellLemmas.{cells_are, cells_from, cells_stand, cells_up_to, each_chip_cell, untouched_behind}
use Rattle.irq_frames.specs.TouchFacts.{none_touched, touched_form}
use Rattle.plain_lemmas.specs.AnyOf.{any_from}

-- COVER

module _ (laws : InstructionLaws) (framed : Bool) (a exit : Known) (f t : ChipState) (first : Option ChipState) (under : IsUnder framed a f first) (left : IsUnder true exit t (Some f)) where
  byte_stands : (byte : Byte) (v : ℕ) → IsRelation true byte.entry → HoldsOfByte (Some (suspended_of f)) byte v
      → HoldsOfByte (option_map suspended_of first) (resumed_byte (place_byte framed a f.pc) byte) v
  byte_stands byte v named holds =
      byte_holds laws.known (place_byte framed a f.pc) (suspended_of f) (option_map suspended_of first) byte v (relation_tells laws framed a f first under byte.entry named) holds

  own_stands : (byte : Byte) (place unheld : ℕ) (sfr : Sfr)
      → IsRelation true (Some (record { place = place; and = 0; or = 0 })) → IsOwnRelation true place unheld byte.entry
      → HoldsOfReads (Some (suspended_of f)) byte t sfr
      → HoldsOfReads (option_map suspended_of first) (resumed_byte (place_byte framed a f.pc) byte) t sfr
  own_stands byte place unheld sfr named form reads = λ x may. byte_stands byte x (own_is_relation true place unheld byte.entry named form) (reads x may)

  parts_stand : (sp : ℕ) → t.sp ≡ sp → HoldsOfParts (resumed_known framed a f.pc sp exit) t first
  unfolding resumed_known
  parts_stand sp at =
      let parts = left.holds.parts in
      let form = left.form in
      let both : IsLeft f t exit = record { suspended = under.holds.state; under = left } in
      record {
        sp = subst (λ n. Has 256 (single n) t.sp) at (laws.known.sets.single 256 t.sp left.holds.state.sp).1;
        a = byte_stands exit.a t.a form.a.entry parts.a;
        b = byte_stands exit.b t.b form.b.entry parts.b;
        dpl = byte_stands exit.dpl t.dpl form.dpl.entry parts.dpl;
        dph = byte_stands exit.dph t.dph form.dph.entry parts.dph;
        ie = own_stands exit.ie ie_place 64 Ie (refl, omega arith, omega arith) form.ie.entry parts.ie;
        ip = own_stands exit.ip ip_place 192 Ip (refl, omega arith, omega arith) form.ip.entry parts.ip;
        psw = status_holds laws framed a f first exit.psw t.psw under form.psw left.holds.state.psw parts.psw;
        levels = parts.levels;
        linear_fact = linear_holds laws f t exit both a.linear_fact under.form.linear_fact under.holds.parts.linear_fact;
        carry_fact = carry_holds laws f t exit both a.carry_fact under.form.carry_fact under.holds.parts.carry_fact;
        cells = cells_stand laws framed a exit f t first under left;
        untouched = untouched_behind laws.known.ranges framed a.touched exit.touched f t first under.base under.holds.parts.untouched parts.untouched;
      }

-- THE STACK POINTER

pub has_pointer : (a : Known) (f : ChipState) (first : Option ChipState) (sp : ℕ) → HoldsOf a f first
    → CameAt (Some sp) f → is_in 256 a.sp sp ≡ true
has_pointer a f first sp holds came = any_from sp (members 256 a.sp) (subst (Has 256 a.sp) came holds.parts.sp)

-- FORM

module _ (laws : InstructionLaws) (framed : Bool) (a exit : Known) (pc : ℕ) (small : pc < 65536) (form : IsKnown framed a) (exit_form : IsKnown true exit) where
  one_form : (byte : Byte) → IsByte true byte → IsByte framed (resumed_byte (place_byte framed a pc) byte)
  one_form byte is = byte_form laws.known framed (place_byte framed a pc) byte (relation_formed laws framed a pc small form byte.entry is.entry) is

  in_form : (sp : ℕ) → sp < 256 → IsKnown framed (resumed_known framed a pc sp exit)
  unfolding resumed_known
  in_form sp sp_small =
      let psw = status_form framed a.psw exit.psw form.bits exit_form.bits form.psw exit_form.psw in
      record {
        sp = (laws.known.sets.single 256 sp sp_small).0;
        a = one_form exit.a exit_form.a;
        b = one_form exit.b exit_form.b;
        dpl = one_form exit.dpl exit_form.dpl;
        dph = one_form exit.dph exit_form.dph;
        ie = own_form laws.known framed ie_place 64 (place_byte framed a pc) exit.ie (subst (IsOwnByte framed ie_place 64) (sym (at_enable framed a pc)) form.ie) exit_form.ie;
        ip = own_form laws.known framed ip_place 192 (place_byte framed a pc) exit.ip (subst (IsOwnByte framed ip_place 192) (sym (at_priority framed a pc)) form.ip) exit_form.ip;
        bits = psw.0;
        psw = psw.1;
        levels = exit_form.levels;
        linear_fact = linear_form exit a.linear_fact form.linear_fact;
        carry_fact = carry_form exit a.carry_fact form.carry_fact;
        from = cells_from laws framed a exit pc small form exit_form;
        up_to = cells_up_to laws framed a exit pc small form exit_form;
        cells = cells_are laws framed a exit pc small form exit_form;
        each_cell = each_chip_cell laws framed a exit pc small form exit_form;
        touched = touched_form laws.known.ranges 0 255 framed a.touched exit.touched form.touched exit_form.touched;
        none_touched = none_touched framed a.touched exit.touched;
      }

pub resumed_form : (laws : InstructionLaws) (framed : Bool) (a exit : Known) (pc sp : ℕ) → IsKnown framed a
    → IsKnown true exit → pc < 65536 → sp < 256
    → IsKnown framed (resumed_known framed a pc sp exit)
resumed_form laws framed a exit pc sp form exit_form small = in_form laws framed a exit pc small form exit_form sp

pub covers : (laws : InstructionLaws) (framed : Bool) (a exit : Known) (f t : ChipState) (first : Option ChipState) (vector sp level : ℕ)
    → IsUnder framed a f first → IsUnder true exit t (Some f)
    → GoesOn (Irq vector (Some sp) level) t (Some f) → IsUnder framed (resumed_known framed a f.pc sp exit) t first
covers laws framed a exit f t first vector sp level under left goes = record {
  base = under.base;
  form = in_form laws framed a exit f.pc under.holds.state.pc under.form left.form sp (subst (λ n. n < 256) goes.1 left.holds.state.sp);
  holds = record {
    state = left.holds.state;
    suspended = under.holds.suspended;
    parts = parts_stand laws framed a exit f t first under left sp goes.1;
  };
}
