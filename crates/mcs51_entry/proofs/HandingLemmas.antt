-- What the handler is handed holds of the state that is suspended, over that state itself.
use Rattle.std.proofs.Common.{◌≡◌, ℕ, ◌<◌, Bool, true, Option, Some, List, get_or, refl, ap, ◌∙◌, subst, arith, All}
use Rattle.std.specs.Prelude.{bit_and, slice_index}
use Rattle.std.specs.Option.{option_map}
use Rattle.std.proofs.lemmas.List.Elements.{All-contains, Contains-get_or}
use Rattle.irq_frames.specs.Unrelated.{plain_cell, unrelated}
use Rattle.entry_value.specs.declared.cells.Cell.{Cell}
use Rattle.entry_value.specs.Cells.{kept}
use Rattle.value_set.specs.declared.form.Form.{Form}
use Rattle.value_set.specs.Form.{Has, IsNormal}
use Rattle.mcs51_chip.specs.declared.state.ChipState.{ChipState}
use Rattle.mcs51_state.specs.Forms.{IsByte, IsChipCell, IsKnown}
use Rattle.mcs51_state.specs.Holding.{HoldsOf}
use Rattle.mcs51_state.specs.Known.{Known}
use Rattle.mcs51_state.specs.Places.{ie_place, ip_place, psw_place, is_place, suspended_of}
use Rattle.mcs51_state.specs.Under.{IsUnder}
use Rattle.mcs51_entry.specs.Entering.{handed, related}
use Rattle.mcs51_results.specs.InstructionLaws.{InstructionLaws}
use Rattle.mcs51_entry.proofs.Relations.{from_itself, ie_same, ip_same}

-- FORM

related_form : (place : ℕ) (set : Form) → is_place place ≡ true → IsNormal 256 set → IsByte true (related place set)
related_form place set is normal = record { normal = normal; entry = (is, omega arith, omega arith) }

each_plain : (laws : InstructionLaws) (framed : Bool) (cells : List Cell) → All (IsChipCell framed) cells
    → All (IsChipCell true) (kept unrelated cells)
each_plain laws framed cells forms k d inside =
    let cell = get_or (kept unrelated cells) k d in
    let (held, among, is) = laws.known.frames.plain_each cells cell (Contains-get_or (kept unrelated cells) k d inside) in
    let one : IsChipCell true (plain_cell held) = record { size = (All-contains (IsChipCell framed) cells held forms among).size; entry = tt } in
    subst (IsChipCell true) is one

pub handed_form : (laws : InstructionLaws) (framed : Bool) (sp : Form) (a : Known) → IsNormal 256 sp → IsKnown framed a
    → IsKnown true (handed sp a)
unfolding handed
handed_form laws framed sp a normal form = record {
  sp = normal;
  a = related_form 0x1E0 a.a.set refl form.a.normal;
  b = related_form 0x1F0 a.b.set refl form.b.normal;
  dpl = related_form 0x182 a.dpl.set refl form.dpl.normal;
  dph = related_form 0x183 a.dph.set refl form.dph.normal;
  ie = record { normal = form.ie.normal; entry = (refl, omega arith, refl, omega arith, refl) };
  ip = record { normal = form.ip.normal; entry = (refl, omega arith, refl, omega arith, refl) };
  bits = form.bits;
  psw = (refl, omega arith, refl, omega arith, refl);
  levels = form.levels;
  linear_fact = form.linear_fact;
  carry_fact = form.carry_fact;
  from = form.from;
  up_to = form.up_to;
  cells = laws.known.frames.plain_form 0 255 0 a.cells.cells form.cells;
  each_cell = each_plain laws framed a.cells.cells form.each_cell;
  touched = tt;
  none_touched = λ e. refl;
}

-- WHAT IT HOLDS OF

handed_holds : (laws : InstructionLaws) (framed : Bool) (sp : Form) (a : Known) (s : ChipState) (first : Option ChipState)
    → Has 256 sp s.sp → IsUnder framed a s first → HoldsOf (handed sp a) s (Some s)
unfolding handed
handed_holds laws framed sp a s first has under =
    let parts = under.holds.parts in
    let state = under.holds.state in
    record {
      state = state;
      suspended = state;
      parts = record {
        sp = has;
        a = (parts.a.0, from_itself s 0x1E0 s.a state.a refl);
        b = (parts.b.0, from_itself s 0x1F0 s.b state.b refl);
        dpl = (parts.dpl.0, from_itself s 0x182 s.dpl state.dpl refl);
        dph = (parts.dph.0, from_itself s 0x183 s.dph state.dph refl);
        ie = λ x (free, small, is).
            let below = state.ie in
            let held = state.ie_held in
            let top : x < 256 = omega (arith, is, small, below, held) in
            ((parts.ie x (free, small, is)).0, from_itself s ie_place x top (ap (λ n. bit_and n 65471) is ∙ ie_same s.ie free below held small));
        ip = λ x (free, small, is).
            let below = state.ip in
            let top : x < 256 = omega (arith, is, small, below) in
            ((parts.ip x (free, small, is)).0, from_itself s ip_place x top (ap (λ n. bit_and n 65343) is ∙ ip_same s.ip free below small));
        psw = record { bits = parts.psw.bits; entry = from_itself s psw_place s.psw state.psw refl };
        levels = parts.levels;
        linear_fact = parts.linear_fact;
        carry_fact = parts.carry_fact;
        cells = laws.known.frames.plain_stands (option_map suspended_of first) (Some (suspended_of s)) (slice_index s.ram) a.cells.cells parts.cells;
        untouched = λ at none. refl;
      };
    }

pub handed_under : (laws : InstructionLaws) (framed : Bool) (sp : Form) (a : Known) (s : ChipState) (first : Option ChipState)
    → IsNormal 256 sp → Has 256 sp s.sp → IsUnder framed a s first → IsUnder true (handed sp a) s (Some s)
handed_under laws framed sp a s first normal has under = record {
  base = tt;
  form = handed_form laws framed sp a normal under.form;
  holds = handed_holds laws framed sp a s first has under;
}
