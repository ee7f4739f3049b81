-- What is known where an interrupt's handler begins (Intel, MCS-51 Microcontroller Family User's Manual, "How Interrupts Are
-- Handled"): the address where the program goes on is pushed, and the level is in service.
use Rattle.std.specs.Prelude.{ℕ, ◌==◌, if◌then◌else◌, ◌/◌, ◌%◌, true, false, Some, List, [], ◌∷◌}
use Rattle.call_context.specs.declared.shown.Item.{Item}
use Rattle.call_context.specs.declared.shown.Item.TheVariants.{Edge}
use Rattle.irq_frames.specs.Unrelated.{without_relations}
use Rattle.entry_value.specs.declared.byte.Byte.{Byte}
use Rattle.entry_value.specs.declared.word.Entry.{Entry}
use Rattle.value_set.specs.declared.form.Form.{Form}
use Rattle.value_set.specs.Summing.{single}
use Rattle.mcs51_chip.specs.Interrupts.{vector_of}
use Rattle.mcs51_state.specs.declared.addresses.Addresses.TheVariants.{InRam}
use Rattle.mcs51_state.specs.declared.levels.Levels.{Levels}
use Rattle.mcs51_state.specs.Known.{Known}
use Rattle.mcs51_state.specs.Places.{ie_place, ip_place, psw_place}
use Rattle.mcs51_state.specs.Showing.{access_of}
use Rattle.mcs51_state.specs.Stack.{pair_pushed, raised}
use Rattle.mcs51_entry.specs.declared.coming.Coming.{Coming}

-- the relation of a place to itself when the interrupt came
abbrev pub itself : (place : ℕ) → Entry
itself place = record { place = place; and = 255; or = 0 }

abbrev pub related : (place : ℕ) → Form → Byte
related place set = record { set = set; entry = Some (itself place) }

-- The state that is suspended, told of itself, where SP is one of a set. A fact stays, as nothing is written yet.
unfoldable pub handed : (sp : Form) → Known → Known
handed sp a = record {
  sp = sp;
  a = related 0x1E0 a.a.set;
  b = related 0x1F0 a.b.set;
  dpl = related 0x182 a.dpl.set;
  dph = related 0x183 a.dph.set;
  ie = related ie_place a.ie.set;
  ip = related ip_place a.ip.set;
  psw = record { bits = a.psw.bits; entry = Some (itself psw_place) };
  levels = a.levels;
  linear_fact = a.linear_fact;
  carry_fact = a.carry_fact;
  cells = without_relations a.cells;
  touched = [];
}

-- which levels are in service in the handler
abbrev pub levels_at : (level : ℕ) → Levels
levels_at level =
    if level == 1 then record { none = false; low = true; high = false; both = false }
    else if level == 2 then record { none = false; low = false; high = true; both = false }
    else record { none = false; low = false; high = false; both = true }

-- the bytes of PC are pushed with their relations to it
abbrev pub counter_pushed : (pc : ℕ) → Known → Known
counter_pushed pc known = pair_pushed true (related 512 (single (pc % 256))) (related 513 (single (pc / 256))) known

unfoldable pub entered_known : Known → (pc : ℕ) → Coming → Known
entered_known a pc coming_so = record (counter_pushed pc (handed coming_so.sp a)) { levels = levels_at coming_so.level }

-- WHAT IT SHOWS

abbrev pub entry_accesses : (pc : ℕ) → Coming → List Item
entry_accesses pc coming_so =
    access_of pc true (InRam (raised coming_so.sp)) ∷ access_of pc true (InRam (raised (raised coming_so.sp))) ∷ []

abbrev pub entry_edge : (pc : ℕ) → Coming → Item
entry_edge pc coming_so = Edge pc (vector_of coming_so.source)
