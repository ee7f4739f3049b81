-- What the entry of an interrupt makes of what is known of a state (SLAU049, chapter 2, "Interrupt Processing").
use Rattle.std.specs.Prelude.{ℕ, ◌+◌, ◌%◌, ◌||◌, if◌then◌else◌, Bool, true, false, None, Some, List, [], ◌∷◌, Contains, map}
use Prim.Native.Nat.{suc}
use Rattle.std.specs.List.{filter, flat_map, range_with_len, slice_index_or}
use Rattle.chip_numbers.specs.Single.{Single}
use Rattle.chip_numbers.specs.Single.Single.{Access, Edge}
use Rattle.call_context.specs.declared.node.Frame.{Frame}
use Rattle.call_context.specs.declared.node.Frame.TheVariants.{Irq}
use Rattle.call_context.specs.declared.shown.Item.{Item}
use Rattle.call_context.specs.declared.shown.Item.TheVariants as items
use Rattle.call_context.specs.declared.shown.Set.TheVariants.{W}
use Rattle.chip_numbers.specs.declared.space.Space.TheVariants.{Mem}
use Rattle.entry_value.specs.declared.word.Entry.{Entry}
use Rattle.entry_value.specs.declared.word.Word.{Word}
use Rattle.irq_frames.specs.Unrelated.{without_relations}
use Rattle.value_set.specs.declared.form.Form.{Form}
use Rattle.value_set.specs.declared.form.Form.TheVariants.{Values, Run}
use Rattle.value_set.specs.Form.{Has}
use Rattle.value_set.specs.Summing.{add, single}
use Rattle.value_bits.specs.declared.tri.Tri.{Tri}
use Rattle.value_bits.specs.declared.tri.Tri.TheVariants.{Zero, One, Either}
use Rattle.msp430_decode.specs.declared.instr.Width.TheVariants.{Word as Words}
use Rattle.msp430_chip.specs.declared.device.Device.{Device}
use Rattle.msp430_chip.specs.declared.state.ChipState.{ChipState}
use Rattle.msp430_chip.specs.Interrupts.{handler_of, may_come}
use Rattle.msp430_chip.specs.Memory.{aligned}
use Rattle.msp430_chip.specs.State.{register_of}
use Rattle.msp430_state.specs.declared.status.Status.{Status}
use Rattle.msp430_state.specs.Holding.{CameAt}
use Rattle.msp430_state.specs.Known.{Known}
use Rattle.msp430_alu.specs.Memory.{located, with_store}
use Rattle.msp430_alu.specs.Registers.{status_set}
use Rattle.msp430_entry.specs.declared.coming.Coming.{Coming}

-- WHICH INTERRUPTS MAY COME, AND WHERE SP IS THEN

abbrev pub may_be_set : Tri → Bool
may_be_set Zero = false
may_be_set One = true
may_be_set Either = true

-- where GIE, bit 3 of SR, may be set, or may have been before the last instruction
abbrev pub may_interrupt : Known → Bool
may_interrupt a = may_be_set (slice_index_or a.status.bits 3 Either) || may_be_set a.late

-- those that have a handler, ascending
abbrev pub vectors_of : Device → List ℕ
vectors_of device = filter (λ vector. may_come device vector) (range_with_len 0 14)

-- an interrupt comes at each value of a list of stack pointers by itself, and at those of a run in one
abbrev pub comings_at : (sp : Form) → (vector : ℕ) → List Coming
comings_at (Values sps) vector = map (λ sp. record { vector = vector; known_sp = Some sp; sp = single sp }) sps
comings_at (Run p) vector = record { vector = vector; known_sp = None; sp = Run p } ∷ []

unfoldable pub comings_of : Device → Known → List Coming
comings_of device a = if may_interrupt a then flat_map (comings_at a.sp) (vectors_of device) else []

-- the frame of its handler
abbrev pub frame_of_coming : Coming → Frame
frame_of_coming coming = Irq coming.vector coming.known_sp 0

-- an interrupt that is listed comes in a single state
pub record ComesSo (device : Device) (a : Known) (s : ChipState) (coming : Coming) : Type 0 where
  pub listed : Contains (comings_of device a) coming
  pub at : Has 65536 coming.sp (register_of s 1)
  pub came : CameAt coming.known_sp s

-- WHAT THE HANDLER KNOWS

-- the relation of a place to itself when the interrupt came
abbrev pub itself : (place : ℕ) → Entry
itself place = record { place = place; and = 65535; or = 0 }

-- registers from a number on, each related to itself
abbrev pub all_related : (register : ℕ) → List Word → List Word
all_related register [] = []
all_related register (word ∷ words) = record { set = word.set; entry = Some (itself register) } ∷ all_related (suc register) words

-- what is known of the state that is suspended, told of itself
abbrev pub handed : Known → Known
handed a = record {
  sp = a.sp;
  status = record { bits = a.status.bits; entry = Some (itself 2) };
  late = Zero;
  registers = all_related 4 a.registers;
  fact = None;
  cells = without_relations a.cells;
  touched = [];
}

-- SP behind the push of PC is SP - 2, and behind that of SR SP - 4
abbrev pub counted_sp : (sp : Form) → Form
counted_sp sp = add 65536 sp (single 65534)

abbrev pub entered_sp : (sp : Form) → Form
entered_sp sp = add 65536 sp (single 65532)

-- where PC is stored, and where SR is
abbrev pub counter_slot : Device → (sp : Form) → Form
counter_slot device sp = located device Words (counted_sp sp)

abbrev pub status_slot : Device → (sp : Form) → Form
status_slot device sp = located device Words (entered_sp sp)

-- SR but SCG0, bit 6, is cleared; SR's relation has the bits in its AND mask that SR doesn't hold
abbrev pub status_entered : Status → Status
status_entered status = record {
  bits = Zero ∷ Zero ∷ Zero ∷ Zero ∷ Zero ∷ Zero ∷ slice_index_or status.bits 6 Either ∷ Zero ∷ Zero ∷ [];
  entry = Some (record { place = 2; and = 65088; or = 0 });
}

-- behind both stores, where SP is one of a set
unfoldable pub entered_known : Device → Known → (pc : ℕ) → (sp : Form) → Known
entered_known device a pc sp =
    let counted = with_store device true (handed a) Words (counter_slot device sp) (record { set = single pc; entry = Some (itself 0) }) in
    let stored = with_store device true counted Words (status_slot device sp) (record { set = status_set a.status; entry = Some (itself 2) }) in
    record {
      sp = entered_sp sp;
      status = status_entered a.status;
      late = Zero;
      registers = stored.registers;
      fact = None;
      cells = stored.cells;
      touched = stored.touched;
    }

-- WHAT IT SHOWS

abbrev pub entry_items : Device → (pc : ℕ) → Coming → List Item
entry_items device pc coming =
    items.Access pc Mem true 2 (W (counter_slot device coming.sp))
    ∷ items.Access pc Mem true 2 (W (status_slot device coming.sp))
    ∷ items.Edge pc (handler_of device coming.vector) ∷ []

-- what an entry in a single state shows, but for its stack pointer
abbrev pub entry_shows : Device → ChipState → (vector : ℕ) → List Single
entry_shows device s vector =
    Access (register_of s 0) Mem true 2 (aligned device Words ((register_of s 1 + 65534) % 65536))
    ∷ Access (register_of s 0) Mem true 2 (aligned device Words ((register_of s 1 + 65532) % 65536))
    ∷ Edge (register_of s 0) (handler_of device vector) ∷ []
