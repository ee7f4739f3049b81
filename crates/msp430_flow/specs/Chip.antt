-- What an analysis makes of a program of the MSP430, in sets.
use Rattle.std.specs.Prelude.{◌≡◌, ◌<◌, ◌≤◌, ◌⊎◌, ℕ, if◌then◌else◌, Bool, true, Option, None, Some, List, [], ◌++◌, Contains}
use Rattle.call_context.specs.declared.node.Frame.{Frame}
use Rattle.call_context.specs.declared.node.Frame.TheVariants.{Base}
use Rattle.call_context.specs.declared.node.Node.TheVariants.{At}
use Rattle.call_context.specs.declared.shown.Set.TheVariants.{W}
use Rattle.call_context.specs.Nodes.{frame_of}
use Rattle.chip_analysis.specs.declared.cause.Cause.{Cause}
use Rattle.chip_analysis.specs.declared.cause.Cause.TheVariants.{Store}
use Rattle.chip_analysis.specs.Analysis.{Analysis}
use Rattle.chip_flow.specs.declared.going.Followed.{Followed}
use Rattle.chip_flow.specs.declared.going.Onward.{Onward}
use Rattle.chip_flow.specs.declared.going.Onward.TheVariants.{Leaves}
use Rattle.chip_flow.specs.Causes.{BreaksLimit, Causes}
use Rattle.chip_flow.specs.Flow.{Flow}
use Rattle.chip_flow.specs.Works.{store_opens, work_of}
use Rattle.image.specs.Kept.{IsRamRange, IsReadUnder}
use Rattle.image.specs.declared.rule_set.Rules.TheVariants.{Msp430}
use Rattle.value_set.specs.Form.{Has}
use Rattle.value_set.specs.declared.form.Form.{Form}
use Rattle.msp430_decode.specs.declared.instr.Instr.{Instr}
use Rattle.msp430_decode.specs.declared.instr.Width.{Width}
use Rattle.msp430_decode.specs.declared.instr.Width.TheVariants.{Word}
use Rattle.msp430_decode.specs.Standing.{Stands}
use Rattle.msp430_decode.specs.Table.{bytes_of}
use Rattle.msp430_chip.specs.declared.device.Device.{Device}
use Rattle.msp430_chip.specs.Interrupts.{handler_of, may_come}
use Rattle.msp430_chip.specs.Memory.{hit_at}
use Rattle.msp430_chip.specs.State.{reset_address}
use Rattle.msp430_state.specs.Forms.{HasChipForm}
use Rattle.msp430_state.specs.Known.{Known, first_known, is_interrupt, known_joined, known_widened, known_within, top_known}
use Rattle.msp430_alu.specs.Formats.{Worked}
use Rattle.msp430_entry.specs.declared.coming.Coming.{Coming}
use Rattle.msp430_entry.specs.Entry.{comings_of, counter_slot, entered_known, entry_items, frame_of_coming, status_slot}
use Rattle.msp430_resume.specs.Resume.{resumed_known}
use Rattle.msp430_kept.specs.Front.{front}
use Rattle.msp430_flow.specs.declared.setting.Setting.{Setting}
use Rattle.msp430_flow.specs.Standing.{fetched}
use Rattle.msp430_flow.specs.Labels.{effect_of}
use Rattle.msp430_flow.specs.Marks.{stops}
use Rattle.msp430_flow.specs.Running.{followed, gie_of, leaves_frame, may_hit, onward_by, stored_width, worked}

-- STORES INTO THE PROGRAM

-- a store that may write a byte of the program is left open; what follows takes the program as unchanged
abbrev pub open_store : Device → Width → Form → Option Cause
open_store device width set = if may_hit device width set then Some (Store set) else None

abbrev pub store_of : Device → Width → Option Form → Option Cause
store_of device width None = None
store_of device width (Some set) = open_store device width set

-- an interrupt that comes stores PC and SR as words
abbrev pub push_opens : Device → (pc : ℕ) → Coming → List (ℕ × Cause)
push_opens device pc coming =
    store_opens pc (open_store device Word (counter_slot device coming.sp)) ++ store_opens pc (open_store device Word (status_slot device coming.sp))

-- WHAT IS MADE OF WHAT IS KNOWN

-- what is known in front of an instruction whose step keeps what is promised
abbrev pub in_front : Setting → Known → ℕ → Instr → Known
in_front setting a pc instr = front setting.device setting.promises a pc instr

-- what the instruction makes of that
abbrev pub kept_worked : Setting → (framed : Bool) → Known → ℕ → Instr → Worked
kept_worked setting framed a pc instr = worked setting.device framed (in_front setting a pc instr) pc instr

-- a return from the frame's interrupt leaves its state at the exit
abbrev pub onward_of : Setting → Frame → Known → ℕ → Instr → Worked → Onward Known
onward_of setting frame a pc instr made =
    if leaves_frame setting.device frame a instr then Leaves (followed (gie_of a) None made.after)
    else onward_by setting.limits.targets (gie_of a) pc instr made.next made.after

abbrev pub followed_by : Setting → Frame → Known → ℕ → Instr → Worked → Followed Known
followed_by setting frame a pc instr made = record {
  accesses = made.accesses;
  onward = onward_of setting frame a pc instr made;
  store = store_of setting.device (stored_width instr) made.store;
}

abbrev pub msp430_flow : Setting → Flow Known Instr Coming
msp430_flow setting = record {
  limit = setting.limits.calls;
  stack = λ a. W a.sp;
  fetched = fetched setting.device.image;
  bytes = bytes_of;
  effect = effect_of;
  followed = λ frame a pc instr. followed_by setting frame (in_front setting a pc instr) pc instr (kept_worked setting (is_interrupt frame) a pc instr);
  comings = comings_of setting.device;
  entry_items = entry_items setting.device;
  entry_opens = push_opens setting.device;
  handler = λ coming. handler_of setting.device coming.vector;
  frame_of = frame_of_coming;
  entered = λ a pc coming. entered_known setting.device a pc coming.sp;
  resumed = λ frame. resumed_known (is_interrupt frame);
}

-- PROGRAMS

-- a device whose image was read under the rules of the chip with this RAM
pub record IsProgram (device : Device) : Type 0 where
  pub read : IsReadUnder (Msp430 device.ram) device.image
  pub ram : IsRamRange (Msp430 device.ram)
  pub top : device.ram.hi < 65536

-- with call strings of at most eight sites
pub record IsSetting (setting : Setting) : Type 0 where
  pub program : IsProgram setting.device
  pub calls : setting.limits.calls ≤ 8

-- LIMITS

-- at one of these addresses a store of this width would write a byte of the program
pub record CanHit (device : Device) (width : Width) (values : Form) : Type 0 where
  pub address : ℕ
  pub at : ℕ
  pub is_address : Has 65536 values address
  pub hits : hit_at device width address ≡ Some at

-- the instruction that stands at an address stores at these addresses, by what is known and promised there
pub record InstructionHits (setting : Setting) (pc : ℕ) (frame : Frame) (a : Known) (values : Form) : Type 0 where
  pub instr : Instr
  pub len : ℕ
  pub standing : Stands setting.device.image pc instr len
  pub stores : (kept_worked setting (is_interrupt frame) a pc instr).store ≡ Some values
  pub can : CanHit setting.device (stored_width instr) values

-- or an interrupt that has a handler may come there, by what is known, and PC or SR is pushed at these addresses
pub record InterruptHits (device : Device) (a : Known) (values : Form) : Type 0 where
  pub coming : Coming
  pub comes : Contains (comings_of device a) coming
  pub has_handler : may_come device coming.vector ≡ true
  pub pushed : (values ≡ counter_slot device coming.sp) ⊎ (values ≡ status_slot device coming.sp)
  pub can : CanHit device Word values

-- what the causes of opens say: a store is the instruction's, or an interrupt's
abbrev pub msp430_causes : Setting → Causes Known Instr
msp430_causes setting = record {
  Stands = Stands setting.device.image;
  GoesTo = λ frame a pc instr values. (kept_worked setting (is_interrupt frame) a pc instr).next ≡ values;
  targets = setting.limits.targets;
  Hits = λ frame a pc values. InstructionHits setting pc frame a values ⊎ InterruptHits setting.device a values;
}

-- THE ANALYSIS

unfoldable pub msp430_analysis : Setting → Analysis Known
msp430_analysis setting = record {
  first_node = At (reset_address setting.device) [] Base;
  first_state = first_known setting.device.ram.lo setting.device.ram.hi;
  work = work_of known_joined (msp430_flow setting);
  within = known_within;
  join = known_joined;
  widen = λ coarse. known_widened (stops coarse setting.device);
  top = λ node. top_known setting.device.ram.lo setting.device.ram.hi (is_interrupt (frame_of node));
  HasForm = HasChipForm setting.device.ram.lo setting.device.ram.hi;
  Breaks = BreaksLimit (msp430_causes setting);
}

-- two programs with the same RAM under the same limits
pub record AreAlike (a b : Setting) : Type 0 where
  pub ram : a.device.ram ≡ b.device.ram
  pub limits : a.limits ≡ b.limits
