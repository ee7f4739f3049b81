-- What an analysis makes of a program of the MCS-51, in sets.
use Rattle.std.specs.Prelude.{◌≡◌, ◌≤◌, ℕ, Bool, None, List, [], ◌∷◌, ◌++◌}
use Rattle.call_context.specs.declared.node.Frame.{Frame}
use Rattle.call_context.specs.declared.node.Frame.TheVariants.{Base}
use Rattle.call_context.specs.declared.node.Node.TheVariants.{At}
use Rattle.call_context.specs.declared.shown.Item.{Item}
use Rattle.call_context.specs.declared.shown.Set.TheVariants.{B}
use Rattle.call_context.specs.Nodes.{frame_of}
use Rattle.chip_analysis.specs.Analysis.{Analysis}
use Rattle.chip_flow.specs.declared.going.Followed.{Followed}
use Rattle.chip_flow.specs.Causes.{BreaksLimit, Causes}
use Rattle.chip_flow.specs.Flow.{Flow}
use Rattle.chip_flow.specs.Works.{work_of}
use Rattle.image.specs.Kept.{IsReadUnder}
use Rattle.image.specs.declared.rule_set.Rules.TheVariants.{Mcs51}
use Rattle.value_set.specs.declared.form.Form.{Form}
use Rattle.mcs51_decode.specs.declared.instr.Instr.{Instr}
use Rattle.mcs51_decode.specs.Encoding.{bytes_of}
use Rattle.mcs51_decode.specs.Standing.{Stands}
use Rattle.mcs51_decode.specs.Targets.{following}
use Rattle.mcs51_chip.specs.Interrupts.{vector_of}
use Rattle.mcs51_state.specs.Forms.{HasChipForm}
use Rattle.mcs51_state.specs.Known.{Known, first_known, is_interrupt, known_joined, known_widened, known_within, top_known}
use Rattle.mcs51_entry.specs.declared.coming.Coming.{Coming}
use Rattle.mcs51_entry.specs.Coming.{comings_of, frame_of_coming}
use Rattle.mcs51_entry.specs.Entering.{entered_known, entry_accesses, entry_edge}
use Rattle.mcs51_resume.specs.Resume.{resumed_known}
use Rattle.mcs51_kept.specs.Front.{front}
use Rattle.mcs51_flow.specs.declared.ran.Way.{Way}
use Rattle.mcs51_flow.specs.declared.ran.Way.TheVariants.{Lands, Goes}
use Rattle.mcs51_flow.specs.Running.{Ran, ran_of}
use Rattle.mcs51_flow.specs.declared.setting.Setting.{Setting}
use Rattle.mcs51_flow.specs.Going.{leaves_frame, onward_by}
use Rattle.mcs51_flow.specs.Labels.{effect_on_calls}
use Rattle.mcs51_flow.specs.Marks.{stops}
use Rattle.mcs51_flow.specs.Standing.{fetched}

-- WHAT IS MADE OF WHAT IS KNOWN

-- what is known in front of an instruction whose step keeps what is promised
abbrev pub in_front : Setting → Known → (pc : ℕ) → Instr → Known
in_front setting a pc instr = front setting.image setting.promises a pc instr

-- what the instruction makes of that
abbrev pub kept_ran : Setting → (framed : Bool) → (pc : ℕ) → Known → Instr → Ran
kept_ran setting framed pc a instr = ran_of setting.image framed pc (in_front setting a pc instr) instr

-- an instruction of the chip stores nothing into the program
abbrev pub followed_by : Setting → Frame → Known → (pc : ℕ) → Instr → Ran → Followed Known
followed_by setting frame a pc instr ran = record {
  accesses = ran.items;
  onward = onward_by ran.way (leaves_frame frame a instr) setting.limits.targets (following pc instr);
  store = None;
}

-- the pushes of PC, and the edge to the handler
abbrev pub entry_items : (pc : ℕ) → Coming → List Item
entry_items pc coming = entry_accesses pc coming ++ entry_edge pc coming ∷ []

abbrev pub mcs51_flow : Setting → Flow Known Instr Coming
mcs51_flow setting = record {
  limit = setting.limits.calls;
  stack = λ a. B a.sp;
  fetched = fetched setting.image;
  bytes = bytes_of;
  effect = effect_on_calls;
  followed = λ frame a pc instr. followed_by setting frame a pc instr (kept_ran setting (is_interrupt frame) pc a instr);
  comings = comings_of;
  entry_items = entry_items;
  entry_opens = λ pc coming. [];
  handler = λ coming. vector_of coming.source;
  frame_of = frame_of_coming;
  entered = entered_known;
  resumed = λ frame. resumed_known (is_interrupt frame);
}

-- PROGRAMS

-- a program that was read under the rules of the chip, with call strings of at most eight sites
pub record IsSetting (setting : Setting) : Type 0 where
  pub program : IsReadUnder Mcs51 setting.image
  pub calls : setting.limits.calls ≤ 8

-- LIMITS

-- the set is where a way leads that isn't a jump with two ways
abbrev pub LeadsTo : Way Known → Form → Type 0
LeadsTo (Lands targets a) values = targets ≡ values
LeadsTo (Goes target on jumped) values = ⊥

-- what the causes of opens say: a program can't be written
abbrev pub mcs51_causes : Setting → Causes Known Instr
mcs51_causes setting = record {
  Stands = Stands setting.image;
  GoesTo = λ frame a pc instr values. LeadsTo (kept_ran setting (is_interrupt frame) pc a instr).way values;
  targets = setting.limits.targets;
  Hits = λ frame a pc values. ⊥;
}

-- THE ANALYSIS

unfoldable pub mcs51_analysis : Setting → Analysis Known
mcs51_analysis setting = record {
  first_node = At 0 [] Base;
  first_state = first_known;
  work = work_of known_joined (mcs51_flow setting);
  within = known_within;
  join = known_joined;
  widen = λ coarse. known_widened (stops coarse setting.image);
  top = λ node. top_known (is_interrupt (frame_of node));
  HasForm = HasChipForm;
  Breaks = BreaksLimit (mcs51_causes setting);
}

-- two programs under the same limits
pub record AreAlike (a b : Setting) : Type 0 where
  pub limits : a.limits ≡ b.limits
