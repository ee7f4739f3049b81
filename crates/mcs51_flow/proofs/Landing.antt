-- Where steps land.
use Rattle.std.proofs.Common.{◌≡◌, ℕ, ◌++◌, Bool, true, false, Option, None, Some, List, [], ◌∷◌, refl, sym, ap, ◌∙◌, subst, inl, inr, Contains}
use Rattle.std.proofs.lemmas.List.Elements.{Contains-append_left, Contains-append_right, Contains-append_cases}
use Rattle.std.specs.Prelude.{map}
use Rattle.call_context.specs.declared.node.Frame.{Frame}
use Rattle.call_context.specs.declared.node.Node.TheVariants.{At}
use Rattle.call_context.specs.declared.shown.Item.{Item}
use Rattle.call_context.specs.Showing.{AreShowing}
use Rattle.chip_numbers.specs.Single.{Single}
use Rattle.chip_numbers.specs.Single.Single.{Instr as RanOne, Edge as Went, Stack as Stood}
use Rattle.chip_law.specs.Laws.{IsEntry, Lands}
use Rattle.choosing.specs.Outcome.Outcome.{Next as Onward}
use Rattle.chip_flow.specs.Along.{HasWay, limited_is}
use Rattle.chip_flow.specs.Calls.{Site}
use Rattle.chip_flow.specs.Going.{ways_in}
use Rattle.flow_laws.specs.Landing.{Arrives, entry_lands as generic_entry_lands, others_alone, run_lands as generic_run_lands, step_singles}
use Rattle.flow_laws.specs.Landing.Arrives.{at_exit, beyond, on_way}
use Rattle.chip_flow.specs.Works.{site_of, work_at}
use Rattle.chip_flow.specs.declared.going.Onward.{Onward as GoesOnward}
use Rattle.chip_flow.specs.declared.going.Onward.TheVariants as onward
use Rattle.value_set.specs.Form.{Has}
use Rattle.mcs51_decode.specs.declared.instr.Instr.{Instr}
use Rattle.mcs51_decode.specs.Encoding.{bytes_of}
use Rattle.mcs51_decode.specs.Fitting.{IsInstr}
use Rattle.mcs51_decode.specs.Targets.{following}
use Rattle.mcs51_chip.specs.declared.place.Access.{Access}
use Rattle.mcs51_chip.specs.declared.state.ChipState.{ChipState}
use Rattle.mcs51_chip.specs.Interrupts.{is_high, serving, vector_of}
use Rattle.mcs51_chip.specs.Leading.{MayDo}
use Rattle.mcs51_chip.specs.Memory.{push_writes}
use Rattle.mcs51_chip.specs.Step.{Effect, Outcome, accessed, called, entered as chip_entered, going_to, stepped}
use Rattle.mcs51_state.specs.Holding.{Covers, HoldsOf, StandsIn}
use Rattle.mcs51_state.specs.Known.{Known, is_interrupt, known_joined}
use Rattle.mcs51_state.specs.Under.{IsUnder}
use Rattle.mcs51_state.specs.Showing.{AreShown}
use Rattle.mcs51_entry.specs.declared.coming.Coming.{Coming}
use Rattle.mcs51_entry.specs.Coming.{ComesSo}
use Rattle.mcs51_entry.specs.Entering.{entry_accesses, entry_edge}
use Rattle.mcs51_flow.specs.declared.ran.Way.{Way}
use Rattle.mcs51_flow.specs.declared.ran.Way.TheVariants as way
use Rattle.mcs51_flow.specs.Doing.{IsWay, IsWaySo, RunsSo}
use Rattle.mcs51_flow.specs.Running.{Ran}
use Rattle.plain_lemmas.specs.Members.{from_map, in_first, in_one}
use Rattle.mcs51_flow.specs.declared.setting.Setting.{Setting}
use Rattle.mcs51_flow.specs.Chip.{IsSetting, entry_items, in_front, kept_ran, mcs51_analysis, mcs51_flow}
use Rattle.mcs51_flow.specs.Going.{leaves_frame, onward_by}
use Rattle.mcs51_flow.specs.Machine.{mcs51_machine}
use Rattle.mcs51_flow.proofs.Arriving.{either_way}
use Rattle.mcs51_flow.specs.LawsBelow.{Laws}
use Rattle.mcs51_flow.proofs.Returning.{is_return, return_goes, return_lands}

accesses_shown : (some : List Item) (pc : ℕ) (accesses : List Access) (item : Single) → AreShown some pc accesses
    → Contains (map (accessed pc) accesses) item → AreShowing some item
accesses_shown some pc accesses item shown there =
    let (access, listed, same) = from_map (accessed pc) accesses item there in
    subst (AreShowing some) same (shown access listed)

parts_of : (items_so others : List Single) (t u : ChipState) → ◌≡◌ {A = Outcome} (Onward items_so t) (Onward others u)
    → (items_so ≡ others) × (t ≡ u)
parts_of items_so others t u e = (cc, cc)

-- WHERE AN INSTRUCTION LANDS

-- what a step of an instruction comes to at a location
pub record AtLocation (setting : Setting) (frame : Frame) (a : Known) (s : ChipState) (first : Option ChipState) (instr_so : Instr) (effect : Effect) : Type 0 where
  pub setting_so : IsSetting setting
  pub stands : IsUnder (is_interrupt frame) a s first
  pub in_frame : StandsIn frame first
  pub fits : IsInstr instr_so
  pub may : MayDo setting.image s instr_so effect
  pub runs : RunsSo (is_interrupt frame) first s.pc (kept_ran setting (is_interrupt frame) s.pc a instr_so) (going_to (following s.pc instr_so) s) effect

-- the accesses of an instruction are shown, whichever way it goes
way_shown : (framed : Bool) (first : Option ChipState) (items : List Item) (pc : ℕ) (made : Way Known) (s : ChipState) (effect : Effect)
    → IsWaySo framed first items pc made s effect
    → AreShown items pc effect.0
way_shown framed first items pc (way.Lands targets behind) s effect so = so.shown
way_shown framed first items pc (way.Goes target on jumped) s effect so = so.shown

module _ (laws : Laws) (setting : Setting) (calls : List ℕ) (frame : Frame) (a : Known) (s : ChipState) (first : Option ChipState) (instr_so : Instr) (effect : Effect)
    (at : AtLocation setting frame a s first instr_so effect) where
  abbrev ran_so : Ran
  ran_so = kept_ran setting (is_interrupt frame) s.pc a instr_so

  abbrev ArrivesAt : GoesOnward Known → Type 0
  ArrivesAt made =
      Arrives (mcs51_machine setting.image) (mcs51_analysis setting) Covers known_joined (mcs51_flow setting) (site_of (mcs51_flow setting) s.pc calls frame instr_so) made first effect.1

  on_ways : (made : GoesOnward Known) → HasWay (λ b. HoldsOf b effect.1 first) (ways_in known_joined made) effect.1.pc → ArrivesAt made
  unfolding mcs51_machine
  on_ways made found = on_way found.way found.listed found.goes (found.goes, found.holds, at.in_frame)

  arrives_by : (back : Bool) → leaves_frame frame a instr_so ≡ back → (made : Way Known) → ran_so.way ≡ made
      → IsWay (is_interrupt frame) made
      → IsWaySo (is_interrupt frame) first ran_so.items s.pc made (going_to (following s.pc instr_so) s) effect
      → ArrivesAt (onward_by made back setting.limits.targets (following s.pc instr_so))
  arrives_by true is (way.Lands targets b) ran form so =
      at_exit b refl (return_goes laws setting.image frame a s first instr_so effect (is_return instr_so frame a is) at.stands at.in_frame is at.may, so.under.holds, at.in_frame)
  arrives_by true is (way.Goes target on jumped) ran form so = absurd (return_lands setting.image frame s.pc (in_front setting a s.pc instr_so) instr_so target on jumped (is_return instr_so frame a is) ran)
  arrives_by false is (way.Lands targets b) ran form so =
      let to = effect.1.pc in
      limited_is setting.limits.targets targets (onward.Lands targets b) ArrivesAt (beyond targets refl)
      (on_ways (onward.Lands targets b) (record { way = (to, b); listed = laws.ways.to targets b to so.target; goes = refl; holds = so.under.holds }))
  arrives_by false is (way.Goes target on jumped) ran form so =
      let next = following s.pc instr_so in
      on_ways (onward.Jumps next target on jumped) (either_way laws (is_interrupt frame) first target on jumped (going_to next s) effect.1 form.1 form.2 so.goes)

  pub run_lands : (items_so : List Single) (t : ChipState)
      → (work_at known_joined (mcs51_flow setting) s.pc calls frame a (Some instr_so)).opens ≡ []
      → ◌≡◌ {A = Outcome} (Onward items_so t) (stepped s (RanOne s.pc (bytes_of instr_so) ∷ []) effect)
      → Lands (mcs51_machine setting.image) (mcs51_analysis setting) Covers (At s.pc calls frame) (work_at known_joined (mcs51_flow setting) s.pc calls frame a (Some instr_so)) s first items_so t
  unfolding mcs51_machine
  run_lands items_so t none is =
      let framed = is_interrupt frame in
      let flow = mcs51_flow setting in
      let accesses = map (accessed s.pc) effect.0 in
      let same = parts_of items_so (step_singles s.pc s.sp (bytes_of instr_so) accesses effect.1.pc) t effect.1 is in
      let b = in_front setting a s.pc instr_so in
      let formed = laws.fronts.form setting.image setting.promises framed a s.pc instr_so at.stands.form in
      let form = laws.instructions.form framed b setting.image s.pc instr_so formed at.fits at.setting_so.program.bytes in
      let shown = way_shown framed first ran_so.items s.pc ran_so.way (going_to (following s.pc instr_so) s) effect at.runs in
      let work = work_at known_joined flow s.pc calls frame a (Some instr_so) in
      let LandsAt = Lands (mcs51_machine setting.image) (mcs51_analysis setting) Covers (At s.pc calls frame) work s first in
      subst (λ all. LandsAt all t) (sym same.0) (subst (LandsAt (step_singles s.pc s.sp (bytes_of instr_so) accesses effect.1.pc)) (sym same.1)
      (generic_run_lands (mcs51_machine setting.image) (mcs51_analysis setting) Covers known_joined flow laws.ways s.pc calls frame a instr_so (flow.followed frame a s.pc instr_so)
      s first s.sp accesses effect.1 at.stands.holds.parts.sp (λ single there. accesses_shown ran_so.items s.pc effect.0 single shown there)
      (arrives_by (leaves_frame frame a instr_so) refl ran_so.way refl form at.runs) none))

-- WHERE AN INTERRUPT LANDS

-- the state that the handler begins with, and what its entry shows beside SP
abbrev entered_state : ChipState → (source : ℕ) → ChipState
entered_state s source = serving (is_high s source) (called (vector_of source) s)

abbrev entry_singles : ChipState → (source : ℕ) → List Single
entry_singles s source = map (accessed s.pc) (push_writes s) ++ Went s.pc (vector_of source) ∷ []

serving_goes : (high : Bool) (s : ChipState) → (serving high s).pc ≡ s.pc
serving_goes true s = refl
serving_goes false s = refl

entered_is : (s : ChipState) (source : ℕ)
    → chip_entered s source ≡ Onward (Stood s.pc s.sp ∷ entry_singles s source) (entered_state s source)
unfolding chip_entered
entered_is s source = ap (λ to. let outcome : Outcome = Onward (Stood s.pc s.sp ∷ map (accessed s.pc) (push_writes s) ++ Went s.pc to ∷ []) (entered_state s source) in outcome)
    (serving_goes (is_high s source) (called (vector_of source) s))

entry_shown : (s : ChipState) (coming_so : Coming) → AreShown (entry_accesses s.pc coming_so) s.pc (push_writes s)
    → (item : Single) → Contains (entry_singles s coming_so.source) item → AreShowing (entry_items s.pc coming_so) item
entry_shown s coming_so shows item there =
    let edge = entry_edge s.pc coming_so in
    let pushes = entry_accesses s.pc coming_so in
    let last = Went s.pc (vector_of coming_so.source) in
    elim (Contains-append_cases (map (accessed s.pc) (push_writes s)) (last ∷ []) item there) [
      | inl access ↦ let (one, listed, seen) = accesses_shown pushes s.pc (push_writes s) item shows access in (one, Contains-append_left pushes (edge ∷ []) one listed, seen)
      | inr end ↦ subst (AreShowing (entry_items s.pc coming_so)) (in_one last item end)
          (edge, Contains-append_right pushes (edge ∷ []) edge (in_first edge []), (refl, refl))
    ]

-- two pushes and an edge
is_entry : (s : ChipState) (source : ℕ) → IsEntry (entry_singles s source)
is_entry s source = others_alone (entry_singles s source) refl

pub entry_lands : Laws
    → (setting : Setting) (calls : List ℕ) (frame : Frame) (a : Known) (s : ChipState) (first : Option ChipState) (found : Option Instr) (items_so : List Single) (t : ChipState)
    → IsUnder (is_interrupt frame) a s first → (coming_so : Coming) → ComesSo a s coming_so
    → ◌≡◌ {A = Outcome} (Onward items_so t) (chip_entered s coming_so.source)
    → Lands (mcs51_machine setting.image) (mcs51_analysis setting) Covers (At s.pc calls frame) (work_at known_joined (mcs51_flow setting) s.pc calls frame a found) s first items_so t
entry_lands laws setting calls frame a s first found items_so t under coming_so so is =
    let source = coming_so.source in
    let flow = mcs51_flow setting in
    let same = parts_of items_so (Stood s.pc s.sp ∷ entry_singles s source) t (entered_state s source) (is ∙ entered_is s source) in
    let LandsAt = Lands (mcs51_machine setting.image) (mcs51_analysis setting) Covers (At s.pc calls frame) (work_at known_joined flow s.pc calls frame a found) s first in
    subst (λ all. LandsAt all t) (sym same.0) (subst (LandsAt (Stood s.pc s.sp ∷ entry_singles s source)) (sym same.1)
    (generic_entry_lands (mcs51_machine setting.image) (mcs51_analysis setting) Covers known_joined flow s.pc calls frame a found s first coming_so s.sp (entry_singles s source) (entered_state s source)
    so.listed (λ e. cc) under.holds.parts.sp (laws.entries.covered (is_interrupt frame) a s first coming_so under so) (is_entry s source)
    (entry_shown s coming_so (laws.entries.shown (is_interrupt frame) a s first coming_so under so))))
