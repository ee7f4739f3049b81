-- The steps of states that stand under what is known, and the opens of works.
use Rattle.std.proofs.Common.{◌≡◌, ℕ, Bool, Option, None, Some, Result, Ok, Err, List, [], ◌∷◌, refl, sym, ap, ◌∙◌, subst, inl, inr, Contains}
use Rattle.call_context.specs.declared.node.Frame.{Frame}
use Rattle.call_context.specs.declared.node.Frame.TheVariants.{Base, Irq}
use Rattle.chip_analysis.specs.declared.cause.Cause.TheVariants.{Fetch}
use Rattle.chip_numbers.specs.Single.Single.{Instr as RanOne}
use Rattle.chip_law.specs.Laws.{IsTold}
use Rattle.chip_flow.specs.Opens.{BreaksLimits, fetch_open}
use Rattle.chip_flow.specs.Standing.{Fetching, by_answer, found_by, none_found, one_found}
use Rattle.chip_flow.specs.Standing.Fetching.{none_stands, stands}
use Rattle.chip_flow.specs.Works.{work_at}
use Rattle.choosing.specs.Outcome.Outcome.{Wild as Leaves}
use Rattle.image.specs.Kept.{IsReadUnder}
use Rattle.image.specs.declared.rule_set.Rules.TheVariants.{Mcs51}
use Rattle.mcs51_decode.specs.declared.instr.Instr.{Instr}
use Rattle.mcs51_decode.specs.declared.refusal.NoInstr.{NoInstr}
use Rattle.mcs51_decode.specs.Decoding.{decoded}
use Rattle.mcs51_decode.specs.Encoding.{bytes_of}
use Rattle.mcs51_decode.specs.Fitting.{IsInstr}
use Rattle.mcs51_decode.specs.Standing.{Decodes, Stands}
use Rattle.mcs51_decode.specs.Targets.{following}
use Rattle.mcs51_chip.specs.declared.state.ChipState.{ChipState}
use Rattle.mcs51_chip.specs.Leading.{MayDo, MayLead}
use Rattle.mcs51_chip.specs.Leading.MayLead.{Enters, Runs, NoneStands}
use Rattle.mcs51_chip.specs.Step.{Effect, Outcome, entered as chip_entered, going_to, step_of, stepped}
use Rattle.mcs51_state.specs.Holding.{StandsIn}
use Rattle.mcs51_state.specs.Known.{Known, is_interrupt, known_joined}
use Rattle.mcs51_state.specs.Under.{IsFramed, IsUnder}
use Rattle.mcs51_kept.specs.Keeping.{IsKept}
use Rattle.mcs51_entry.specs.declared.coming.Coming.{Coming}
use Rattle.mcs51_entry.specs.Coming.{ComesSo}
use Rattle.mcs51_flow.specs.Doing.{RunsSo}
use Rattle.mcs51_flow.specs.declared.setting.Setting.{Setting}
use Rattle.mcs51_flow.specs.Chip.{in_front, kept_ran, mcs51_analysis, mcs51_flow}
use Rattle.mcs51_flow.specs.Going.{leaves_frame}
use Rattle.mcs51_flow.specs.Machine.{leaving_of}
use Rattle.mcs51_flow.specs.Standing.{fetched}
use Rattle.mcs51_flow.proofs.InstrForms.{standing_is_instr}
use Rattle.plain_lemmas.specs.Cases.{same_Some}
use Rattle.plain_lemmas.specs.Members.{in_none}
use Rattle.mcs51_flow.proofs.Arriving.{open_leads}
use Rattle.mcs51_flow.specs.LawsBelow.{Laws}

-- WHAT STANDS AT AN ADDRESS

pub fetching_at : (image : List (Option ℕ)) (pc : ℕ) → Fetching (decoded image pc) (fetched image pc)
unfolding fetched
fetching_at image pc = by_answer (decoded image pc)

-- a program of the MCS-51
abbrev pub IsProgram : List (Option ℕ) → Type 0
IsProgram image = IsReadUnder Mcs51 image

decoded_fits : Laws → (image : List (Option ℕ)) → IsProgram image → (pc len : ℕ) (instr_so : Instr)
    → decoded image pc ≡ Ok (instr_so, len) → IsInstr instr_so
decoded_fits laws image program pc len instr_so is =
    standing_is_instr image pc instr_so len (subst (Decodes image pc) is (laws.decoding.answer image pc program.size program.bytes))

instr_of : Laws → (image : List (Option ℕ)) → IsProgram image → (pc : ℕ) (instr_so : Instr) (found : Option Instr)
    → found ≡ Some instr_so → Fetching (decoded image pc) found → IsInstr instr_so
instr_of laws image program pc instr_so found e (stands other len is same) = subst IsInstr (same_Some (sym same ∙ e)) (decoded_fits laws image program pc len other is)
instr_of laws image program pc instr_so found e (none_stands refusal is same) = absurd (let both = sym same ∙ e in cc)

-- what is found is an instruction of the table
pub instr_found : Laws → (image : List (Option ℕ)) → IsProgram image → (pc : ℕ) (instr_so : Instr)
    → fetched image pc ≡ Some instr_so → IsInstr instr_so
instr_found laws image program pc instr_so found = instr_of laws image program pc instr_so (fetched image pc) found (fetching_at image pc)

-- STEPS

-- a state is suspended exactly in an interrupt's frame
pub framed_by : (frame : Frame) (first : Option ChipState) → StandsIn frame first → IsFramed (is_interrupt frame) first
framed_by Base first stands_so = stands_so
framed_by (Irq vector sp level) None stands_so = absurd stands_so
framed_by (Irq vector sp level) (Some f) stands_so = tt

-- what a step comes to: the entry of an interrupt, an instruction, or none
pub data Comes (setting : Setting) (framed : Bool) (a : Known) (s : ChipState) (first : Option ChipState) (outcome : Outcome) : Type 0 where
  entered : (coming_so : Coming) → ComesSo a s coming_so → outcome ≡ chip_entered s coming_so.source → Comes setting framed a s first outcome
  ran : (instr_so : Instr) (effect : Effect) → fetched setting.image s.pc ≡ Some instr_so → IsInstr instr_so
      → MayDo setting.image s instr_so effect
      → RunsSo framed first s.pc (kept_ran setting framed s.pc a instr_so) (going_to (following s.pc instr_so) s) effect
      → outcome ≡ stepped s (RanOne s.pc (bytes_of instr_so) ∷ []) effect → Comes setting framed a s first outcome
  refused : (refusal : NoInstr) → fetched setting.image s.pc ≡ None → outcome ≡ Leaves refusal → Comes setting framed a s first outcome

leads : Laws → (setting : Setting) → IsProgram setting.image
    → (framed : Bool) (a : Known) (s : ChipState) (first : Option ChipState) (outcome : Outcome)
    → IsUnder framed a s first → IsKept setting.image setting.promises outcome → MayLead setting.image s outcome
    → Comes setting framed a s first outcome
leads laws setting program framed a s first outcome under kept (Enters source there is) =
    let (coming_so, same, so) = laws.entries.comes framed a s first source under there in
    entered coming_so so (is ∙ ap (chip_entered s) (sym same))
leads laws setting program framed a s first outcome under kept (Runs instr_so len effect standing (choices, rest, does) is) =
    let image = setting.image in
    let found : decoded image s.pc ≡ Ok (instr_so, len) = sym (laws.decoding.one image s.pc (Ok (instr_so, len)) program.size program.bytes standing) in
    let fits = standing_is_instr image s.pc instr_so len standing in
    let b = in_front setting a s.pc instr_so in
    let stands = laws.fronts.holds image setting.promises framed a s first instr_so effect under (choices, rest, does)
    (subst (IsKept image setting.promises) is kept) in
    ran instr_so effect (one_found (decoded image s.pc) instr_so len (fetched image s.pc) found (fetching_at image s.pc)) fits (choices, rest, does)
    ((laws.instructions.runs framed b s first image s.pc instr_so stands fits program.bytes).each choices rest effect does) is
leads laws setting program framed a s first outcome under kept (NoneStands refusal decodes is) =
    let image = setting.image in
    let none : decoded image s.pc ≡ Err refusal = sym (laws.decoding.one image s.pc (Err refusal) program.size program.bytes decodes) in
    refused refusal (none_found (decoded image s.pc) refusal (fetched image s.pc) none (fetching_at image s.pc)) is

pub comes : Laws → (setting : Setting) → IsProgram setting.image
    → (framed : Bool) (a : Known) (s : ChipState) (first : Option ChipState) (outcome : Outcome)
    → IsUnder framed a s first → IsKept setting.image setting.promises outcome
    → (choices left : List ℕ) → step_of setting.image s choices ≡ Some (outcome, left)
    → Comes setting framed a s first outcome
comes laws setting program framed a s first outcome under kept choices left step =
    leads laws setting program framed a s first outcome under kept ((laws.steps.lead setting.image s program.size program.bytes).each choices left outcome step)

-- OUT OF THE MODEL

-- an interrupt that is entered leads on
entered_onward : (s : ChipState) (source : ℕ) (refusal : NoInstr) → ◌≡◌ {A = Outcome} (Leaves refusal) (chip_entered s source) → ⊥
unfolding chip_entered
entered_onward s source refusal is = absurd (cc)

pub told : (setting : Setting) (calls : List ℕ) (frame : Frame) (a : Known) (s : ChipState) (first : Option ChipState) (refusal : NoInstr)
    → Comes setting (is_interrupt frame) a s first (Leaves refusal)
    → IsTold (work_at known_joined (mcs51_flow setting) s.pc calls frame a (fetched setting.image s.pc)) (leaving_of refusal)
told setting calls frame a s first refusal (entered coming_so so is) = absurd (entered_onward s coming_so.source refusal is)
told setting calls frame a s first refusal (ran instr_so effect found fits may so is) = absurd (cc)
told setting calls frame a s first refusal (refused other found is) =
    subst (λ r. IsTold (work_at known_joined (mcs51_flow setting) s.pc calls frame a r) (leaving_of refusal)) (sym found)
    ((s.pc, Fetch), fetch_open known_joined (mcs51_flow setting) s.pc calls frame a, tt)

-- OPENS BREAK THEIR LIMITS

standing_of : Laws → (image : List (Option ℕ)) → IsProgram image → (pc : ℕ) (instr_so : Instr) (found : Option Instr)
    → found ≡ Some instr_so → Fetching (decoded image pc) found
    → (len : ℕ) × Stands image pc instr_so len
standing_of laws image program pc instr_so found e (stands other len is same) =
    (len, subst (Decodes image pc) (is ∙ ap (λ (i : Instr). let answer : Result (Instr × ℕ) NoInstr = Ok (i, len) in answer) (same_Some (sym same ∙ e))) (laws.decoding.answer image pc program.size program.bytes))
standing_of laws image program pc instr_so found e (none_stands refusal is same) = absurd (let both = sym same ∙ e in cc)

pub location_breaks : Laws → (setting : Setting) → IsProgram setting.image → (pc : ℕ) (calls : List ℕ) (frame : Frame) (a : Known)
    → BreaksLimits (mcs51_analysis setting) known_joined (mcs51_flow setting) pc calls frame a
unfolding mcs51_analysis
location_breaks laws setting program pc calls frame a =
    let image = setting.image in
    record {
      entry = λ coming open_so listed none. absurd (in_none open_so none);
      fetch = λ none instr_so len standing.
          let is : decoded image pc ≡ Ok (instr_so, len) = sym (laws.decoding.one image pc (Ok (instr_so, len)) program.size program.bytes standing) in
          let found = one_found (decoded image pc) instr_so len (fetched image pc) is (fetching_at image pc) in
          absurd (let both = sym none ∙ found in cc);
      targets = λ instr_so values found is.
          let (len, standing) = standing_of laws image program pc instr_so (fetched image pc) found (fetching_at image pc) in
          let (leads, many) = open_leads (kept_ran setting (is_interrupt frame) pc a instr_so).way (leaves_frame frame a instr_so) setting.limits.targets (following pc instr_so) values is in
          record { instr = instr_so; len = len; standing = standing; next = leads; many = many };
      store = λ instr_so cause found is. absurd (cc);
    }
