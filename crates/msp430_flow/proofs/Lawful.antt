-- The laws of the MSP430 for an analysis.
use Rattle.std.proofs.Common.{◌≡◌, true, false, ℕ, ◌+◌, ◌%◌, ◌<◌, ◌≤◌, Option, None, Some, List, [], ◌∷◌, length, refl, sym, ap, ◌∙◌, subst, inl, inr, arith}
use Rattle.std.proofs.lemmas.List.{get_or_past}
use Rattle.std.proofs.lemmas.List.Elements.{All-get_or, All-nil}
use Rattle.call_context.specs.declared.node.Frame.{Frame}
use Rattle.call_context.specs.declared.node.Node.{Node}
use Rattle.call_context.specs.declared.node.Node.TheVariants.{At, Exit}
use Rattle.call_context.specs.declared.node.Unit.TheVariants.{One}
use Rattle.call_context.specs.Nodes.{frame_of, IsLocation, HasEntry}
use Rattle.chip_numbers.specs.Single.{Single}
use Rattle.chip_analysis.specs.Orderly.{IsOrderly}
use Rattle.chip_law.specs.Laws.{IsLawful, IsTold, Lands}
use Rattle.chip_law.specs.Outcome.{Leaving}
use Rattle.chip_law.specs.Outcome.Leaving.{entry_pushed, no_instruction, program_written}
use Rattle.chip_law.specs.Outcome.Outcome.{Next, Wild}
use Rattle.choosing.specs.Outcome.Outcome.{Next as Onward, Wild as Leaves}
use Rattle.std.proofs.lemmas.Bool.{cases_lt}
use Rattle.chip_flow.specs.Along.{IsOnward, ways_formed}
use Rattle.chip_flow.specs.Opens.{opens_break}
use Rattle.chip_flow.specs.Posts.{FormsAll, FormsPosts, posts_formed}
use Rattle.flow_laws.specs.KeptSteps.{kept_lands, kept_resumes}
use Rattle.flow_laws.specs.Returns.{ReturnsHold, return_resumes}
use Rattle.chip_flow.specs.Sites.{sites_by}
use Rattle.chip_flow.specs.Works.{site_of, work_at, work_of}
use Rattle.image.specs.Image.{byte_at, IsByte}
use Rattle.msp430_decode.specs.declared.instr.Instr.{Instr}
use Rattle.msp430_decode.specs.declared.instr.Instr.TheVariants as instr
use Rattle.msp430_chip.specs.declared.device.Device.{Device}
use Rattle.msp430_chip.specs.declared.state.ChipState.{ChipState}
use Rattle.msp430_chip.specs.declared.state.Wild.{Wild as WildCause}
use Rattle.msp430_chip.specs.declared.state.Wild.TheVariants.{NoInstr, Push, Store}
use Rattle.msp430_chip.specs.Interrupts.{first_hit}
use Rattle.msp430_chip.specs.Memory.{program_hit}
use Rattle.msp430_chip.specs.State.{even, register_of, reset_address, word_from, IsChipState}
use Rattle.msp430_decode.specs.declared.instr.Width.TheVariants.{Word}
use Rattle.msp430_state.specs.Forms.{HasChipForm, IsEvenWord, IsKnown}
use Rattle.msp430_state.specs.Holding.{Covers, HoldsOf, StandsIn}
use Rattle.msp430_state.specs.Known.{Known, is_interrupt, known_joined, known_widened, top_known}
use Rattle.msp430_alu.specs.Formats.{IsUnder}
use Rattle.msp430_resume.specs.Resume.{resumed_known}
use Rattle.msp430_kept.specs.Keeping.{IsKept}
use Rattle.msp430_kept.specs.Sites.{spoken}
use Rattle.promises.specs.Keeping.{keeps}
use Rattle.promises.specs.declared.promise.Promise.{Promise}
use Rattle.msp430_flow.specs.declared.setting.Setting.{Setting}
use Rattle.msp430_flow.specs.Standing.{fetched}
use Rattle.msp430_flow.specs.Chip.{AreAlike, IsProgram, IsSetting, in_front, kept_worked, msp430_analysis, msp430_flow, onward_of}
use Rattle.msp430_flow.specs.Machine.{StepsTo, leaves, leaving_of, machine_if, machine_under, msp430_machine}
use Rattle.msp430_flow.specs.Marks.{stops}
use Rattle.msp430_flow.specs.Running.{gie_of, leaves_frame}
use Rattle.msp430_flow.proofs.Landing.{AtLocation, IsAhead, entry_lands, exit_formed, joined_ahead, onward_formed, run_lands}
use Rattle.msp430_flow.specs.LawsBelow.{Laws}
use Rattle.msp430_flow.proofs.MarksLemmas.{stops_below}
use Rattle.msp430_flow.proofs.Stepping.{Comes, comes, device_of, in_base, instr_found, location_breaks, told}
use Rattle.msp430_flow.proofs.Ways.{leaves_back, onward_cases}
use Rattle.msp430_flow.proofs.Stepping.Comes.{entered, ran, refused}

-- NODES

known_of : (lo hi : ℕ) (node : Node) (a : Known) → HasChipForm lo hi node a → IsKnown lo hi (is_interrupt (frame_of node)) a
known_of lo hi node a form = form.1

form_with : (lo hi : ℕ) (node : Node) (a b : Known) → HasChipForm lo hi node a
    → IsKnown lo hi (is_interrupt (frame_of node)) b → HasChipForm lo hi node b
form_with lo hi node a b form known = (form.0, known)

exit_entered : (lo hi : ℕ) (exit : Node) (x : Known) → (IsLocation exit → ⊥) → HasChipForm lo hi exit x → HasEntry (frame_of exit)
exit_entered lo hi (At pc calls frame) x exits form = absurd (exits tt)
exit_entered lo hi (Exit pc frame) x exits form = form.0.2

-- THE START

is_byte : (device : Device) → IsProgram device → (at : ℕ) → IsByte (byte_at device.image at)
is_byte device program at = elim (cases_lt at (length device.image)) [
  | inl inside ↦ All-get_or IsByte device.image at None inside program.read.bytes
  | inr past ↦ subst IsByte (sym (get_or_past device.image at None past)) tt
]

even_start : (low high : Option ℕ) → IsByte low → IsByte high → IsEvenWord (even (word_from low high))
even_start None high l h = (omega arith, omega arith)
even_start (Some low) None l h = (omega arith, omega arith)
even_start (Some low) (Some high) l h = (omega arith, omega arith)

reset_even : (device : Device) → IsProgram device → IsEvenWord (reset_address device)
reset_even device program = even_start (byte_at device.image 65534) (byte_at device.image 65535)
    (is_byte device program 65534) (is_byte device program 65535)

-- STEPS

under : (device : Device) → IsProgram device
    → (pc : ℕ) (calls : List ℕ) (frame : Frame) (a : Known) (s : ChipState) (first : Option ChipState)
    → HasChipForm device.ram.lo device.ram.hi (At pc calls frame) a → Covers device (At pc calls frame) a s first
    → IsUnder device (is_interrupt frame) a s first
under device program pc calls frame a s first form covers = record {
  device_so = device_of device program;
  base = in_base device frame s first covers.2;
  form = form.1;
  holds = covers.1;
}

-- what leaves the model as a promise says
kept_so : (device : Device) (promises : List Promise) (s : ChipState) (cause : WildCause) → leaves device promises s (leaving_of cause) ≡ true
    → IsKept device promises s (Leaves cause)
kept_so device promises s (NoInstr refusal) is = tt
kept_so device promises s (Store at) is = is
kept_so device promises s (Push at) is = tt

wild_told : Laws → (setting : Setting) → IsSetting setting
    → (node : Node) (a : Known) (s : ChipState) (first : Option ChipState) (why : Leaving) → IsLocation node
    → HasChipForm setting.device.ram.lo setting.device.ram.hi node a → Covers setting.device node a s first
    → StepsTo setting.device s (Wild why) → leaves setting.device setting.promises s why ≡ true
    → IsTold (work_of known_joined (msp430_flow setting) (One node) a None) why
wild_told laws setting so (At pc calls frame) a s first why location form covers (choices, cause, left, step, is) is_kept =
    let device = setting.device in
    let stands = under device so.program pc calls frame a s first form covers in
    let work = λ (at : ℕ). work_at known_joined (msp430_flow setting) at calls frame a (fetched device.image at) in
    subst (λ w. IsTold (work pc) w) is (subst (λ at. IsTold (work at) (leaving_of cause)) covers.0
    (told laws setting calls frame a s first cause stands (comes laws setting so.program (is_interrupt frame) a s first (Leaves cause) stands
    (kept_so device setting.promises s cause (subst (λ w. leaves device setting.promises s w ≡ true) (sym is) is_kept)) choices left step)))
wild_told laws setting so (Exit pc frame) a s first why location form covers step is_kept = absurd location

lands_by : Laws → (setting : Setting) → IsSetting setting
    → (calls : List ℕ) (frame : Frame) (a : Known) (s : ChipState) (first : Option ChipState) (items_so : List Single) (t : ChipState)
    → IsUnder setting.device (is_interrupt frame) a s first → StandsIn frame first → IsEvenWord (register_of s 0)
    → IsChipState setting.device t
    → Comes setting (is_interrupt frame) a s first (Onward items_so t)
    → (work_at known_joined (msp430_flow setting) (register_of s 0) calls frame a (fetched setting.device.image (register_of s 0))).opens ≡ []
    → Lands (msp430_machine setting.device) (msp430_analysis setting) (Covers setting.device) (At (register_of s 0) calls frame)
    (work_at known_joined (msp430_flow setting) (register_of s 0) calls frame a (fetched setting.device.image (register_of s 0))) s first items_so t
lands_by laws setting so calls frame a s first items_so t stands in_frame even form (entered coming_so bits comes_so below is) none =
    let device = setting.device in
    entry_lands laws setting calls frame a s first (fetched device.image (register_of s 0)) items_so t stands form coming_so bits comes_so below is
    (first_hit (program_hit device Word ((register_of s 1 + 65534) % 65536)) (program_hit device Word ((register_of s 1 + 65532) % 65536))) refl
lands_by laws setting so calls frame a s first items_so t stands in_frame even form (ran instr_so found fits ahead run) none =
    let device = setting.device in
    let at : AtLocation setting frame a s first instr_so = record { setting_so = so; known = stands; stands = ahead; in_frame = in_frame; fits = fits; even = even } in
    let work = λ (r : Option Instr). work_at known_joined (msp430_flow setting) (register_of s 0) calls frame a r in
    subst (λ r. Lands (msp430_machine device) (msp430_analysis setting) (Covers device) (At (register_of s 0) calls frame) (work r) s first items_so t) (sym found)
    (run_lands laws setting calls frame a s first instr_so at items_so t run form (sym (ap (λ r. (work r).opens) found) ∙ none) run.left.hit refl)
lands_by laws setting so calls frame a s first items_so t stands in_frame even form (refused refusal found is) none = absurd (cc)

lands : Laws → (setting : Setting) → IsSetting setting
    → (node : Node) (a : Known) (s : ChipState) (first : Option ChipState) (items_so : List Single) (t : ChipState)
    → IsLocation node
    → HasChipForm setting.device.ram.lo setting.device.ram.hi node a → Covers setting.device node a s first
    → StepsTo setting.device s (Next items_so t) → keeps (spoken setting.device.image) setting.promises items_so ≡ true
    → (work_of known_joined (msp430_flow setting) (One node) a None).opens ≡ []
    → Lands (msp430_machine setting.device) (msp430_analysis setting) (Covers setting.device) node (work_of known_joined (msp430_flow setting) (One node) a None) s first items_so t
lands laws setting so (At pc calls frame) a s first items_so t location form covers (choices, left, step) is_kept none =
    let device = setting.device in
    let (front, split, taken) = laws.steps.front device s choices left (Onward items_so t) step in
    let stands = under device so.program pc calls frame a s first form covers in
    let work = λ (at : ℕ). work_at known_joined (msp430_flow setting) at calls frame a (fetched device.image at) in
    subst (λ at. (work at).opens ≡ [] → Lands (msp430_machine device) (msp430_analysis setting) (Covers device) (At at calls frame) (work at) s first items_so t) covers.0
    (lands_by laws setting so calls frame a s first items_so t stands covers.2 (subst IsEvenWord (sym covers.0) form.0.0)
    (laws.steps.keep device s t front items_so so.program.read.size so.program.read.bytes covers.1.state taken)
    (comes laws setting so.program (is_interrupt frame) a s first (Onward items_so t) stands is_kept choices left step)) none
lands laws setting so (Exit pc frame) a s first items_so t location form covers step is_kept none = absurd location

-- RETURNS

returns_hold : Laws → (setting : Setting) → IsSetting setting
    → ReturnsHold (msp430_machine setting.device) (msp430_analysis setting) (Covers setting.device) known_joined (msp430_flow setting)
unfolding msp430_machine msp430_analysis
returns_hold laws setting so =
    let device = setting.device in
    record {
      entry = exit_entered device.ram.lo device.ram.hi;
      goes_on = λ pc calls frame from vector sp level a x f first t form exit_form covers left.
          let framed = is_interrupt frame in
          let goes : register_of t 0 ≡ pc = left.0.0 ∙ covers.0 in
          let holds = laws.resumptions.covers device framed a x f t first vector sp level so.program.top (in_base device frame f first covers.2) form.1 exit_form.1 covers.1 left.1 left.0 in
          record {
            has = laws.resumptions.has device a f first sp covers.1 left.2;
            goes = goes;
            covered = (goes, subst (λ p. HoldsOf device (resumed_known framed a p sp x) t first) covers.0 holds, covers.2);
          };
    }

-- POSTS

module _ (laws : Laws) (setting : Setting) (so : IsSetting setting) where
  -- RETI alone leaves a frame, and that has a stack pointer
  entry_of : (frame : Frame) (a : Known) (instr_so : Instr) → leaves_frame setting.device frame a instr_so ≡ true → HasEntry frame
  entry_of frame a (instr.Double operation width origin target) h = absurd (cc)
  entry_of frame a (instr.Single operation width operand) h = absurd (cc)
  entry_of frame a (instr.Jump condition offset) h = absurd (cc)
  entry_of frame a instr.ReturnFromInterrupt h = (laws.returns.base setting.device frame a h).1

  -- where an instruction goes on, what is known is in form
  onward_known : (pc : ℕ) (frame : Frame) (a : Known)
      → IsKnown setting.device.ram.lo setting.device.ram.hi (is_interrupt frame) a → IsEvenWord pc → (instr_so : Instr)
      → fetched setting.device.image pc ≡ Some instr_so
      → let b = in_front setting a pc instr_so in
      IsOnward IsEvenWord (IsAhead setting.device (is_interrupt frame) (gie_of b)) (onward_of setting frame b pc instr_so (kept_worked setting (is_interrupt frame) a pc instr_so))
  onward_known pc frame a known even instr_so is =
      let device = setting.device in
      let framed = is_interrupt frame in
      let b = in_front setting a pc instr_so in
      let form = laws.fronts.form device setting.promises device.ram.lo device.ram.hi framed a pc instr_so known in
      let fits = instr_found laws device so.program pc instr_so is even.1 in
      let device_so = device_of device so.program in
      onward_cases setting frame b pc instr_so (kept_worked setting framed a pc instr_so) (IsOnward IsEvenWord (IsAhead device framed (gie_of b)))
      (λ _. exit_formed laws device framed b pc device_so form even instr_so fits) (λ _. tt) (λ _. onward_formed laws device framed b pc device_so form even instr_so fits)

  forms_posts : (pc : ℕ) (calls : List ℕ) (frame : Frame) (a : Known)
      → HasChipForm setting.device.ram.lo setting.device.ram.hi (At pc calls frame) a
      → FormsPosts (msp430_analysis setting) known_joined (msp430_flow setting) pc calls frame a
  unfolding msp430_analysis
  forms_posts pc calls frame a form =
      let device = setting.device in
      let framed = is_interrupt frame in
      let node = form.0 in
      let is_device = device_of device so.program in
      record {
        entry = λ coming_so listed. (
          (laws.entries.handler device coming_so.vector is_device, omega arith, All-nil IsEvenWord, (laws.entries.frame device framed a coming_so form.1 listed).0),
          laws.entries.form device framed a pc coming_so is_device form.1 node.0 listed,
        );
        way = λ instr_so is way listed.
            let site = site_of (msp430_flow setting) pc calls frame instr_so in
            let b = in_front setting a pc instr_so in
            let made = onward_of setting frame b pc instr_so (kept_worked setting framed a pc instr_so) in
            let formed = ways_formed laws.ways known_joined IsEvenWord (IsAhead device framed (gie_of b)) (joined_ahead laws device framed (gie_of b)) made (onward_known pc frame a form.1 node.0 instr_so is) way listed in
            let sites = sites_by IsEvenWord setting.limits.calls site.effect site.end pc calls way.0 so.calls node.0 (record { few = node.1; each = node.2 }) in
            ((formed.address, sites.few, sites.each, node.3), formed.known.0);
        left = λ instr_so is x leaves_so.
            let b = in_front setting a pc instr_so in
            let known = subst (IsOnward IsEvenWord (IsAhead device framed (gie_of b))) leaves_so (onward_known pc frame a form.1 node.0 instr_so is) in
            ((node.0, node.3, entry_of frame b instr_so (leaves_back setting frame b pc instr_so (kept_worked setting framed a pc instr_so) x leaves_so)), known.0);
      }

  forms_all : FormsAll (msp430_analysis setting) known_joined (msp430_flow setting)
  unfolding msp430_analysis
  forms_all = record {
    location = forms_posts;
    resumed = λ pc calls frame from vector sp level a x form exit_form.
        (form.0, laws.resumptions.form setting.device.ram.lo setting.device.ram.hi (is_interrupt frame) a x pc sp so.program.top form.1 exit_form.1 form.0.0 exit_form.0.1.1);
  }

-- THE LAWS

pub alike_form : (a b : Setting) → AreAlike a b → (node : Node) (state : Known)
    → HasChipForm a.device.ram.lo a.device.ram.hi node state → HasChipForm b.device.ram.lo b.device.ram.hi node state
alike_form a b alike node state form = subst (λ ram. HasChipForm ram.lo ram.hi node state) alike.ram form

pub orderly : Laws → (setting : Setting) → IsSetting setting → IsOrderly (msp430_analysis setting)
unfolding msp430_analysis
orderly laws setting so =
    let device = setting.device in
    let lo = device.ram.lo in
    let hi = device.ram.hi in
    let states = laws.states in
    let ascends : lo ≤ hi = let below : lo < hi = so.program.ram.3 in omega arith in
    record {
      keeps = record {
        start = ((reset_even device so.program, omega arith, All-nil IsEvenWord, tt), states.first_form lo hi false);
        posts = posts_formed (msp430_analysis setting) known_joined (msp430_flow setting) laws.ways (forms_all laws setting so);
        joined = λ node a b f g. form_with lo hi node a (known_joined a b) f (states.join_form lo hi (is_interrupt (frame_of node)) a b (known_of lo hi node a f) (known_of lo hi node b g));
        widened = λ coarse node a b f g. form_with lo hi node a (known_widened (stops coarse device) a b) f
            (states.widen_form lo hi (is_interrupt (frame_of node)) (stops coarse device) (stops_below coarse device) a b (known_of lo hi node a f) (known_of lo hi node b g));
        topped = λ node a f. let framed = is_interrupt (frame_of node) in form_with lo hi node a (top_known lo hi framed) f (states.top_form lo hi framed ascends);
      };
      ordered = record {
        itself = λ node a f. states.itself lo hi (is_interrupt (frame_of node)) a (known_of lo hi node a f);
        along = λ node a b c f g h. states.along a b c;
        held_joined = λ node a b f g. states.join_held lo hi (is_interrupt (frame_of node)) a b (known_of lo hi node a f) (known_of lo hi node b g);
        posted_joined = λ node a b f g. states.join_new lo hi (is_interrupt (frame_of node)) a b (known_of lo hi node a f) (known_of lo hi node b g);
        held_widened = λ coarse node a b f g. states.widen_held lo hi (is_interrupt (frame_of node)) (stops coarse device) (stops_below coarse device) a b (known_of lo hi node a f) (known_of lo hi node b g);
        posted_widened = λ coarse node a b f g. states.widen_new lo hi (is_interrupt (frame_of node)) (stops coarse device) (stops_below coarse device) a b (known_of lo hi node a f) (known_of lo hi node b g);
        topped = λ node a f. states.greatest lo hi (is_interrupt (frame_of node)) a (known_of lo hi node a f);
      };
      exit_form = exit_entered lo hi;
      opens_break = opens_break (msp430_analysis setting) known_joined (msp430_flow setting) (location_breaks laws setting so.program);
    }

-- without promises each state leaves the model as they say
none_leaves : Laws → (device : Device) (s : ChipState) (why : Leaving) → leaves device [] s why ≡ true
none_leaves laws device s no_instruction = refl
none_leaves laws device s (program_written at) = laws.fronts.none device s (Leaves (Store at))
none_leaves laws device s (entry_pushed at) = refl

lawful_by : Laws → (setting : Setting) → IsSetting setting → (promises : List Promise) → promises ≡ setting.promises
    → IsLawful (machine_under setting.device promises) (msp430_analysis setting) (Covers setting.device)
unfolding msp430_machine msp430_analysis
lawful_by laws setting so [] same =
    let device = setting.device in
    let lo = device.ram.lo in
    let hi = device.ram.hi in
    let states = laws.states in
    record {
      first_is_location = tt;
      first_frame = refl;
      covers_reset = states.reset device;
      wild_is_told = λ node a s first why location form covers step. wild_told laws setting so node a s first why location form covers step
          (subst (λ list. leaves device list s why ≡ true) same (none_leaves laws device s why));
      step_lands = λ node a s first items_so t location form covers step none. lands laws setting so node a s first items_so t location form covers step
          (subst (λ list. keeps (spoken device.image) list items_so ≡ true) same (laws.fronts.none device s (Onward items_so t))) none;
      return_resumes = return_resumes (msp430_machine device) (msp430_analysis setting) (Covers device) known_joined (msp430_flow setting) (returns_hold laws setting so);
      covers_more = λ node a b s first f g within covers. states.more device lo hi (is_interrupt (frame_of node)) node a b s first (known_of lo hi node a f) within covers;
    }
lawful_by laws setting so (promise ∷ promises) same =
    let device = setting.device in
    let lo = device.ram.lo in
    let hi = device.ram.hi in
    let states = laws.states in
    let list = promise ∷ promises in
    let machine = msp430_machine device in
    let analysis = msp430_analysis setting in
    let keeps_so = keeps (spoken device.image) list in
    let leaves_so = leaves device list in
    let resumes = return_resumes machine analysis (Covers device) known_joined (msp430_flow setting) (returns_hold laws setting so) in
    record {
      first_is_location = tt;
      first_frame = refl;
      covers_reset = states.reset device;
      wild_is_told = λ node a s first why location form covers step. wild_told laws setting so node a s first why location form covers step.0
          (subst (λ all. leaves device all s why ≡ true) same step.1);
      step_lands = λ node a s first items_so t location form covers step none. kept_lands keeps_so leaves_so machine analysis (Covers device)
          (lands laws setting so node a s first items_so t location form covers step.0 (subst (λ all. keeps (spoken device.image) all items_so ≡ true) same step.1) none);
      return_resumes = λ node exit a x f first t location exits form exit_form covers left.
          kept_resumes keeps_so leaves_so machine analysis (Covers device) (resumes node exit a x f first t location exits form exit_form covers left);
      covers_more = λ node a b s first f g within covers. states.more device lo hi (is_interrupt (frame_of node)) node a b s first (known_of lo hi node a f) within covers;
    }

pub lawful : Laws → (setting : Setting) → IsSetting setting
    → IsLawful (machine_if setting) (msp430_analysis setting) (Covers setting.device)
lawful laws setting so = lawful_by laws setting so setting.promises refl
