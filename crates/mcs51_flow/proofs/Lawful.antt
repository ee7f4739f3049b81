-- The laws of the MCS-51 for an analysis.
use Rattle.std.proofs.Common.{◌≡◌, true, false, ℕ, ◌+◌, ◌%◌, ◌<◌, Option, None, Some, List, [], ◌∷◌, refl, sym, ap, ◌∙◌, subst, arith}
use Rattle.std.proofs.lemmas.List.Elements.{All-nil}
use Rattle.call_context.specs.declared.node.Frame.{Frame}
use Rattle.call_context.specs.declared.node.Node.{Node}
use Rattle.call_context.specs.declared.node.Node.TheVariants.{At, Exit}
use Rattle.call_context.specs.declared.node.Unit.TheVariants.{One}
use Rattle.call_context.specs.Nodes.{frame_of, IsLocation, HasEntry}
use Rattle.chip_numbers.specs.Single.{Single}
use Rattle.chip_analysis.specs.Orderly.{IsOrderly}
use Rattle.chip_law.specs.Laws.{IsLawful, IsTold, Lands}
use Rattle.chip_law.specs.Outcome.{Leaving}
use Rattle.chip_law.specs.Outcome.Outcome.{Next, Wild}
use Rattle.choosing.specs.Outcome.Outcome.{Next as Onward, Wild as Leaves}
use Rattle.chip_flow.specs.Along.{IsOnward, ways_formed}
use Rattle.chip_flow.specs.Opens.{opens_break}
use Rattle.chip_flow.specs.Posts.{FormsAll, FormsPosts, posts_formed}
use Rattle.flow_laws.specs.KeptSteps.{kept_lands, kept_resumes}
use Rattle.flow_laws.specs.Returns.{ReturnsHold, return_resumes}
use Rattle.chip_flow.specs.Sites.{sites_by}
use Rattle.chip_flow.specs.Works.{site_of, work_at, work_of}
use Rattle.mcs51_decode.specs.declared.instr.Instr.{Instr}
use Rattle.mcs51_decode.specs.Encoding.{length_of}
use Rattle.mcs51_decode.specs.Targets.{following}
use Rattle.mcs51_chip.specs.declared.state.ChipState.{ChipState}
use Rattle.mcs51_chip.specs.Interrupts.{vector_of}
use Rattle.mcs51_state.specs.Forms.{HasChipForm, IsKnown}
use Rattle.mcs51_state.specs.Holding.{Covers, HoldsOf, StandsIn}
use Rattle.mcs51_state.specs.Known.{Known, is_interrupt, known_joined, known_widened, top_known}
use Rattle.mcs51_state.specs.Under.{IsUnder}
use Rattle.mcs51_resume.specs.Resume.{resumed_known}
use Rattle.mcs51_kept.specs.Sites.{spoken}
use Rattle.promises.specs.Keeping.{keeps}
use Rattle.promises.specs.declared.promise.Promise.{Promise}
use Rattle.mcs51_flow.specs.declared.setting.Setting.{Setting}
use Rattle.mcs51_flow.specs.Chip.{IsSetting, in_front, kept_ran, mcs51_analysis, mcs51_flow}
use Rattle.mcs51_flow.specs.Going.{leaves_frame}
use Rattle.mcs51_flow.specs.Machine.{StepsTo, leaving_of, machine_if, machine_under, mcs51_machine}
use Rattle.mcs51_flow.specs.Marks.{stops}
use Rattle.mcs51_flow.specs.Standing.{fetched}
use Rattle.mcs51_flow.proofs.Arriving.{IsAddress, leaves_back, onward_formed}
use Rattle.mcs51_flow.proofs.Landing.{AtLocation, entry_lands, run_lands}
use Rattle.mcs51_flow.proofs.MarksLemmas.{stops_below}
use Rattle.mcs51_flow.specs.LawsBelow.{Laws}
use Rattle.mcs51_flow.proofs.Returning.{is_return}
use Rattle.mcs51_flow.proofs.Stepping.{Comes, comes, framed_by, instr_found, location_breaks, told}
use Rattle.mcs51_flow.proofs.Stepping.Comes.{entered, ran, refused}

-- NODES

form_with : (node : Node) (a b : Known) → HasChipForm node a → IsKnown (is_interrupt (frame_of node)) b → HasChipForm node b
form_with node a b form known = (form.0, known)

exit_entered : (exit : Node) (x : Known) → (IsLocation exit → ⊥) → HasChipForm exit x → HasEntry (frame_of exit)
exit_entered (At pc calls frame) x exits form = absurd (exits tt)
exit_entered (Exit pc frame) x exits form = form.0.2

-- STEPS

under : (pc : ℕ) (calls : List ℕ) (frame : Frame) (a : Known) (s : ChipState) (first : Option ChipState)
    → HasChipForm (At pc calls frame) a → Covers (At pc calls frame) a s first → IsUnder (is_interrupt frame) a s first
under pc calls frame a s first form covers = record { base = framed_by frame first covers.2; form = form.1; holds = covers.1 }

wild_told : Laws → (setting : Setting) → IsSetting setting
    → (node : Node) (a : Known) (s : ChipState) (first : Option ChipState) (why : Leaving) → IsLocation node
    → HasChipForm node a → Covers node a s first → StepsTo setting.image s (Wild why)
    → IsTold (work_of known_joined (mcs51_flow setting) (One node) a None) why
wild_told laws setting so (At pc calls frame) a s first why location form covers (choices, cause, left, step, is) =
    let image = setting.image in
    let work = λ (at : ℕ). work_at known_joined (mcs51_flow setting) at calls frame a (fetched image at) in
    subst (λ w. IsTold (work pc) w) is (subst (λ at. IsTold (work at) (leaving_of cause)) covers.0
    (told setting calls frame a s first cause (comes laws setting so.program (is_interrupt frame) a s first (Leaves cause) (under pc calls frame a s first form covers) tt choices left step)))
wild_told laws setting so (Exit pc frame) a s first why location form covers step = absurd location

lands_by : Laws → (setting : Setting) → IsSetting setting
    → (calls : List ℕ) (frame : Frame) (a : Known) (s : ChipState) (first : Option ChipState) (items_so : List Single) (t : ChipState)
    → IsUnder (is_interrupt frame) a s first → StandsIn frame first → Comes setting (is_interrupt frame) a s first (Onward items_so t)
    → (work_at known_joined (mcs51_flow setting) s.pc calls frame a (fetched setting.image s.pc)).opens ≡ []
    → Lands (mcs51_machine setting.image) (mcs51_analysis setting) Covers (At s.pc calls frame) (work_at known_joined (mcs51_flow setting) s.pc calls frame a (fetched setting.image s.pc)) s first items_so t
lands_by laws setting so calls frame a s first items_so t stands in_frame (entered coming_so comes_so is) none =
    entry_lands laws setting calls frame a s first (fetched setting.image s.pc) items_so t stands coming_so comes_so is
lands_by laws setting so calls frame a s first items_so t stands in_frame (ran instr_so effect found fits may runs is) none =
    let at : AtLocation setting frame a s first instr_so effect = record { setting_so = so; stands = stands; in_frame = in_frame; fits = fits; may = may; runs = runs } in
    let work = λ (r : Option Instr). work_at known_joined (mcs51_flow setting) s.pc calls frame a r in
    subst (λ r. Lands (mcs51_machine setting.image) (mcs51_analysis setting) Covers (At s.pc calls frame) (work r) s first items_so t) (sym found)
    (run_lands laws setting calls frame a s first instr_so effect at items_so t (sym (ap (λ r. (work r).opens) found) ∙ none) is)
lands_by laws setting so calls frame a s first items_so t stands in_frame (refused refusal found is) none = absurd (cc)

lands : Laws → (setting : Setting) → IsSetting setting
    → (node : Node) (a : Known) (s : ChipState) (first : Option ChipState) (items_so : List Single) (t : ChipState)
    → IsLocation node
    → HasChipForm node a → Covers node a s first → StepsTo setting.image s (Next items_so t)
    → keeps (spoken setting.image) setting.promises items_so ≡ true
    → (work_of known_joined (mcs51_flow setting) (One node) a None).opens ≡ []
    → Lands (mcs51_machine setting.image) (mcs51_analysis setting) Covers node (work_of known_joined (mcs51_flow setting) (One node) a None) s first items_so t
lands laws setting so (At pc calls frame) a s first items_so t location form covers (choices, left, step) kept none =
    let image = setting.image in
    let stands = under pc calls frame a s first form covers in
    let work = λ (at : ℕ). work_at known_joined (mcs51_flow setting) at calls frame a (fetched image at) in
    subst (λ at. (work at).opens ≡ [] → Lands (mcs51_machine image) (mcs51_analysis setting) Covers (At at calls frame) (work at) s first items_so t) covers.0
    (lands_by laws setting so calls frame a s first items_so t stands covers.2
    (comes laws setting so.program (is_interrupt frame) a s first (Onward items_so t) stands kept choices left step)) none
lands laws setting so (Exit pc frame) a s first items_so t location form covers step kept none = absurd location

-- RETURNS

returns_hold : Laws → (setting : Setting)
    → ReturnsHold (mcs51_machine setting.image) (mcs51_analysis setting) Covers known_joined (mcs51_flow setting)
unfolding mcs51_machine mcs51_analysis
returns_hold laws setting = record {
  entry = exit_entered;
  goes_on = λ pc calls frame from vector sp level a x f first t form exit_form covers left.
      let framed = is_interrupt frame in
      let at : IsUnder framed a f first = record { base = framed_by frame first covers.2; form = form.1; holds = covers.1 } in
      let out : IsUnder true x t (Some f) = record { base = tt; form = exit_form.1; holds = left.1 } in
      let stands = laws.resumptions.covers framed a x f t first vector sp level at out left.0 in
      let goes : t.pc ≡ pc = left.0.0 ∙ covers.0 in
      record {
        has = laws.resumptions.has a f first sp covers.1 left.2;
        goes = goes;
        covered = (goes, subst (λ p. HoldsOf (resumed_known framed a p sp x) t first) covers.0 stands.holds, covers.2);
      };
}

-- POSTS

vector_below : (source : ℕ) → source < 6 → vector_of source < 65536
vector_below source h = omega (arith, h)

following_below : (pc : ℕ) (instr_so : Instr) → following pc instr_so < 65536
following_below pc instr_so = let len = length_of instr_so in let below : (pc + len) % 65536 < 65536 = omega arith in below

module _ (laws : Laws) (setting : Setting) (so : IsSetting setting) where
  onward_known : (pc : ℕ) (frame : Frame) (a : Known) → IsKnown (is_interrupt frame) a → (instr_so : Instr)
      → fetched setting.image pc ≡ Some instr_so
      → IsOnward IsAddress (IsKnown (is_interrupt frame)) ((mcs51_flow setting).followed frame a pc instr_so).onward
  onward_known pc frame a form instr_so is =
      let framed = is_interrupt frame in
      let b = in_front setting a pc instr_so in
      let formed = laws.fronts.form setting.image setting.promises framed a pc instr_so form in
      let way = laws.instructions.form framed b setting.image pc instr_so formed (instr_found laws setting.image so.program pc instr_so is) so.program.bytes in
      onward_formed laws framed (leaves_frame frame a instr_so) setting.limits.targets (following pc instr_so) (kept_ran setting framed pc a instr_so).way (following_below pc instr_so) way

  -- RETI alone leaves a frame, and that has a stack pointer
  entry_of : (frame : Frame) (a : Known) (instr_so : Instr) → leaves_frame frame a instr_so ≡ true → HasEntry frame
  entry_of frame a instr_so h =
      (laws.returns.base (is_interrupt frame) frame a (subst (λ (i : Instr). leaves_frame frame a i ≡ true) (is_return instr_so frame a h) h)).1

  forms_posts : (pc : ℕ) (calls : List ℕ) (frame : Frame) (a : Known) → HasChipForm (At pc calls frame) a
      → FormsPosts (mcs51_analysis setting) known_joined (mcs51_flow setting) pc calls frame a
  unfolding mcs51_analysis
  forms_posts pc calls frame a form =
      let framed = is_interrupt frame in
      let node = form.0 in
      record {
        entry = λ coming_so listed. (
          (vector_below coming_so.source (laws.entries.below a coming_so listed), omega arith, All-nil IsAddress, laws.entries.frame framed a coming_so form.1 listed),
          laws.entries.form framed a pc coming_so form.1 node.0 listed,
        );
        way = λ instr_so is way listed.
            let site = site_of (mcs51_flow setting) pc calls frame instr_so in
            let made = ((mcs51_flow setting).followed frame a pc instr_so).onward in
            let formed = ways_formed laws.ways known_joined IsAddress (IsKnown framed) (laws.states.join_form framed) made (onward_known pc frame a form.1 instr_so is) way listed in
            let sites = sites_by IsAddress setting.limits.calls site.effect site.end pc calls way.0 so.calls node.0 (record { few = node.1; each = node.2 }) in
            ((formed.address, sites.few, sites.each, node.3), formed.known);
        left = λ instr_so is b leaves.
            let known = subst (IsOnward IsAddress (IsKnown framed)) leaves (onward_known pc frame a form.1 instr_so is) in (
              (
                node.0,
                node.3,
                entry_of frame a instr_so
                    (leaves_back (kept_ran setting framed pc a instr_so).way (leaves_frame frame a instr_so) setting.limits.targets (following pc instr_so) b leaves),
              ),
              known,
            );
      }

  forms_all : FormsAll (mcs51_analysis setting) known_joined (mcs51_flow setting)
  unfolding mcs51_analysis
  forms_all = record {
    location = forms_posts;
    resumed = λ pc calls frame from vector sp level a x form exit_form.
        (form.0, laws.resumptions.form (is_interrupt frame) a x pc sp form.1 exit_form.1 form.0.0 exit_form.0.1.1);
  }

-- THE LAWS

pub orderly : Laws → (setting : Setting) → IsSetting setting → IsOrderly (mcs51_analysis setting)
unfolding mcs51_analysis
orderly laws setting so =
    let states = laws.states in
    record {
      keeps = record {
        start = ((omega arith, omega arith, All-nil (λ site. site < 65536), tt), states.first_form false);
        posts = posts_formed (mcs51_analysis setting) known_joined (mcs51_flow setting) laws.ways (forms_all laws setting so);
        joined = λ node a b f g. form_with node a (known_joined a b) f (states.join_form (is_interrupt (frame_of node)) a b f.1 g.1);
        widened = λ coarse node a b f g. form_with node a (known_widened (stops coarse setting.image) a b) f
            (states.widen_form (is_interrupt (frame_of node)) (stops coarse setting.image) (stops_below coarse setting.image) a b f.1 g.1);
        topped = λ node a f. form_with node a (top_known (is_interrupt (frame_of node))) f (states.top_form (is_interrupt (frame_of node)));
      };
      ordered = record {
        itself = λ node a f. states.itself (is_interrupt (frame_of node)) a f.1;
        along = λ node a b c f g h. states.along a b c;
        held_joined = λ node a b f g. states.join_held (is_interrupt (frame_of node)) a b f.1 g.1;
        posted_joined = λ node a b f g. states.join_new (is_interrupt (frame_of node)) a b f.1 g.1;
        held_widened = λ coarse node a b f g. states.widen_held (is_interrupt (frame_of node)) (stops coarse setting.image) (stops_below coarse setting.image) a b f.1 g.1;
        posted_widened = λ coarse node a b f g. states.widen_new (is_interrupt (frame_of node)) (stops coarse setting.image) (stops_below coarse setting.image) a b f.1 g.1;
        topped = λ node a f. states.greatest (is_interrupt (frame_of node)) a f.1;
      };
      exit_form = exit_entered;
      opens_break = opens_break (mcs51_analysis setting) known_joined (mcs51_flow setting) (λ pc calls frame a form. location_breaks laws setting so.program pc calls frame a);
    }

-- without promises each step keeps them
lawful_by : Laws → (setting : Setting) → IsSetting setting → (promises : List Promise) → promises ≡ setting.promises
    → IsLawful (machine_under setting.image promises) (mcs51_analysis setting) Covers
unfolding mcs51_machine mcs51_analysis
lawful_by laws setting so [] is =
    let states = laws.states in
    record {
      first_is_location = tt;
      first_frame = refl;
      covers_reset = states.reset;
      wild_is_told = wild_told laws setting so;
      step_lands = λ node a s first items_so t location form covers step none.
          lands laws setting so node a s first items_so t location form covers step
          (subst (λ list. keeps (spoken setting.image) list items_so ≡ true) is (laws.fronts.none setting.image (Onward items_so t))) none;
      return_resumes = return_resumes (mcs51_machine setting.image) (mcs51_analysis setting) Covers known_joined (mcs51_flow setting) (returns_hold laws setting);
      covers_more = λ node a b s first f g within covers. states.more node a b s first within covers;
    }
lawful_by laws setting so (promise ∷ promises) is =
    let states = laws.states in
    let keeps_all = keeps (spoken setting.image) (promise ∷ promises) in
    let machine = mcs51_machine setting.image in
    let resumes = return_resumes machine (mcs51_analysis setting) Covers known_joined (mcs51_flow setting) (returns_hold laws setting) in
    record {
      first_is_location = tt;
      first_frame = refl;
      covers_reset = states.reset;
      wild_is_told = λ node a s first why location form covers step. wild_told laws setting so node a s first why location form covers step.0;
      step_lands = λ node a s first items_so t location form covers step none.
          kept_lands keeps_all (λ s why. true) machine (mcs51_analysis setting) Covers
          (lands laws setting so node a s first items_so t location form covers step.0
          (subst (λ list. keeps (spoken setting.image) list items_so ≡ true) is step.1) none);
      return_resumes = λ node exit a x f first t location exits form exit_form covers left.
          kept_resumes keeps_all (λ s why. true) machine (mcs51_analysis setting) Covers
          (resumes node exit a x f first t location exits form exit_form covers left);
      covers_more = λ node a b s first f g within covers. states.more node a b s first within covers;
    }

pub lawful : Laws → (setting : Setting) → IsSetting setting → IsLawful (machine_if setting) (mcs51_analysis setting) Covers
lawful laws setting so = lawful_by laws setting so setting.promises refl
