-- Where returns from interrupts resume.
use Rattle.std.proofs.Common.{◌≡◌, true, ℕ, Option, None, Some, List, [], ◌∷◌, refl, sym, subst}
use Rattle.std.proofs.lemmas.Bool.{cond-true}
use Rattle.call_context.specs.declared.node.Frame.{Frame}
use Rattle.call_context.specs.declared.node.Frame.TheVariants.{Base, Irq}
use Rattle.call_context.specs.declared.node.Node.{Node}
use Rattle.call_context.specs.declared.node.Node.TheVariants.{At, Exit}
use Rattle.call_context.specs.declared.node.Unit.TheVariants.{Back}
use Rattle.call_context.specs.declared.shown.Item.TheVariants.{Edge}
use Rattle.call_context.specs.Nodes.{IsLocation, HasEntry, frame_of}
use Rattle.chip_analysis.specs.declared.chip.Work.{Work}
use Rattle.chip_analysis.specs.Analysis.{Analysis}
use Rattle.chip_law.specs.Laws.{Cover, Resumes}
use Rattle.chip_law.specs.Machine.{Machine}
use Rattle.plain_lemmas.specs.Members.{in_first}
use Rattle.chip_flow.specs.Flow.{Flow}
use Rattle.chip_flow.specs.Works.{may_be, nothing, resumption, work_of}

module _ {A I C S : Type 0} (machine : Machine S) (analysis : Analysis A) (covers : Cover S A) (joined : A → A → A) (flow : Flow A I C) where
  -- the state t that an exit left, where f was suspended in the frame
  pub record GoesOn (pc : ℕ) (calls : List ℕ) (frame : Frame) (sp : ℕ) (a x : A) (first : Option S) (t : S) : Type 0 where
    pub has : may_be (flow.stack a) sp ≡ true
    pub goes : machine.pc t ≡ pc
    pub covered : covers (At pc calls frame) (flow.resumed frame a pc sp x) t first

  pub record ReturnsHold : Type 0 where
    pub entry : (exit : Node) (x : A) → (IsLocation exit → ⊥) → analysis.HasForm exit x → HasEntry (frame_of exit)
    pub goes_on : (pc : ℕ) (calls : List ℕ) (frame : Frame) (from vector sp level : ℕ) (a x : A) (f : S) (first : Option S) (t : S)
        → analysis.HasForm (At pc calls frame) a → analysis.HasForm (Exit from (Irq vector (Some sp) level)) x
        → covers (At pc calls frame) a f first → covers (Exit from (Irq vector (Some sp) level)) x t (Some f)
        → GoesOn pc calls frame sp a x first t

  resumed : (pc : ℕ) (calls : List ℕ) (frame : Frame) (from vector sp level : ℕ) (a x : A) (first : Option S) (t : S)
      → GoesOn pc calls frame sp a x first t
      → Resumes machine analysis covers (At pc calls frame) (Exit from (Irq vector (Some sp) level)) (resumption flow pc calls frame from sp a x) first t
  resumed pc calls frame from vector sp level a x first t goes_on =
      let state = flow.resumed frame a pc sp x in
      let full : Work A = record { items = Edge from pc ∷ []; posts = (At pc calls frame, state) ∷ []; waits = []; opens = [] } in
      subst (λ work. Resumes machine analysis covers (At pc calls frame) (Exit from (Irq vector (Some sp) level)) work first t)
      (sym (cond-true (may_be (flow.stack a) sp) full nothing goes_on.has)) (record {
        state = state;
        posted = in_first (At pc calls frame, state) [];
        covered = goes_on.covered;
        shows = (Edge from pc, in_first (Edge from pc) [], (refl, goes_on.goes));
      })

  pub return_resumes : ReturnsHold → (node exit : Node) (a x : A) (f : S) (first : Option S) (t : S) → IsLocation node
      → (IsLocation exit → ⊥)
      → analysis.HasForm node a → analysis.HasForm exit x → covers node a f first → covers exit x t (Some f)
      → Resumes machine analysis covers node exit (work_of joined flow (Back node exit) a (Some x)) first t
  return_resumes laws (Exit pc frame) exit a x f first t location exits form exit_form covers_f left = absurd location
  return_resumes laws (At pc calls frame) (At from others frame_so) a x f first t location exits form exit_form covers_f left = absurd (exits tt)
  return_resumes laws (At pc calls frame) (Exit from Base) a x f first t location exits form exit_form covers_f left =
      absurd (laws.entry (Exit from Base) x exits exit_form)
  return_resumes laws (At pc calls frame) (Exit from (Irq vector None level)) a x f first t location exits form exit_form covers_f left =
      absurd (laws.entry (Exit from (Irq vector None level)) x exits exit_form)
  return_resumes laws (At pc calls frame) (Exit from (Irq vector (Some sp) level)) a x f first t location exits form exit_form covers_f left =
      resumed pc calls frame from vector sp level a x first t (laws.goes_on pc calls frame from vector sp level a x f first t form exit_form covers_f left)
