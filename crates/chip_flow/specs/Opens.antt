-- What works leave open.
use Rattle.std.proofs.Common.{◌≡◌, ◌++◌, ℕ, Option, None, Some, List, [], ◌∷◌, refl, sym, subst, inl, inr, Contains}
use Rattle.std.specs.List.{flat_map}
use Rattle.std.proofs.lemmas.Bool.{cond_both}
use Rattle.std.proofs.lemmas.List.Elements.{Contains-append_left, Contains-append_right, Contains-append_cases}
use Rattle.call_context.specs.declared.node.Frame.{Frame}
use Rattle.call_context.specs.declared.node.Frame.TheVariants.{Base, Irq}
use Rattle.call_context.specs.declared.node.Node.{Node}
use Rattle.call_context.specs.declared.node.Node.TheVariants.{At, Exit}
use Rattle.call_context.specs.declared.node.Unit.{Unit as WorkUnit}
use Rattle.call_context.specs.declared.node.Unit.TheVariants.{One, Back}
use Rattle.call_context.specs.declared.shown.Item.TheVariants.{Edge}
use Rattle.call_context.specs.Nodes.{pc_of}
use Rattle.chip_analysis.specs.declared.cause.Cause.{Cause}
use Rattle.chip_analysis.specs.declared.cause.Cause.TheVariants.{Fetch, Targets}
use Rattle.chip_analysis.specs.declared.chip.Work.{Work}
use Rattle.chip_analysis.specs.Analysis.{Analysis, AreFormed}
use Rattle.chip_analysis.specs.Orderly.{location_of}
use Rattle.value_set.specs.declared.form.Form.{Form}
use Rattle.plain_lemmas.specs.Members.{from_flat_map, in_first, in_flat_map, in_none, in_one}
use Rattle.chip_flow.specs.Calls.{Site}
use Rattle.chip_flow.specs.Flow.{Flow}
use Rattle.chip_flow.specs.Going.{going_by}
use Rattle.chip_flow.specs.Works.{may_be, nothing, resumption, site_of, store_opens, work_at, work_by, work_of}
use Rattle.chip_flow.specs.declared.going.Followed.{Followed}
use Rattle.chip_flow.specs.declared.going.Onward.{Onward}
use Rattle.chip_flow.specs.declared.going.Onward.TheVariants as onward

-- WHAT IS LEFT OPEN AT A LOCATION

module _ {A I C : Type 0} (joined : A → A → A) (flow : Flow A I C) (pc : ℕ) (calls : List ℕ) (frame : Frame) (a : A) where
  -- each open of an entry
  pub entry_open : (found : Option I) (coming : C) (open_so : ℕ × Cause) → Contains (flow.comings a) coming
      → Contains (flow.entry_opens pc coming) open_so
      → Contains (work_at joined flow pc calls frame a found).opens open_so
  entry_open None coming open_so listed there =
      let entries = flat_map (flow.entry_opens pc) (flow.comings a) in
      Contains-append_left entries ((pc, Fetch) ∷ []) open_so (in_flat_map (flow.entry_opens pc) (flow.comings a) coming open_so listed there)
  entry_open (Some instr) coming open_so listed there =
      let made = flow.followed frame a pc instr in
      let entries = flat_map (flow.entry_opens pc) (flow.comings a) in
      let going = (going_by joined (site_of flow pc calls frame instr) made.onward).opens in
      Contains-append_left (entries ++ going) (store_opens pc made.store) open_so
      (Contains-append_left entries going open_so (in_flat_map (flow.entry_opens pc) (flow.comings a) coming open_so listed there))

  -- where no instruction stands
  pub fetch_open : Contains (work_at joined flow pc calls frame a None).opens (pc, Fetch)
  fetch_open =
      Contains-append_right (flat_map (flow.entry_opens pc) (flow.comings a)) ((pc, Fetch) ∷ []) (pc, Fetch) (in_first (pc, Fetch) [])

  -- the store of an instruction
  pub store_open : (instr : I) (made : Followed A) (cause : Cause) → made.store ≡ Some cause
      → Contains (work_by joined flow pc calls frame a instr made).opens (pc, cause)
  store_open instr made cause is =
      let entries = flat_map (flow.entry_opens pc) (flow.comings a) in
      let going = (going_by joined (site_of flow pc calls frame instr) made.onward).opens in
      Contains-append_right (entries ++ going) (store_opens pc made.store) (pc, cause)
      (subst (λ store. Contains (store_opens pc store) (pc, cause)) (sym is) (in_first (pc, cause) []))

-- EACH OPEN

going_open : {A : Type 0} (joined : A → A → A) (site : Site) (Is : ℕ × Cause → Type 0) (made : Onward A)
    → ((targets : Form) → made ≡ onward.Open targets → Is (site.pc, Targets targets))
    → (open_so : ℕ × Cause) → Contains (going_by joined site made).opens open_so → Is open_so
going_open joined site Is (onward.Leaves a) is open_so h = absurd (in_none open_so h)
going_open joined site Is (onward.Open targets) is open_so h = subst Is (in_one (site.pc, Targets targets) open_so h) (is targets refl)
going_open joined site Is (onward.Lands targets a) is open_so h = absurd (in_none open_so h)
going_open joined site Is (onward.Jumps behind target on jumped) is open_so h = absurd (in_none open_so h)

stored_open : (pc : ℕ) (Is : ℕ × Cause → Type 0) (store : Option Cause) → ((cause : Cause) → store ≡ Some cause → Is (pc, cause))
    → (open_so : ℕ × Cause) → Contains (store_opens pc store) open_so → Is open_so
stored_open pc Is None is open_so h = absurd (in_none open_so h)
stored_open pc Is (Some cause) is open_so h = subst Is (in_one (pc, cause) open_so h) (is cause refl)

module _ {A I C : Type 0} (analysis : Analysis A) (joined : A → A → A) (flow : Flow A I C) where
  -- each open of a location breaks its limit there
  pub record BreaksLimits (pc : ℕ) (calls : List ℕ) (frame : Frame) (a : A) : Type 0 where
    pub entry : (coming : C) (open_so : ℕ × Cause) → Contains (flow.comings a) coming → Contains (flow.entry_opens pc coming) open_so
        → (pc ≡ open_so.0) × analysis.Breaks (At pc calls frame) a open_so.1
    pub fetch : flow.fetched pc ≡ None → analysis.Breaks (At pc calls frame) a Fetch
    pub targets : (instr : I) (targets : Form) → flow.fetched pc ≡ Some instr
        → (flow.followed frame a pc instr).onward ≡ onward.Open targets
        → analysis.Breaks (At pc calls frame) a (Targets targets)
    pub store : (instr : I) (cause : Cause) → flow.fetched pc ≡ Some instr → (flow.followed frame a pc instr).store ≡ Some cause
        → analysis.Breaks (At pc calls frame) a cause

  abbrev Breaking : ℕ → List ℕ → Frame → A → ℕ × Cause → Type 0
  Breaking pc calls frame a open_so = (pc ≡ open_so.0) × analysis.Breaks (At pc calls frame) a open_so.1

  location_opens : (pc : ℕ) (calls : List ℕ) (frame : Frame) (a : A) → BreaksLimits pc calls frame a
      → (found : Option I) → flow.fetched pc ≡ found
      → (open_so : ℕ × Cause) → Contains (work_at joined flow pc calls frame a found).opens open_so → Breaking pc calls frame a open_so
  location_opens pc calls frame a breaks None is open_so h =
      let entries = flat_map (flow.entry_opens pc) (flow.comings a) in
      elim (Contains-append_cases entries ((pc, Fetch) ∷ []) open_so h) [
        | inl entry ↦ let (coming, listed, there) = from_flat_map (flow.entry_opens pc) (flow.comings a) open_so entry in breaks.entry coming open_so listed there
        | inr own ↦ subst (Breaking pc calls frame a) (in_one (pc, Fetch) open_so own) (refl, breaks.fetch is)
      ]
  location_opens pc calls frame a breaks (Some instr) is open_so h =
      let made = flow.followed frame a pc instr in
      let entries = flat_map (flow.entry_opens pc) (flow.comings a) in
      let going = (going_by joined (site_of flow pc calls frame instr) made.onward).opens in
      let Is = Breaking pc calls frame a in
      elim (Contains-append_cases (entries ++ going) (store_opens pc made.store) open_so h) [
        | inl front ↦ elim (Contains-append_cases entries going open_so front) [
          | inl entry ↦ let (coming, listed, there) = from_flat_map (flow.entry_opens pc) (flow.comings a) open_so entry in breaks.entry coming open_so listed there
          | inr goes ↦ going_open joined (site_of flow pc calls frame instr) Is made.onward (λ targets open_to. (refl, breaks.targets instr targets is open_to)) open_so goes
        ]
        | inr store ↦ stored_open pc Is made.store (λ cause stored. (refl, breaks.store instr cause is stored)) open_so store
      ]

  -- a return leaves nothing open
  resumed_opens : (pc : ℕ) (calls : List ℕ) (frame : Frame) (from sp : ℕ) (a x : A) (open_so : ℕ × Cause)
      → Contains (resumption flow pc calls frame from sp a x).opens open_so → ⊥
  resumed_opens pc calls frame from sp a x open_so h =
      let full : Work A = record { items = Edge from pc ∷ []; posts = (At pc calls frame, flow.resumed frame a pc sp x) ∷ []; waits = []; opens = [] } in
      cond_both (may_be (flow.stack a) sp) full nothing (λ (work : Work A). Contains work.opens open_so → ⊥)
      (λ _ there. in_none open_so there) (λ _ there. in_none open_so there) h

  pub opens_break : ((pc : ℕ) (calls : List ℕ) (frame : Frame) (a : A) → analysis.HasForm (At pc calls frame) a → BreaksLimits pc calls frame a)
      → (unit : WorkUnit) (a : A) (exit : Option A) (at : ℕ) (cause : Cause) → AreFormed analysis unit a exit
      → Contains (work_of joined flow unit a exit).opens (at, cause)
      → (pc_of (location_of unit) ≡ at) × analysis.Breaks (location_of unit) a cause
  opens_break breaks (One (At pc calls frame)) a None at cause formed h =
      location_opens pc calls frame a (breaks pc calls frame a formed) (flow.fetched pc) refl (at, cause) h
  opens_break breaks (One (At pc calls frame)) a (Some exit) at cause formed h = absurd formed
  opens_break breaks (One (Exit pc frame)) a exit at cause formed h = absurd formed
  opens_break breaks (Back (At pc calls frame) (Exit from (Irq vector (Some sp) level))) a (Some exit) at cause formed h =
      absurd (resumed_opens pc calls frame from sp a exit (at, cause) h)
  opens_break breaks (Back (At pc calls frame) (Exit from (Irq vector None level))) a (Some exit) at cause formed h =
      absurd (in_none (at, cause) h)
  opens_break breaks (Back (At pc calls frame) (Exit from Base)) a (Some exit) at cause formed h = absurd (in_none (at, cause) h)
  opens_break breaks (Back (At pc calls frame) (Exit from left)) a None at cause formed h = absurd formed
  opens_break breaks (Back (At pc calls frame) (At from others left)) a exit at cause formed h = absurd formed
  opens_break breaks (Back (Exit pc frame) other) a exit at cause formed h = absurd formed
