-- What works post has the form of its node.
use Rattle.std.proofs.Common.{◌≡◌, true, ℕ, Option, None, Some, List, [], ◌∷◌, refl, sym, ap, subst, inl, inr, Contains}
use Rattle.std.specs.Prelude.{map}
use Rattle.std.proofs.lemmas.Bool.{cond_both}
use Rattle.std.proofs.lemmas.List.Elements.{Contains-append_cases}
use Rattle.call_context.specs.declared.node.Frame.{Frame}
use Rattle.call_context.specs.declared.node.Frame.TheVariants.{Base, Irq}
use Rattle.call_context.specs.declared.node.Node.{Node}
use Rattle.call_context.specs.declared.node.Node.TheVariants.{At, Exit}
use Rattle.call_context.specs.declared.node.Unit.{Unit as WorkUnit}
use Rattle.call_context.specs.declared.node.Unit.TheVariants.{One, Back}
use Rattle.call_context.specs.declared.shown.Item.TheVariants.{Edge}
use Rattle.chip_analysis.specs.declared.chip.Work.{Work}
use Rattle.chip_analysis.specs.Analysis.{Analysis, AreFormed}
use Rattle.plain_lemmas.specs.Members.{from_map, in_none, in_one}
use Rattle.unit_ways.specs.Laws.{WayLaws}
use Rattle.unit_ways.specs.Ways.{Going, Way, ways_of, ways_to}
use Rattle.chip_flow.specs.Calls.{Site, calls_at}
use Rattle.chip_flow.specs.Flow.{Flow}
use Rattle.chip_flow.specs.Going.{along, going_by, ways_in}
use Rattle.chip_flow.specs.Works.{entry_post, may_be, nothing, resumption, site_of, work_at, work_of}
use Rattle.chip_flow.specs.declared.going.Onward.{Onward}
use Rattle.chip_flow.specs.declared.going.Onward.TheVariants as onward

-- what holds of each way, and of the exit, holds of what an instruction posts
module _ {A : Type 0} (laws : WayLaws A) (joined : A → A → A) (site : Site) (Is : Node × A → Type 0) where
  abbrev EachWay : List (Way A) → Type 0
  EachWay ways = (way : Way A) → Contains ways way → Is (At way.0 (calls_at site way.0) site.frame, way.1)

  along_ways : (ways : List (Way A)) → EachWay ways → (post : Node × A) → Contains (along joined site ways).posts post → Is post
  along_ways ways each (to, state) h =
      let (way, there, goes, known) = laws.way (calls_at site) site.frame ways to state h in
      subst (λ n. Is (n, state)) (sym goes) (subst (λ b. Is (At way.0 (calls_at site way.0) site.frame, b)) (sym known) (each way there))

  going_posts : (made : Onward A) → EachWay (ways_in joined made) → ((a : A) → made ≡ onward.Leaves a → Is (Exit site.pc site.frame, a))
      → (post : Node × A) → Contains (going_by joined site made).posts post → Is post
  going_posts (onward.Leaves a) each left post h = subst Is (in_one (Exit site.pc site.frame, a) post h) (left a refl)
  going_posts (onward.Open targets) each left post h = absurd (in_none post h)
  going_posts (onward.Lands targets a) each left post h = along_ways (ways_to targets a) each post h
  going_posts (onward.Jumps behind target on jumped) each left post h = along_ways (ways_of joined behind target on jumped) each post h

module _ {A I C : Type 0} (analysis : Analysis A) (joined : A → A → A) (flow : Flow A I C) where
  abbrev IsPost : Node × A → Type 0
  IsPost post = analysis.HasForm post.0 post.1

  -- what a location posts is in form, by its state
  pub record FormsPosts (pc : ℕ) (calls : List ℕ) (frame : Frame) (a : A) : Type 0 where
    pub entry : (coming : C) → Contains (flow.comings a) coming → IsPost (entry_post flow pc a coming)
    pub way : (instr : I) → flow.fetched pc ≡ Some instr → (way : Way A)
        → Contains (ways_in joined (flow.followed frame a pc instr).onward) way
        → IsPost (At way.0 (calls_at (site_of flow pc calls frame instr) way.0) frame, way.1)
    pub left : (instr : I) → flow.fetched pc ≡ Some instr → (b : A)
        → (flow.followed frame a pc instr).onward ≡ onward.Leaves b → IsPost (Exit pc frame, b)

  module _ (laws : WayLaws A) (pc : ℕ) (calls : List ℕ) (frame : Frame) (a : A) (forms : FormsPosts pc calls frame a) where
    entry_posts : (post : Node × A) → Contains (map (entry_post flow pc a) (flow.comings a)) post → IsPost post
    entry_posts post h = let (coming, listed, same) = from_map (entry_post flow pc a) (flow.comings a) post h in subst IsPost same (forms.entry coming listed)

    location_posts : (found : Option I) → flow.fetched pc ≡ found → (post : Node × A)
        → Contains (work_at joined flow pc calls frame a found).posts post → IsPost post
    location_posts None is post h = entry_posts post h
    location_posts (Some instr) is post h =
        let made = flow.followed frame a pc instr in
        elim (Contains-append_cases (map (entry_post flow pc a) (flow.comings a)) (going_by joined (site_of flow pc calls frame instr) made.onward).posts post h) [
          | inl coming ↦ entry_posts post coming
          | inr going ↦ going_posts laws joined (site_of flow pc calls frame instr) IsPost made.onward (forms.way instr is) (forms.left instr is) post going
        ]

  pub record FormsAll : Type 0 where
    pub location : (pc : ℕ) (calls : List ℕ) (frame : Frame) (a : A) → analysis.HasForm (At pc calls frame) a → FormsPosts pc calls frame a
    pub resumed : (pc : ℕ) (calls : List ℕ) (frame : Frame) (from vector sp level : ℕ) (a x : A) → analysis.HasForm (At pc calls frame) a
        → analysis.HasForm (Exit from (Irq vector (Some sp) level)) x → IsPost (At pc calls frame, flow.resumed frame a pc sp x)

  module _ (laws : WayLaws A) (forms : FormsAll) where
    resumed_posts : (pc : ℕ) (calls : List ℕ) (frame : Frame) (from sp : ℕ) (a x : A) (post : Node × A)
        → IsPost (At pc calls frame, flow.resumed frame a pc sp x)
        → Contains (resumption flow pc calls frame from sp a x).posts post → IsPost post
    resumed_posts pc calls frame from sp a x post form h =
        let own : Node × A = (At pc calls frame, flow.resumed frame a pc sp x) in
        let full : Work A = record { items = Edge from pc ∷ []; posts = own ∷ []; waits = []; opens = [] } in
        cond_both (may_be (flow.stack a) sp) full nothing (λ (work : Work A). Contains work.posts post → IsPost post)
        (λ _ there. subst IsPost (in_one own post there) form) (λ _ none. absurd (in_none post none)) h

    pub posts_formed : (unit : WorkUnit) (a : A) (exit : Option A) (to : Node) (state : A) → AreFormed analysis unit a exit
        → Contains (work_of joined flow unit a exit).posts (to, state) → analysis.HasForm to state
    posts_formed (One (At pc calls frame)) a None to state formed h =
        location_posts laws pc calls frame a (forms.location pc calls frame a formed) (flow.fetched pc) refl (to, state) h
    posts_formed (One (At pc calls frame)) a (Some exit) to state formed h = absurd formed
    posts_formed (One (Exit pc frame)) a exit to state formed h = absurd formed
    posts_formed (Back (At pc calls frame) (Exit from (Irq vector (Some sp) level))) a (Some exit) to state formed h =
        resumed_posts pc calls frame from sp a exit (to, state) (forms.resumed pc calls frame from vector sp level a exit formed.0 formed.1) h
    posts_formed (Back (At pc calls frame) (Exit from (Irq vector None level))) a (Some exit) to state formed h = absurd (in_none (to, state) h)
    posts_formed (Back (At pc calls frame) (Exit from Base)) a (Some exit) to state formed h = absurd (in_none (to, state) h)
    posts_formed (Back (At pc calls frame) (Exit from left)) a None to state formed h = absurd formed
    posts_formed (Back (At pc calls frame) (At from others left)) a exit to state formed h = absurd formed
    posts_formed (Back (Exit pc frame) other) a exit to state formed h = absurd formed
