-- Where steps land among the posts of the work of a location.
use Rattle.std.proofs.Common.{◌≡◌, ◌⊎◌, ◌++◌, ℕ, Bool, true, false, Option, None, Some, List, [], ◌∷◌, append_assoc, refl, sym, ap, ◌∙◌, subst, inl, inr, Contains}
use Rattle.std.specs.Prelude.{map}
use Rattle.std.specs.List.{flat_map, list_all}
use Rattle.std.proofs.lemmas.Bool.{and_parts, false≢true}
use Rattle.std.proofs.lemmas.List.Elements.{Contains-append_left, Contains-append_right, Contains-append_cases}
use Rattle.call_context.specs.declared.node.Frame.{Frame}
use Rattle.call_context.specs.declared.node.Frame.TheVariants.{Base, Irq}
use Rattle.call_context.specs.declared.node.Node.{Node}
use Rattle.call_context.specs.declared.node.Node.TheVariants.{At, Exit}
use Rattle.call_context.specs.declared.shown.Item.{Item}
use Rattle.call_context.specs.declared.shown.Item.TheVariants as items
use Rattle.call_context.specs.Showing.{AreShowing, HasValue}
use Rattle.chip_numbers.specs.Single.{Single}
use Rattle.chip_numbers.specs.Single.Single.{Access as Read, Instr as Ran, Edge as Went, Stack as Stood}
use Rattle.chip_analysis.specs.declared.chip.Work.{Work}
use Rattle.chip_analysis.specs.Analysis.{Analysis}
use Rattle.chip_law.specs.Laws.{Cover, IsEntry, IsWaitedFor, Lands}
use Rattle.chip_law.specs.Laws.Lands.{enters, leaves, stays}
use Rattle.chip_law.specs.Machine.{Machine}
use Rattle.value_set.specs.declared.form.Form.{Form}
use Rattle.plain_lemmas.specs.Members.{in_cons, in_first, in_flat_map, in_map, in_none, in_one, in_rest}
use Rattle.unit_ways.specs.Laws.{WayLaws}
use Rattle.unit_ways.specs.Ways.{Way, ways_of, ways_to}
use Rattle.chip_flow.specs.Calls.{Site, calls_at}
use Rattle.chip_flow.specs.Flow.{Flow}
use Rattle.chip_flow.specs.Going.{going_by, ways_in}
use Rattle.chip_flow.specs.Works.{entering, entry_post, entry_waits, site_of, store_opens, waits_for, work_at, work_by}
use Rattle.chip_flow.specs.declared.going.Followed.{Followed}
use Rattle.chip_flow.specs.declared.going.Onward.{Onward}
use Rattle.chip_flow.specs.declared.going.Onward.TheVariants as onward

-- WHAT IS SHOWN

-- what shows some items is among more of them
more_shown : (some all : List Item) (single : Single) → ((item : Item) → Contains some item → Contains all item)
    → AreShowing some single → AreShowing all single
more_shown some all single within (item, there, shows) = (item, within item there, shows)

-- what a step of an instruction shows
abbrev pub step_singles : (pc sp : ℕ) → (bytes : List ℕ) → (accesses : List Single) → (to : ℕ) → List Single
step_singles pc sp bytes accesses to = Stood pc sp ∷ Ran pc bytes ∷ accesses ++ Went pc to ∷ []

-- the item is something else than an instruction
abbrev pub is_other : Single → Bool
is_other (Stood pc sp) = true
is_other (Ran pc bytes) = false
is_other (Read pc space write size address) = true
is_other (Went origin target) = true

-- a step of which each item is something else runs no instruction
pub others_alone : (items : List Single) → list_all is_other items ≡ true → IsEntry items
others_alone [] all pc bytes there = in_none (Ran pc bytes) there
others_alone (single ∷ items) all pc bytes there =
    let parts = and_parts (is_other single) (list_all is_other items) all in
    elim (in_cons single items (Ran pc bytes) there) [
      | inl same ↦ absurd (false≢true (subst (λ item. is_other item ≡ true) same parts.0))
      | inr rest ↦ others_alone items parts.1 pc bytes rest
    ]

stood_in_front : (pc sp : ℕ) (others : List Single) → IsEntry others → IsEntry (Stood pc sp ∷ others)
stood_in_front pc sp others entry at bytes there = elim (in_cons (Stood pc sp) others (Ran at bytes) there) [
  | inl same ↦ absurd (cc)
  | inr rest ↦ entry at bytes rest
]

-- WHERE AN INSTRUCTION GOES ON

-- each of its ways is an edge and a post
module _ {A : Type 0} (laws : WayLaws A) (joined : A → A → A) (site : Site) where
  way_edge : (made : Onward A) (way : Way A) → Contains (ways_in joined made) way
      → Contains (going_by joined site made).edges (items.Edge site.pc way.0)
  way_edge (onward.Leaves a) way h = absurd (in_none way h)
  way_edge (onward.Open targets) way h = absurd (in_none way h)
  way_edge (onward.Lands targets a) way h = laws.edge site.pc (ways_to targets a) way h
  way_edge (onward.Jumps behind target on jumped) way h = laws.edge site.pc (ways_of joined behind target on jumped) way h

  way_post : (made : Onward A) (way : Way A) → Contains (ways_in joined made) way
      → Contains (going_by joined site made).posts (At way.0 (calls_at site way.0) site.frame, way.1)
  way_post (onward.Leaves a) way h = absurd (in_none way h)
  way_post (onward.Open targets) way h = absurd (in_none way h)
  way_post (onward.Lands targets a) way h = laws.post (calls_at site) site.frame (ways_to targets a) way h
  way_post (onward.Jumps behind target on jumped) way h =
      laws.post (calls_at site) site.frame (ways_of joined behind target on jumped) way h

-- what stands in front and behind is empty where all is
parts_none : {X : Type 0} (xs ys : List X) → xs ++ ys ≡ [] → (xs ≡ []) × (ys ≡ [])
parts_none [] ys e = (refl, e)
parts_none (x ∷ xs) ys e = absurd (cc)

module _ {A I C S : Type 0} (machine : Machine S) (analysis : Analysis A) (covers : Cover S A) (joined : A → A → A) (flow : Flow A I C) where
  -- where the state behind an instruction stands: on one of its ways, or at the exit of its frame; where none is followed no way has it
  pub data Arrives (site : Site) (made : Onward A) (first : Option S) (t : S) : Type 0 where
    on_way : (way : Way A) → Contains (ways_in joined made) way → machine.pc t ≡ way.0
        → covers (At way.0 (calls_at site way.0) site.frame) way.1 t first → Arrives site made first t
    at_exit : (a : A) → made ≡ onward.Leaves a → covers (Exit site.pc site.frame) a t first → Arrives site made first t
    beyond : (targets : Form) → made ≡ onward.Open targets → Arrives site made first t

  -- at a location where an instruction stands
  module _ (laws : WayLaws A) (pc : ℕ) (calls : List ℕ) (frame : Frame) (a : A) (instr : I) (made : Followed A) where
    abbrev site_so : Site
    site_so = site_of flow pc calls frame instr

    abbrev work_so : Work A
    work_so = work_by joined flow pc calls frame a instr made

    abbrev front_so : List Item
    front_so = (entering flow pc a made.accesses).items

    abbrev own_so : List Item
    own_so = items.Instr pc (flow.bytes instr) ∷ (going_by joined site_so made.onward).edges

    shown : (sp to : ℕ) (accesses : List Single) → HasValue (flow.stack a) sp
        → ((single : Single) → Contains accesses single → AreShowing made.accesses single)
        → (single : Single) → Contains (step_singles pc sp (flow.bytes instr) accesses to) single
        → AreShowing work_so.items single ⊎ (single ≡ Went pc to)
    shown sp to accesses on_stack shows single there =
        let stack = items.Stack pc (flow.stack a) in
        let entries = flat_map (flow.entry_items pc) (flow.comings a) in
        let own = items.Instr pc (flow.bytes instr) in
        let edges = (going_by joined site_so made.onward).edges in
        let last = Went pc to in
        let ran = Ran pc (flow.bytes instr) in
        elim (in_cons (Stood pc sp) (ran ∷ accesses ++ last ∷ []) single there) [
          | inl same ↦ inl (subst (AreShowing work_so.items) same
              (stack, Contains-append_left front_so own_so stack (Contains-append_right made.accesses (stack ∷ entries) stack (in_first stack entries)), (refl, on_stack)))
          | inr others ↦ elim (in_cons ran (accesses ++ last ∷ []) single others) [
            | inl same ↦ inl (subst (AreShowing work_so.items) same (own, Contains-append_right front_so own_so own (in_first own edges), (refl, refl)))
            | inr more ↦ elim (Contains-append_cases accesses (last ∷ []) single more) [
              | inl access ↦ inl (more_shown made.accesses work_so.items single
                  (λ item here. Contains-append_left front_so own_so item (Contains-append_left made.accesses (stack ∷ entries) item here)) (shows single access))
              | inr end ↦ inr (sym (in_one last single end))
            ]
          ]
        ]

    -- a post of the instruction is one of the work, and so is an edge
    post_in : (post : Node × A) → Contains (going_by joined site_so made.onward).posts post → Contains work_so.posts post
    post_in post there = Contains-append_right (map (entry_post flow pc a) (flow.comings a)) (going_by joined site_so made.onward).posts post there

    edge_shown : (to : ℕ) → Contains (going_by joined site_so made.onward).edges (items.Edge pc to) → AreShowing work_so.items (Went pc to)
    edge_shown to there =
        let edge = items.Edge pc to in
        let edges = (going_by joined site_so made.onward).edges in
        (edge, Contains-append_right front_so own_so edge (in_rest (items.Instr pc (flow.bytes instr)) edges edge there), (refl, refl))

    -- a work that leaves nothing open follows all
    not_beyond : (targets : Form) → made.onward ≡ onward.Open targets → work_so.opens ≡ [] → ⊥
    not_beyond targets is none =
        let pushes = flat_map (flow.entry_opens pc) (flow.comings a) in
        let going = (going_by joined site_so made.onward).opens in
        let own = (parts_none pushes (going ++ store_opens pc made.store) (sym (append_assoc pushes going (store_opens pc made.store)) ∙ none)).1 in
        let empty = sym (ap (λ (o : Onward A). (going_by joined site_so o).opens) is) ∙ (parts_none going (store_opens pc made.store) own).0 in
        absurd (cc)

    pub run_lands : (s : S) (first : Option S) (sp : ℕ) (accesses : List Single) (t : S) → HasValue (flow.stack a) sp
        → ((single : Single) → Contains accesses single → AreShowing made.accesses single)
        → Arrives site_so made.onward first t → work_so.opens ≡ []
        → Lands machine analysis covers (At pc calls frame) work_so s first (step_singles pc sp (flow.bytes instr) accesses (machine.pc t)) t
    run_lands s first sp accesses t on_stack shows (on_way way there goes covered) none =
        stays (At way.0 (calls_at site_so way.0) frame) way.1 (post_in (At way.0 (calls_at site_so way.0) frame, way.1) (way_post laws joined site_so made.onward way there)) tt refl covered
        (λ single listed. elim (shown sp (machine.pc t) accesses on_stack shows single listed) [
          | inl seen ↦ seen
          | inr last ↦ subst (AreShowing work_so.items) (ap (Went pc) (sym goes) ∙ sym last) (edge_shown way.0 (way_edge laws joined site_so made.onward way there))
        ])
    run_lands s first sp accesses t on_stack shows (at_exit state is covered) none =
        let post : Node × A = (Exit pc frame, state) in
        leaves state (post_in post (subst (λ (o : Onward A). Contains (going_by joined site_so o).posts post) (sym is) (in_first post []))) covered
        (shown sp (machine.pc t) accesses on_stack shows)
    run_lands s first sp accesses t on_stack shows (beyond targets is) none = absurd (not_beyond targets is none)

  -- WHERE AN INTERRUPT LANDS

  -- at a location, whatever stands there
  module _ (pc : ℕ) (calls : List ℕ) (frame : Frame) (a : A) where
    entry_in : (found : Option I) (coming : C) → Contains (flow.comings a) coming
        → Contains (work_at joined flow pc calls frame a found).posts (entry_post flow pc a coming)
    entry_in None coming listed = in_map (entry_post flow pc a) (flow.comings a) coming listed
    entry_in (Some instr) coming listed =
        Contains-append_left (map (entry_post flow pc a) (flow.comings a)) (going_by joined (site_of flow pc calls frame instr) (flow.followed frame a pc instr).onward).posts
        (entry_post flow pc a coming) (in_map (entry_post flow pc a) (flow.comings a) coming listed)

    -- what the entries show stands beside SP
    front_in : (found : Option I) (item : Item)
        → Contains (items.Stack pc (flow.stack a) ∷ flat_map (flow.entry_items pc) (flow.comings a)) item
        → Contains (work_at joined flow pc calls frame a found).items item
    front_in None item there = there
    front_in (Some instr) item there =
        let made = flow.followed frame a pc instr in
        let front = items.Stack pc (flow.stack a) ∷ flat_map (flow.entry_items pc) (flow.comings a) in
        Contains-append_left (made.accesses ++ front) (items.Instr pc (flow.bytes instr) ∷ (going_by joined (site_of flow pc calls frame instr) made.onward).edges) item
        (Contains-append_right made.accesses front item there)

    waits_are : (found : Option I) → (work_at joined flow pc calls frame a found).waits ≡ flat_map (entry_waits flow) (flow.comings a)
    waits_are None = refl
    waits_are (Some instr) = refl

    -- a frame with a stack pointer is waited for
    waited : (work : Work A) (coming : C) (its : Frame) → work.waits ≡ flat_map (entry_waits flow) (flow.comings a)
        → Contains (flow.comings a) coming
        → flow.frame_of coming ≡ its → (its ≡ Base → ⊥) → IsWaitedFor work its
    waited work coming Base is listed same irq = absurd (irq refl)
    waited work coming (Irq vector None level) is listed same irq = tt
    waited work coming (Irq vector (Some sp) level) is listed same irq =
        let own = Irq vector (Some sp) level in
        subst (λ all. Contains all own) (sym is) (in_flat_map (entry_waits flow) (flow.comings a) coming own listed
        (subst (λ all. Contains all own) (sym (ap waits_for same)) (in_first own [])))

    -- those of one interrupt are among those of all
    stack_or_entry : (coming : C) (item : Item) → Contains (flow.comings a) coming
        → Contains (items.Stack pc (flow.stack a) ∷ flow.entry_items pc coming) item
        → Contains (items.Stack pc (flow.stack a) ∷ flat_map (flow.entry_items pc) (flow.comings a)) item
    stack_or_entry coming item listed there =
        let stack = items.Stack pc (flow.stack a) in
        let all = flat_map (flow.entry_items pc) (flow.comings a) in
        elim (in_cons stack (flow.entry_items pc coming) item there) [
          | inl same ↦ subst (Contains (stack ∷ all)) same (in_first stack all)
          | inr one ↦ in_rest stack all item (in_flat_map (flow.entry_items pc) (flow.comings a) coming item listed one)
        ]

    pub entry_lands : (found : Option I) (s : S) (first : Option S) (coming : C) (sp : ℕ) (others : List Single) (t : S)
        → Contains (flow.comings a) coming → (flow.frame_of coming ≡ Base → ⊥)
        → HasValue (flow.stack a) sp → covers (At (flow.handler coming) [] (flow.frame_of coming)) (flow.entered a pc coming) t (Some s)
        → IsEntry others → ((single : Single) → Contains others single → AreShowing (flow.entry_items pc coming) single)
        → Lands machine analysis covers (At pc calls frame) (work_at joined flow pc calls frame a found) s first (Stood pc sp ∷ others) t
    entry_lands found s first coming sp others t listed irq on_stack covered entry shows =
        let work = work_at joined flow pc calls frame a found in
        let stack = items.Stack pc (flow.stack a) in
        let own = flow.entry_items pc coming in
        let within : (item : Item) → Contains (stack ∷ own) item → Contains work.items item = λ item here. front_in found item (stack_or_entry coming item listed here) in
        enters (At (flow.handler coming) [] (flow.frame_of coming)) (flow.entered a pc coming) (entry_in found coming listed) tt
        (waited work coming (flow.frame_of coming) (waits_are found) listed refl irq)
        (stood_in_front pc sp others entry) covered
        (λ single there. elim (in_cons (Stood pc sp) others single there) [
          | inl same ↦ subst (AreShowing work.items) same (stack, within stack (in_first stack own), (refl, on_stack))
          | inr other ↦ more_shown own work.items single (λ item here. within item (in_rest stack own item here)) (shows single other)
        ])
