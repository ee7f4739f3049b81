-- The closing law: by induction on the number of steps, each state of a run stands under a location of a closed table.
-- The suspended states are carried as they stand: an instruction changes the state alone, an entry puts one in front,
-- and a return takes the first one off.
use Rattle.std.proofs.Common.{◌≡◌, ℕ, zero, suc, Option, None, Some, List, [], ◌∷◌, refl, sym, ◌∙◌, subst, inl, inr, arith}
use Rattle.std.specs.Prelude.{◌⊎◌, Contains}
use Rattle.call_context.specs.declared.node.Frame.{Frame}
use Rattle.call_context.specs.declared.node.Frame.TheVariants.{Base, Irq}
use Rattle.call_context.specs.declared.node.Node.{Node}
use Rattle.call_context.specs.declared.node.Node.TheVariants.{At, Exit}
use Rattle.call_context.specs.declared.node.Unit.TheVariants.{One, Back}
use Rattle.call_context.specs.Nodes.{pc_of, frame_of, IsLocation, HasEntry}
use Rattle.chip_analysis.specs.declared.chip.Work.{Work}
use Rattle.chip_analysis.specs.Analysis.{Analysis, AreFormed}
use Rattle.chip_analysis.specs.Orderly.{IsOrderly}
use Rattle.chip_law.specs.Laws.{Cover, IsLawful, Lands, Resumes, IsWaitedFor}
use Rattle.chip_law.specs.Laws.Lands.{stays, enters, leaves}
use Rattle.chip_law.specs.Machine.{Machine}
use Rattle.chip_law.specs.Runs.{RunsTo}
use Rattle.call_context.specs.Showing.{AreShowing}
use Rattle.chip_numbers.specs.Single.{Single}
use Rattle.chip_numbers.specs.Single.Single.{Edge}
use Rattle.chip_law.specs.Outcome.Outcome.{Next}
use Rattle.chip_analysis.specs.Table.{IsUnitOver, IsHeldIn, IsClosedTable, IsFormedTable, WaitsFor}
use Rattle.closing_law.specs.Covered.{StandsSomewhere, IsShown, CoversRuns}
use Rattle.closing_law.specs.Standing.{IsSuspended, Stands}

none_in : {X : Type 0} (x : X) → Contains [] x → ⊥
none_in x there = absurd (omega (arith, there.1))

-- a location with its state is a unit, and so is one that waits for the frame of an exit
unit_of_location : {A : Type 0} (m : Analysis A) (table : Node → Option A) (node : Node) (a : A) → IsLocation node → table node ≡ Some a
    → IsUnitOver m table (One node) a None
unit_of_location m table (At pc calls frame) a location held = held
unit_of_location m table (Exit pc frame) a location held = absurd location

unit_of_return : {A : Type 0} (m : Analysis A) (table : Node → Option A) (node : Node) (a : A) (pc : ℕ) (frame : Frame) (x : A)
    → IsLocation node
    → table node ≡ Some a → table (Exit pc frame) ≡ Some x → WaitsFor m table node a frame
    → IsUnitOver m table (Back node (Exit pc frame)) a (Some x)
unit_of_return m table (At at calls home) a pc frame x location held left waits = (held, left, waits)
unit_of_return m table (Exit at home) a pc frame x location held left waits = absurd location

formed_location : {A : Type 0} (m : Analysis A) (node : Node) (a : A) → IsLocation node → m.HasForm node a → AreFormed m (One node) a None
formed_location m (At pc calls frame) a location form = form
formed_location m (Exit pc frame) a location form = absurd location

formed_return : {A : Type 0} (m : Analysis A) (node : Node) (a : A) (pc : ℕ) (frame : Frame) (x : A) → IsLocation node → m.HasForm node a
    → m.HasForm (Exit pc frame) x → AreFormed m (Back node (Exit pc frame)) a (Some x)
formed_return m (At at calls home) a pc frame x location form left = (form, left)
formed_return m (Exit at home) a pc frame x location form left = absurd location

module _ {S A : Type 0} (machine : Machine S) (m : Analysis A) (covered : Cover S A) (laws : IsLawful machine m covered) (order : IsOrderly m)
    (table : Node → Option A) (formed : IsFormedTable m table) (closed : IsClosedTable m table) where
  -- the first of the suspended states
  abbrev first_of : List S → Option S
  first_of [] = None
  first_of (f ∷ fs) = Some f

  covers_of : (suspended : List S) (node : Node) (a : A) (s : S) → Stands m covered table suspended node a s
      → covered node a s (first_of suspended)
  covers_of [] node a s stands = stands.1
  covers_of (f ∷ fs) node a s stands = stands.0

  -- another state stands where this one does, under another node of the same frame that covers it
  stands_like : (suspended : List S) (node to : Node) (a b : A) (s t : S) → frame_of to ≡ frame_of node
      → Stands m covered table suspended node a s → covered to b t (first_of suspended)
      → Stands m covered table suspended to b t
  stands_like [] node to a b s t same stands covers = (same ∙ stands.0, covers)
  stands_like (f ∷ fs) node to a b s t same stands covers =
      (covers, subst (λ frame. IsSuspended m covered table frame (λ n c. Stands m covered table fs n c f)) (sym same) stands.1)

  -- a post's state is covered by what the table holds
  covers_held : (node : Node) (a : A) (s : S) (first : Option S) → m.HasForm node a → (held : IsHeldIn m table node a)
      → covered node a s first → covered node held.0 s first
  covers_held node a s first form held covers = laws.covers_more node a held.0 s first form (formed node held.0 held.1) held.2 covers

  -- what a step from a state that stands leads to
  record Goes (items : List Single) (t : S) : Type 0 where
    after : StandsSomewhere m covered table t
    shown : (item : Single) → Contains items item → IsShown m table item

  -- a handler is entered over the state that stands
  suspended_at : (work : Work A) (frame : Frame) (P : Node → A → Type 0) (node : Node) (a : A)
      → work ≡ m.work (One node) a None → IsLocation node → table node ≡ Some a → P node a → IsWaitedFor work frame
      → IsSuspended m covered table frame P
  suspended_at work Base P node a e location held p waited = waited
  suspended_at work (Irq vector None level) P node a e location held p waited = tt
  suspended_at work (Irq vector (Some sp) level) P node a e location held p waited =
      (node, a, location, held, subst (λ w. Contains w.waits (Irq vector (Some sp) level)) e waited, p)

  -- the return from an exit of a frame whose entry is known, over the suspended states
  returned : (frame : Frame) (pc : ℕ) (x : A) (t : S) (suspended : List S) (work : Work A) (items : List Single)
      → HasEntry frame → m.HasForm (Exit pc frame) x → table (Exit pc frame) ≡ Some x
      → covered (Exit pc frame) x t (first_of suspended) → (node : Node) (a : A) (s : S) → frame_of node ≡ frame
      → Stands m covered table suspended node a s
      → (node_is : IsLocation node) → table node ≡ Some a → work ≡ m.work (One node) a None
      → ((item : Single) → Contains items item → AreShowing work.items item ⊎ (item ≡ Edge pc (machine.pc t)))
      → Goes items t
  returned Base pc x t suspended work items entry form held covers node a s same stands location there own shows = absurd entry
  returned (Irq vector None level) pc x t suspended work items entry form held covers node a s same stands location there own shows = absurd entry
  returned (Irq vector (Some sp) level) pc x t [] work items entry form held covers node a s same stands location there own shows =
      let e : Base ≡ Irq vector (Some sp) level = sym stands.0 ∙ same in absurd (cc)
  returned (Irq vector (Some sp) level) pc x t (f ∷ fs) work items entry form held covers node a s same stands location there own shows =
      let frame = Irq vector (Some sp) level in
      let below : IsSuspended m covered table frame (λ n c. Stands m covered table fs n c f) = subst (λ fr. IsSuspended m covered table fr (λ n c. Stands m covered table fs n c f)) same stands.1 in
      let home = below.0 in
      let b = below.1 in
      let exit = Exit pc frame in
      let not_location : ¬ IsLocation exit = λ h. h in
      let back = m.work (Back home exit) b (Some x) in
      let is_back = unit_of_return m table home b pc frame x below.2 below.3 held below.4 in
      let resumes : Resumes machine m covered home exit back (first_of fs) t =
      laws.return_resumes home exit b x f (first_of fs) t below.2 not_location (formed home b below.3) form (covers_of fs home b f below.5) covers in
      let more : IsHeldIn m table home resumes.state = closed.posts_held (Back home exit) b (Some x) home resumes.state is_back resumes.posted in
      let post_form : m.HasForm home resumes.state =
      order.keeps.posts (Back home exit) b (Some x) home resumes.state (formed_return m home b pc frame x below.2 (formed home b below.3) form) resumes.posted in
      record {
        after = record {
          node = home;
          state = more.0;
          suspended = fs;
          is_location = below.2;
          is_held = more.1;
          stands = stands_like fs home home b more.0 f t refl below.5 (covers_held home resumes.state t (first_of fs) post_form more resumes.covered);
        };
        shown = λ item contains. elim (shows item contains) [
          | inl by_work ↦ record {
            unit = One node;
            at = a;
            exit = None;
            is_unit = unit_of_location m table node a location there;
            shows = subst (λ (w : Work A). AreShowing w.items item) own by_work;
          }
          | inr edge ↦ record {
            unit = Back home exit;
            at = b;
            exit = Some x;
            is_unit = is_back;
            shows = subst (AreShowing back.items) (sym edge) resumes.shows;
          }
        ];
      }

  -- what holds the post of a location's work, and covers what the post covers
  record HeldPost (to : Node) (state : A) : Type 0 where
    more : IsHeldIn m table to state
    covers : (t : S) (first : Option S) → covered to state t first → covered to more.0 t first

  held_post : (node : Node) (a : A) → IsLocation node → table node ≡ Some a → (to : Node) (state : A)
      → Contains (m.work (One node) a None).posts (to, state)
      → HeldPost to state
  held_post node a location held to state posted =
      let more : IsHeldIn m table to state = closed.posts_held (One node) a None to state (unit_of_location m table node a location held) posted in
      let form : m.HasForm to state = order.keeps.posts (One node) a None to state (formed_location m node a location (formed node a held)) posted in
      record { more = more; covers = λ t first covers. covers_held to state t first form more covers }

  -- a state stands under a location whose post is held
  stands_at : (to : Node) (state : A) (post : HeldPost to state) (suspended : List S) (t : S) → IsLocation to
      → Stands m covered table suspended to post.more.0 t → StandsSomewhere m covered table t
  stands_at to state post suspended t location stands =
      record { node = to; state = post.more.0; suspended = suspended; is_location = location; is_held = post.more.1; stands = stands }

  -- what a location's work shows
  shown_at : (node : Node) (a : A) → IsLocation node → table node ≡ Some a → (items : List Single)
      → ((item : Single) → Contains items item → AreShowing (m.work (One node) a None).items item) → (item : Single)
      → Contains items item → IsShown m table item
  shown_at node a location held items shows item contains =
      record { unit = One node; at = a; exit = None; is_unit = unit_of_location m table node a location held; shows = shows item contains }

  -- where a step lands, the next state stands
  goes_on : (node : Node) (a : A) (s : S) (suspended : List S) (items : List Single) (t : S) → IsLocation node
      → table node ≡ Some a → Stands m covered table suspended node a s
      → Lands machine m covered node (m.work (One node) a None) s (first_of suspended) items t → Goes items t
  goes_on node a s suspended items t location held stands (stays to state posted to_location same covers shows) =
      let post = held_post node a location held to state posted in
      let still = stands_like suspended node to a post.more.0 s t same stands (post.covers t (first_of suspended) covers) in
      record { after = stands_at to state post suspended t to_location still; shown = shown_at node a location held items shows }
  goes_on node a s suspended items t location held stands (enters to state posted to_location waited entry covers shows) =
      let post = held_post node a location held to state posted in
      let below = suspended_at (m.work (One node) a None) (frame_of to) (λ n b. Stands m covered table suspended n b s) node a refl location held stands waited in
      record {
        after = stands_at to state post (s ∷ suspended) t to_location (post.covers t (Some s) covers, below);
        shown = shown_at node a location held items shows;
      }
  goes_on node a s suspended items t location held stands (leaves state posted covers shows) =
      let exit = Exit (pc_of node) (frame_of node) in
      let post = held_post node a location held exit state posted in
      let form : m.HasForm exit post.more.0 = formed exit post.more.0 post.more.1 in
      returned (frame_of node) (pc_of node) post.more.0 t suspended (m.work (One node) a None) items (order.exit_form exit post.more.0 (λ h. h) form) form post.more.1
      (post.covers t (first_of suspended) covers) node a s refl stands location held refl shows

  -- a step from a state that stands somewhere
  steps_on : (s : S) (items : List Single) (t : S) → (at : StandsSomewhere m covered table s) → machine.Step s (Next items t) → Goes items t
  steps_on s items t at step =
      let first = first_of at.suspended in
      let form = formed at.node at.state at.is_held in
      let covers = covers_of at.suspended at.node at.state s at.stands in
      let no_open = closed.no_open (One at.node) at.state None (unit_of_location m table at.node at.state at.is_location at.is_held) in
      goes_on at.node at.state s at.suspended items t at.is_location at.is_held at.stands
      (laws.step_lands at.node at.state s first items t at.is_location form covers step no_open)

  all_stand : (n : ℕ) (s : S) → RunsTo machine n s → StandsSomewhere m covered table s
  all_stand zero s reset =
      let more = closed.started in
      record {
        node = m.first_node;
        state = more.0;
        suspended = [];
        is_location = laws.first_is_location;
        is_held = more.1;
        stands = (laws.first_frame, covers_held m.first_node m.first_state s None order.keeps.start more (laws.covers_reset s reset));
      }
  all_stand (suc n) t run = (steps_on run.0 run.1 t (all_stand n run.0 run.2) run.3).after

  pub covers_runs_lem : CoversRuns machine m covered table
  covers_runs_lem = record {
    stands = all_stand;
    shows = λ n item met. (steps_on met.0 met.1 met.2 (all_stand n met.0 met.3) met.4).shown item met.5;
    stays = λ n wild.
        let at = all_stand n wild.0 wild.2 in
        let work = m.work (One at.node) at.state None in
        let told = laws.wild_is_told at.node at.state wild.0 (first_of at.suspended) wild.1 at.is_location (formed at.node at.state at.is_held)
        (covers_of at.suspended at.node at.state wild.0 at.stands) wild.3 in
        none_in told.0 (subst (λ os. Contains os told.0)
        (closed.no_open (One at.node) at.state None (unit_of_location m table at.node at.state at.is_location at.is_held)) told.1);
  }
