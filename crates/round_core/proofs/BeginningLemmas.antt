-- Parts that begin with nodes and works that are known.
use Rattle.std.specs.Prelude.{◌≡◌, ℕ, Bool, true, false, if◌then◌else◌, Option, None, Some, List, [], ◌∷◌, map, length, unwrap_or, option_and_then}
use Rattle.std.specs.List.{list_any}
use Rattle.std.specs.Option.{option_map}
use Rattle.std.proofs.Common.{refl, sym, ◌∙◌, ap, subst, inl, inr}
use Rattle.call_context.specs.declared.node.Frame.{Frame}
use Rattle.call_context.specs.declared.node.Node.{Node}
use Rattle.call_context.specs.declared.node.Node.TheVariants.{At, Exit}
use Rattle.call_context.specs.declared.node.Unit.{Unit as WorkUnit}
use Rattle.call_context.specs.declared.node.Unit.TheVariants as unit
use Rattle.chip_analysis.specs.declared.chip.Work.{Work}
use Rattle.book_rules.specs.Same.{same_frame, same_node, same_unit}
use Rattle.book_rules.specs.SameTests.{same_node-eq, same_unit-eq}
use Rattle.book_rules.specs.declared.versions.Versions.{Versions}
use Rattle.book_rules.specs.Machine.{Held, Done, done_at, held_at, inputs_of, place_of, waits_for, with_done, with_held, IsUnit}
use Rattle.book_rules.specs.Sound.{AreDoneOnce, IsThere}
use Rattle.round_core.specs.declared.agenda.Agenda.{Agenda}
use Rattle.round_core.specs.declared.parts.Parts.{Parts}
use Rattle.round_core.specs.declared.place.Place.TheVariants as place
use Rattle.round_core.specs.Agenda.{AreDifferent, IsIn, places_in}
use Rattle.round_core.specs.Expected.{Grows, ExpectsNode, ExpectsUnit}
use Rattle.round_core.specs.Raise.{place_for}
use Rattle.round_core.specs.Renewal.{first_done, first_rise, state_of, with_rows, with_works, IsBeginning, Knows, KnowsWait}
use Rattle.round_core.specs.Shown.{AreDistinct, IsExpected, Shows}
use Rattle.round_core.specs.Turns.{place_out}
use Rattle.round_core.proofs.Cases.{truth, if_false, map_some}
use Rattle.round_core.proofs.ClaimLemmas.{place-held}
use Rattle.round_core.proofs.OutLemmas.{same_unit-sym}
use Rattle.round_core.proofs.PostLemmas.{done_at-same, done_at-other}
use Rattle.round_core.proofs.RaiseLemmas.{same_node-sym}
use Rattle.round_core.proofs.RaisedLemmas.{place-own, place-beside}
use Rattle.round_core.proofs.WaitLemmas.{any-in}

same_at : (a c : ℕ) (o : Option ℕ) → o ≡ Some a → o ≡ Some c → c ≡ a
same_at a c o e f = let g : Some c ≡ Some a = sym f ∙ e in cc

if_none : (X : Type 0) (b : Bool) (x : X) (o : Option X) → (if b then Some x else o) ≡ None → (b ≡ false) × (o ≡ None)
if_none X true x o e = absurd (cc)
if_none X false x o e = (refl, e)

known-later : (old new : Agenda) (n : Node) (at : ℕ) → Grows old new → Knows old n at → Knows new n at
known-later old new (At pc calls frame) at g k = g.candidates _ k
known-later old new (Exit pc frame) at g k = g.exits frame at k

module _ {A : Type 0} where
  -- ROWS IN A ROW

  rows-head : (h : Held A) (hs : List (Held A)) (rows : List (Node × A)) → held_at (map first_rise rows) h.node ≡ None
      → with_rows (h ∷ hs) rows ≡ h ∷ with_rows hs rows
  rows-head h hs [] none = refl
  rows-head h hs (row ∷ rows) none =
      let n = if_none (Held A) (same_node h.node row.0) (first_rise row) (held_at (map first_rise rows) h.node) none in
      ap (λ t. with_rows t rows) (if_false _ _ _ (same_node-sym h.node row.0 n.0)) ∙ rows-head h (with_held hs (first_rise row)) rows n.1

  pub rows-are : (rows : List (Node × A)) → AreDistinct (map first_rise rows) → with_rows [] rows ≡ map first_rise rows
  rows-are [] d = refl
  rows-are (row ∷ rows) d = rows-head (first_rise row) [] rows d.0 ∙ ap (λ t. first_rise row ∷ t) (rows-are rows d.1)

  works-head : (d : Done A) (ds : List (Done A)) (pairs : List (WorkUnit × Work A)) → done_at (map first_done pairs) d.unit ≡ None
      → with_works (d ∷ ds) pairs ≡ d ∷ with_works ds pairs
  works-head d ds [] none = refl
  works-head d ds (pair ∷ pairs) none =
      let n = if_none (Done A) (same_unit d.unit pair.0) (first_done pair) (done_at (map first_done pairs) d.unit) none in
      ap (λ t. with_works t pairs) (if_false _ _ _ (same_unit-sym d.unit pair.0 n.0)) ∙ works-head d (with_done ds (first_done pair)) pairs n.1

  pub works-are : (pairs : List (WorkUnit × Work A)) → AreDoneOnce (map first_done pairs) → with_works [] pairs ≡ map first_done pairs
  works-are [] o = refl
  works-are (pair ∷ pairs) o = works-head (first_done pair) [] pairs o.0 ∙ ap (λ t. first_done pair ∷ t) (works-are pairs o.1)

  -- ONE MORE NODE

  known-expected : (done : List (Done A)) (old new : Agenda) (n : Node) (at : ℕ) → ExpectsNode done old new n at → Knows new n at
  known-expected done old new (At pc calls frame) at e = e.0
  known-expected done old new (Exit pc frame) at e = e.0

  pub node-begins : (p p' : Parts A) (node : Node) (state : A) (at : ℕ) → IsBeginning p → at ≡ place_for p.nodes.rows node
      → ExpectsNode p.works.rows p.agenda p'.agenda node at → Grows p.agenda p'.agenda
      → p'.nodes.rows ≡ with_held p.nodes.rows (first_rise (node, state)) → p'.works.rows ≡ [] → p'.turns ≡ p.turns → IsBeginning p'
  node-begins p p' node state at is place expected grows nodes works turns = record {
    out = ap (λ t. t.out) turns ∙ is.out;
    returned = ap (λ t. t.returned) turns ∙ is.returned;
    nodes = λ n i e. known n i (ap (λ hs. place_of hs n) (sym nodes) ∙ e);
    waits = λ n f w. let bad : false ≡ true = ap (λ ds. waits_for ds n f) (sym works) ∙ w in absurd (cc);
  }
    where
      x : Held A
      x = first_rise (node, state)

      known : (n : Node) (i : ℕ) → place_of (with_held p.nodes.rows x) n ≡ Some i → Knows p'.agenda n i
      known n i e = elim (truth (same_node n node)) [
        | inl s ↦
            let own : node ≡ n = sym (same_node-eq n node s) in
            let here : at ≡ i = place ∙ sym (same_at (place_for p.nodes.rows node) i (place_of (with_held p.nodes.rows x) node) (place-own p.nodes.rows x)
            (subst (λ k. place_of (with_held p.nodes.rows x) k ≡ Some i) (sym own) e)) in
            subst (λ j. Knows p'.agenda n j) here
            (subst (λ k. Knows p'.agenda k at) own (known-expected p.works.rows p.agenda p'.agenda node at expected))
        | inr s ↦
            known-later p.agenda p'.agenda n i grows
            (is.nodes n i (sym (place-beside p.nodes.rows (x ∷ []) n (if_false _ _ _ s)) ∙ e))
      ]

  -- ONE MORE UNIT

  waits-behind : (ds : List (Done A)) (d : Done A) (n : Node) (f : Frame) → unit.One n ≡ d.unit → waits_for (with_done ds d) n f ≡ true
      → IsIn f d.work.waits
  waits-behind ds d n f e w =
      let at : done_at (with_done ds d) (unit.One n) ≡ Some d = ap (λ u. done_at (with_done ds d) u) e ∙ done_at-same ds d in
      any-in f d.work.waits (subst (λ r. unwrap_or (option_map (λ (t : Done A). list_any (same_frame f) t.work.waits) r) false ≡ true) at w)

  waits-before : (ds : List (Done A)) (d : Done A) (n : Node) (f : Frame) → same_unit (unit.One n) d.unit ≡ false
      → waits_for (with_done ds d) n f ≡ true → waits_for ds n f ≡ true
  waits-before ds d n f o w =
      subst (λ r. unwrap_or (option_map (λ (t : Done A). list_any (same_frame f) t.work.waits) r) false ≡ true) (done_at-other ds d (unit.One n) o) w

  place-there : (hs : List (Held A)) (n : Node) (inputs : A × Option A) → inputs_of hs (unit.One n) ≡ Some inputs
      → (i : ℕ) × (place_of hs n ≡ Some i)
  place-there hs n inputs e =
      let h = map_some (λ (h : Held A). let both : A × Option A = (h.state, None) in both) (held_at hs n) inputs e in
      place-held hs n h.0 h.1

  wait-later : (p p' : Parts A) (n : Node) (f : Frame) → Grows p.agenda p'.agenda → p'.nodes.rows ≡ p.nodes.rows → KnowsWait p n f
      → KnowsWait p' n f
  wait-later p p' n f g nodes k = record {
    at = k.at;
    is_at = ap (λ hs. place_of hs n) nodes ∙ k.is_at;
    waiting = g.waiting f k.at k.waiting;
    returns = λ pc from e. g.candidates _ (k.returns pc from (ap (λ hs. place_of hs (Exit pc f)) (sym nodes) ∙ e));
  }

  pub unit-begins : (p p' : Parts A) (u : WorkUnit) (work : Work A) (versions : Versions) → IsBeginning p → IsThere p.nodes.rows u
      → ExpectsUnit p.agenda p'.agenda p.nodes.rows u versions work.waits → Grows p.agenda p'.agenda
      → p'.nodes.rows ≡ p.nodes.rows
      → p'.works.rows ≡ with_done p.works.rows (record { unit = u; work = work; versions = versions }) → p'.turns ≡ p.turns → IsBeginning p'
  unit-begins p p' u work versions is there expected grows nodes works turns = record {
    out = ap (λ t. t.out) turns ∙ is.out;
    returned = ap (λ t. t.returned) turns ∙ is.returned;
    nodes = λ n i e. known-later p.agenda p'.agenda n i grows (is.nodes n i (ap (λ hs. place_of hs n) (sym nodes) ∙ e));
    waits = λ n f w. waits n f (ap (λ ds. waits_for ds n f) (sym works) ∙ w);
  }
    where
      d : Done A
      d = record { unit = u; work = work; versions = versions }

      own : (n : Node) (f : Frame) → unit.One n ≡ u → IsIn f work.waits → KnowsWait p' n f
      own n f e i =
          let t : IsThere p.nodes.rows (unit.One n) = subst (λ v. IsThere p.nodes.rows v) (sym e) there in
          let at = place-there p.nodes.rows n t.inputs.0 t.inputs.1 in
          let x : ExpectsUnit p.agenda p'.agenda p.nodes.rows (unit.One n) versions work.waits =
          subst (λ v. ExpectsUnit p.agenda p'.agenda p.nodes.rows v versions work.waits) (sym e) expected in
          let y = x at.0 at.1 in
          record {
            at = at.0;
            is_at = ap (λ hs. place_of hs n) nodes ∙ at.1;
            waiting = y.1 f i;
            returns = λ pc from g. y.2 f i from (is.nodes (Exit pc f) from (ap (λ hs. place_of hs (Exit pc f)) (sym nodes) ∙ g));
          }

      waits : (n : Node) (f : Frame) → waits_for (with_done p.works.rows d) n f ≡ true → KnowsWait p' n f
      waits n f w = elim (truth (same_unit (unit.One n) u)) [
        | inl s ↦ let e = same_unit-eq (unit.One n) u s in own n f e (waits-behind p.works.rows d n f e w)
        | inr s ↦ wait-later p p' n f grows nodes (is.waits n f (waits-before p.works.rows d n f s w))
      ]

  -- WHAT THEY STAND FOR

  pub beginning-shown : (p : Parts A) → AreDistinct p.nodes.rows → IsBeginning p → Shows (state_of p) p
  beginning-shown p distinct is = record {
    nodes = refl;
    done = refl;
    distinct = distinct;
    home = λ u h. ap (λ es. place_out es u) is.out;
    out = λ u o h. absurd (cc);
    count = ap length is.out;
    apart = tt;
    given_back = record {
      once = subst (λ l. AreDifferent l) (sym is.returned) tt;
      home = λ u q h i. let none : IsIn q [] = subst (λ l. IsIn q l) is.returned i in none;
    };
    expected = λ u k. expect u k.known;
    waiting = λ n f w. let k = is.waits n f w in (k.at, k.is_at, k.waiting);
    exits = λ pc f i at. is.nodes (Exit pc f) i at;
  }
    where
      expect : (u : WorkUnit) → IsUnit (state_of p) u → IsExpected p.nodes.rows p.agenda.candidates.keys p.turns.returned u
      expect (unit.One (At pc calls frame)) k =
          let i = place-held p.nodes.rows (At pc calls frame) k.0 k.1 in
          (place.One i.0, ap (λ o. option_map (λ t. place.One t) o) i.1, inl (is.nodes (At pc calls frame) i.0 i.1))
      expect (unit.One (Exit pc frame)) k = absurd k
      expect (unit.Back (At pc calls frame) (Exit from left)) k =
          let w = is.waits (At pc calls frame) left k.4 in
          let j = place-held p.nodes.rows (Exit from left) k.1 k.3 in (
            place.Back w.at j.0,
            ap (λ o. option_and_then (λ t. option_map (λ s. place.Back t s) (place_of p.nodes.rows (Exit from left))) o) w.is_at
                ∙ ap (λ o. option_map (λ s. place.Back w.at s) o) j.1,
            inl (w.returns from j.0 j.1),
          )
      expect (unit.Back (At pc calls frame) (At from calls' frame')) k = absurd k
      expect (unit.Back (Exit pc frame) x) k = absurd k
