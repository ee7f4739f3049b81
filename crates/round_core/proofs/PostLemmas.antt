-- The book behind a post.
use Rattle.std.specs.Prelude.{◌≡◌, ℕ, ◌⊎◌, true, false, if◌then◌else◌, Option, None, Some, List, [], ◌∷◌, unwrap_or, option_and_then, MatchOption}
use Rattle.std.specs.List.{list_any}
use Rattle.std.specs.Option.{option_map}
use Rattle.std.proofs.Common.{refl, sym, ◌∙◌, ap, subst, inl, inr}
use Rattle.std.proofs.Math.Path.{ap₂}
use Rattle.call_context.specs.declared.node.Frame.{Frame}
use Rattle.call_context.specs.declared.node.Node.{Node}
use Rattle.call_context.specs.declared.node.Node.TheVariants.{At, Exit}
use Rattle.call_context.specs.declared.node.Unit.{Unit as WorkUnit}
use Rattle.call_context.specs.declared.node.Unit.TheVariants as unit
use Rattle.book_rules.specs.Same.{same_frame, same_node, same_unit}
use Rattle.book_rules.specs.SameTests.{same_node-eq, same_unit-eq, same_unit-refl}
use Rattle.round_core.specs.declared.agenda.Agenda.{Agenda}
use Rattle.round_core.specs.declared.parts.Parts.{Parts}
use Rattle.round_core.specs.declared.place.Place.{Place}
use Rattle.round_core.specs.declared.place.Place.TheVariants as place
use Rattle.book_rules.specs.declared.versions.Versions.{Versions}
use Rattle.book_rules.specs.Machine.{BookState, Held, Done, Out, held_at, done_at, out_at, place_of, version_of, versions_of, waits_for, without, with_done, IsUnit, HasRisen, IsClaimable}
use Rattle.round_core.specs.Agenda.{IsIn, places_in}
use Rattle.round_core.specs.Claims.{placed}
use Rattle.round_core.specs.Expected.{Grows, ExpectsNode, ExpectsRows, ExpectsUnit}
use Rattle.round_core.specs.Raise.{with_all}
use Rattle.round_core.specs.Shown.{AreDistinct, IsExpected, Shows}
use Rattle.round_core.specs.Turns.{TakesHome}
use Rattle.round_core.proofs.Cases.{truth, if_true, if_false, match_some, then_some, map_some}
use Rattle.round_core.proofs.ClaimLemmas.{held-place, place-held}
use Rattle.round_core.proofs.OutLemmas.{same_unit-sym, comes_home, out_at-without, posted_back}
use Rattle.round_core.proofs.RaiseLemmas.{held_at-with_all-none, distinct-with_all, place-with_all}
use Rattle.round_core.proofs.WaitLemmas.{any-in}

abbrev one_version : ℕ → Versions
one_version t = record { at = t; exit = 0 }

abbrev two_versions : ℕ → ℕ → Versions
two_versions t r = record { at = t; exit = r }

same_place : (a c : ℕ) (o : Option ℕ) → o ≡ Some a → o ≡ Some c → a ≡ c
same_place a c o e f = let g : Some a ≡ Some c = sym e ∙ f in cc

module _ {A : Type 0} where
  pub done_at-same : (ds : List (Done A)) (x : Done A) → done_at (with_done ds x) x.unit ≡ Some x
  done_at-same [] x = if_true _ _ _ (same_unit-refl x.unit)
  done_at-same (d ∷ ds) x = elim (truth (same_unit x.unit d.unit)) [
    | inl s ↦ ap (λ t. done_at t x.unit) (if_true _ _ _ s) ∙ if_true _ _ _ (same_unit-refl x.unit)
    | inr s ↦ ap (λ t. done_at t x.unit) (if_false _ _ _ s) ∙ if_false _ _ _ s ∙ done_at-same ds x
  ]

  pub done_at-other : (ds : List (Done A)) (x : Done A) (v : WorkUnit) → same_unit v x.unit ≡ false → done_at (with_done ds x) v ≡ done_at ds v
  done_at-other [] x v o = if_false _ _ _ o
  done_at-other (d ∷ ds) x v o = elim (truth (same_unit x.unit d.unit)) [
    | inl s ↦
        let e : x.unit ≡ d.unit = same_unit-eq x.unit d.unit s in
        let n : same_unit v d.unit ≡ false = subst (λ w. same_unit v w ≡ false) e o in
        ap (λ t. done_at t v) (if_true _ _ _ s) ∙ if_false _ _ _ o ∙ sym (if_false _ _ _ n)
    | inr s ↦ ap (λ t. done_at t v) (if_false _ _ _ s) ∙ ap (λ r. if same_unit v d.unit then Some d else r) (done_at-other ds x v o)
  ]

  held-in : (hs : List (Held A)) (n : Node) (h : Held A) → held_at hs n ≡ Some h → IsIn h hs × (h.node ≡ n)
  held-in [] n h e = absurd (cc)
  held-in (g ∷ hs) n h e = elim (truth (same_node n g.node)) [
    | inl s ↦
        let k : Some g ≡ Some h = sym (if_true _ _ _ s) ∙ e in
        let same : h ≡ g = cc in (inl same, ap (λ t. t.node) same ∙ sym (same_node-eq n g.node s))
    | inr s ↦ let r = held-in hs n h (sym (if_false _ _ _ s) ∙ e) in (inr r.0, r.1)
  ]

  placed-kept : (ns es : List (Held A)) (v : WorkUnit) (p : Place) → placed ns v ≡ Some p → placed (with_all ns es) v ≡ Some p
  placed-kept ns es (unit.One n) p e =
      let i = map_some (λ (i : ℕ). place.One i) (place_of ns n) p e in
      ap (λ o. option_map (λ i. place.One i) o) (place-with_all es ns n i.0 i.1) ∙ ap (λ q. Some q) i.2
  placed-kept ns es (unit.Back n x) p e =
      let i = then_some (λ (i : ℕ). option_map (λ j. place.Back i j) (place_of ns x)) (place_of ns n) p e in
      let j = map_some (λ (j : ℕ). place.Back i.0 j) (place_of ns x) p i.2 in
      back_placed (with_all ns es) n x i.0 j.0 (place-with_all es ns n i.0 i.1) (place-with_all es ns x j.0 j.1) ∙ ap (λ q. Some q) j.2
    where
      back_placed : (hs : List (Held A)) (n x : Node) (i j : ℕ) → place_of hs n ≡ Some i → place_of hs x ≡ Some j
          → placed hs (unit.Back n x) ≡ Some (place.Back i j)
      back_placed hs n x i j a c = ap (λ o. option_and_then (λ t. option_map (λ s. place.Back t s) (place_of hs x)) o) a ∙ ap (λ o. option_map (λ s. place.Back i s) o) c

  back-placed : (hs : List (Held A)) (n x : Node) (i j : ℕ) → place_of hs n ≡ Some i → place_of hs x ≡ Some j
      → placed hs (unit.Back n x) ≡ Some (place.Back i j)
  back-placed hs n x i j a c = ap (λ o. option_and_then (λ t. option_map (λ s. place.Back t s) (place_of hs x)) o) a ∙ ap (λ o. option_map (λ s. place.Back i s) o) c

  one-placed : (hs : List (Held A)) (n : Node) (i : ℕ) → place_of hs n ≡ Some i → placed hs (unit.One n) ≡ Some (place.One i)
  one-placed hs n i a = ap (λ o. option_map (λ t. place.One t) o) a

  one-place : (hs : List (Held A)) (n : Node) (p : Place) → placed hs (unit.One n) ≡ Some p → (i : ℕ) × (place_of hs n ≡ Some i)
  one-place hs n p e = let i = map_some (λ (i : ℕ). place.One i) (place_of hs n) p e in (i.0, i.1)

module _ {A : Type 0} (b : BookState A) (p p' : Parts A) (o : Out A) (work : Rattle.chip_analysis.specs.declared.chip.Work.Work A) (raised : List (Held A)) (mid : Agenda)
    (s : Shows b p) (is : out_at b.out o.unit ≡ Some o) (d : AreDistinct raised)
    (er : ExpectsRows b.done p.agenda mid (with_all b.nodes raised) raised) (g1 : Grows p.agenda mid)
    (eu : ExpectsUnit mid p'.agenda b.nodes o.unit o.versions work.waits) (g2 : Grows mid p'.agenda)
    (home : TakesHome p.turns.out o.unit p'.turns.out) (ret : p'.turns.returned ≡ p.turns.returned) where
  abbrev last : Done A
  last = record { unit = o.unit; work = work; versions = o.versions }

  abbrev behind : BookState A
  behind = record { nodes = with_all b.nodes raised; done = with_done b.done last; out = without b.out o.unit }

  -- a raised node has its place, and is expected
  risen-node : (n : Node) (h : Held A) → held_at raised n ≡ Some h
      → (q : ℕ) × (place_of behind.nodes n ≡ Some q) × ExpectsNode b.done p.agenda mid n q
  risen-node n h e =
      let i = held-in raised n h e in
      let x = er h i.0 in
      (x.0, ap (λ t. place_of behind.nodes t) (sym i.1) ∙ x.1, subst (λ t. ExpectsNode b.done p.agenda mid t x.0) i.1 x.2)

  -- another node stands where it stood
  still-place : (n : Node) (i : ℕ) → held_at raised n ≡ None → place_of behind.nodes n ≡ Some i → place_of b.nodes n ≡ Some i
  still-place n i e at =
      let h = held-place behind.nodes n i at in
      let was = place-held b.nodes n h.0 (sym (held_at-with_all-none b.nodes raised n e) ∙ h.1) in
      was.1 ∙ ap (λ k. Some k) (same_place was.0 i (place_of behind.nodes n) (place-with_all raised b.nodes n was.0 was.1) at)

  exits-mid : (pc : ℕ) (f : Frame) (i : ℕ) → place_of behind.nodes (Exit pc f) ≡ Some i → IsIn i (places_in mid.exits f)
  exits-mid pc f i at = cases (held_at raised (Exit pc f)) refl
    where
      cases : (r : Option (Held A)) → held_at raised (Exit pc f) ≡ r → IsIn i (places_in mid.exits f)
      cases (Some h) e =
          let x = risen-node (Exit pc f) h e in
          subst (λ k. IsIn k (places_in mid.exits f)) (same_place x.0 i (place_of behind.nodes (Exit pc f)) x.1 at) x.2.0
      cases None e = g1.exits f i (s.exits pc f i (still-place (Exit pc f) i e at))

  waits-other : (n : Node) (f : Frame) → same_unit (unit.One n) o.unit ≡ false → waits_for behind.done n f ≡ true
      → waits_for b.done n f ≡ true
  waits-other n f e w = subst (λ r. unwrap_or (option_map (λ (t : Done A). list_any (same_frame f) t.work.waits) r) false ≡ true) (done_at-other b.done last (unit.One n) e) w

  waits-own : (n : Node) (f : Frame) → unit.One n ≡ o.unit → waits_for behind.done n f ≡ true → IsIn f work.waits
  waits-own n f e w =
      let at : done_at behind.done (unit.One n) ≡ Some last = ap (λ u. done_at behind.done u) e ∙ done_at-same b.done last in
      any-in f work.waits (subst (λ r. unwrap_or (option_map (λ (t : Done A). list_any (same_frame f) t.work.waits) r) false ≡ true) at w)

  -- what the unit that came home expects, seen as a location's own work
  own : (n : Node) → unit.One n ≡ o.unit → (i : ℕ) → place_of b.nodes n ≡ Some i
      → (HasRisen o.versions (versions_of b.nodes (unit.One n)) → IsIn (place.One i) p'.agenda.candidates.keys) ×
      ((f : Frame) → IsIn f work.waits → IsIn i (places_in p'.agenda.waiting f))
      × ((f : Frame) → IsIn f work.waits → (x : ℕ) → IsIn x (places_in mid.exits f) → IsIn (place.Back i x) p'.agenda.candidates.keys)
  own n e i at = let x : ExpectsUnit mid p'.agenda b.nodes (unit.One n) o.versions work.waits = subst (λ u. ExpectsUnit mid p'.agenda b.nodes u o.versions work.waits) (sym e) eu in x i at

  own-place : (n : Node) → unit.One n ≡ o.unit → (i : ℕ) × (place_of b.nodes n ≡ Some i)
  own-place n e = let x = s.out o.unit o is in one-place b.nodes n x.0 (ap (λ u. placed b.nodes u) e ∙ x.2)

  versions-same : (n : Node) → held_at raised n ≡ None → version_of behind.nodes n ≡ version_of b.nodes n
  versions-same n e = ap (λ r. unwrap_or (option_map (λ (h : Held A). h.rises) r) 0) (held_at-with_all-none b.nodes raised n e)

  -- a unit of which nothing changed could be claimed before
  was-claimable : (v : WorkUnit) → IsUnit b v → same_unit v o.unit ≡ false
      → versions_of behind.nodes v ≡ versions_of b.nodes v → IsClaimable behind v → IsClaimable b v
  was-claimable v known e same k = record {
    known = known;
    at_home = sym (if_false _ _ _ (same_unit-sym v o.unit e)) ∙ sym (out_at-without b.out o.unit v s.apart) ∙ k.at_home;
    due = subst (λ r. MatchOption r (Unit {0}) (λ x. HasRisen x.versions (versions_of b.nodes v))) (done_at-other b.done last v e)
        (subst (λ t. MatchOption (done_at behind.done v) (Unit {0}) (λ x. HasRisen x.versions t)) same k.due);
  }

  -- the unit that came home can be claimed anew where an input rose since it was claimed
  has-risen : (v : WorkUnit) → v ≡ o.unit → versions_of behind.nodes v ≡ versions_of b.nodes v → IsClaimable behind v
      → HasRisen o.versions (versions_of b.nodes v)
  has-risen v e same k =
      let at : done_at behind.done v ≡ Some last = ap (λ u. done_at behind.done u) e ∙ done_at-same b.done last in
      subst (λ t. HasRisen o.versions t) same
      (match_some (Unit {0}) (λ (x : Done A). HasRisen x.versions (versions_of behind.nodes v)) (done_at behind.done v) last at k.due)

  abbrev Expected : WorkUnit → Type 0
  Expected v = IsExpected behind.nodes p'.agenda.candidates.keys p'.turns.returned v

  in-mid : (q : Place) → IsIn q mid.candidates.keys → IsIn q p'.agenda.candidates.keys
  in-mid q h = g2.candidates q h

  was-expected : (v : WorkUnit) → IsClaimable b v → Expected v
  was-expected v k =
      let x = s.expected v k in (
        x.0,
        placed-kept b.nodes raised v x.0 x.1,
        elim x.2 [ inl i ↦ inl (in-mid x.0 (g1.candidates x.0 i)) | inr i ↦ inr (subst (λ r. IsIn x.0 r) (sym ret) i) ],
      )

  one-expected : (pc : ℕ) (calls : List ℕ) (frame : Frame) → IsClaimable behind (unit.One (At pc calls frame))
      → Expected (unit.One (At pc calls frame))
  one-expected pc calls frame k = cases (held_at raised (At pc calls frame)) refl
    where
      cases : (r : Option (Held A)) → held_at raised (At pc calls frame) ≡ r → Expected (unit.One (At pc calls frame))
      cases (Some h) e =
          let x = risen-node (At pc calls frame) h e in (place.One x.0, one-placed behind.nodes (At pc calls frame) x.0 x.1, inl (in-mid _ x.2.0))
      cases None e = elim (truth (same_unit (unit.One (At pc calls frame)) o.unit)) [
        | inl t ↦
            let u = same_unit-eq (unit.One (At pc calls frame)) o.unit t in
            let i = own-place (At pc calls frame) u in
            (place.One i.0, one-placed behind.nodes (At pc calls frame) i.0 (place-with_all raised b.nodes (At pc calls frame) i.0 i.1), inl ((own (At pc calls frame) u i.0 i.1).0 (has-risen (unit.One (At pc calls frame)) u (ap (λ t. one_version t) (versions-same (At pc calls frame) e)) k)))
        | inr t ↦
            let held = sym (held_at-with_all-none b.nodes raised (At pc calls frame) e) ∙ k.known.1 in
            was-expected (unit.One (At pc calls frame)) (was-claimable (unit.One (At pc calls frame)) (k.known.0, held) t (ap (λ t. one_version t) (versions-same (At pc calls frame) e)) k)
      ]

  back-expected : (pc : ℕ) (calls : List ℕ) (frame : Frame) (from : ℕ) (left : Frame)
      → IsClaimable behind (unit.Back (At pc calls frame) (Exit from left)) → Expected (unit.Back (At pc calls frame) (Exit from left))
  back-expected pc calls frame from left k = cases (truth (same_unit (unit.One (At pc calls frame)) o.unit))
    where
      waits : waits_for behind.done (At pc calls frame) left ≡ true
      waits = k.known.4

      exit-at : (j : ℕ) × (place_of behind.nodes (Exit from left) ≡ Some j)
      exit-at = place-held behind.nodes (Exit from left) k.known.1 k.known.3

      found : (i j : ℕ) → place_of behind.nodes (At pc calls frame) ≡ Some i
          → place_of behind.nodes (Exit from left) ≡ Some j → IsIn (place.Back i j) p'.agenda.candidates.keys
          → Expected (unit.Back (At pc calls frame) (Exit from left))
      found i j a c h = (place.Back i j, back-placed behind.nodes (At pc calls frame) (Exit from left) i j a c, inl h)

      quiet : waits_for b.done (At pc calls frame) left ≡ true → (i j : ℕ)
          → place_of b.nodes (At pc calls frame) ≡ Some i → place_of b.nodes (Exit from left) ≡ Some j
          → held_at raised (At pc calls frame) ≡ None → held_at raised (Exit from left) ≡ None
          → Expected (unit.Back (At pc calls frame) (Exit from left))
      quiet w i j a c e f = elim (truth (same_unit (unit.Back (At pc calls frame) (Exit from left)) o.unit)) [
        | inl t ↦
            let one = same_unit-eq (unit.Back (At pc calls frame) (Exit from left)) o.unit t in
            let u : ExpectsUnit mid p'.agenda b.nodes (unit.Back (At pc calls frame) (Exit from left)) o.versions work.waits = subst (λ z. ExpectsUnit mid p'.agenda b.nodes z o.versions work.waits) (sym one) eu in
            let rose = has-risen (unit.Back (At pc calls frame) (Exit from left)) one (ap₂ (λ y z. two_versions y z) (versions-same (At pc calls frame) e) (versions-same (Exit from left) f)) k in
            found i j (place-with_all raised b.nodes (At pc calls frame) i a) (place-with_all raised b.nodes (Exit from left) j c) (u i j a c rose)
        | inr t ↦
            let hn = sym (held_at-with_all-none b.nodes raised (At pc calls frame) e) ∙ k.known.2 in
            let hx = sym (held_at-with_all-none b.nodes raised (Exit from left) f) ∙ k.known.3 in
            was-expected (unit.Back (At pc calls frame) (Exit from left)) (was-claimable (unit.Back (At pc calls frame) (Exit from left)) (k.known.0, k.known.1, hn, hx, w) t (ap₂ (λ y z. two_versions y z) (versions-same (At pc calls frame) e) (versions-same (Exit from left) f)) k)
      ]

      old-exit : waits_for b.done (At pc calls frame) left ≡ true → (i j : ℕ)
          → place_of b.nodes (At pc calls frame) ≡ Some i → place_of b.nodes (Exit from left) ≡ Some j
          → held_at raised (Exit from left) ≡ None → (r : Option (Held A)) → held_at raised (At pc calls frame) ≡ r
          → Expected (unit.Back (At pc calls frame) (Exit from left))
      old-exit w i j a c f (Some h) e =
          let q = risen-node (At pc calls frame) h e in
          found q.0 j q.1 (place-with_all raised b.nodes (Exit from left) j c) (in-mid _ (q.2.1 left w j (s.exits from left j c)))
      old-exit w i j a c f None e = quiet w i j a c e f

      other : waits_for b.done (At pc calls frame) left ≡ true → (r : Option (Held A))
          → held_at raised (Exit from left) ≡ r → Expected (unit.Back (At pc calls frame) (Exit from left))
      other w (Some h) e =
          let q = risen-node (Exit from left) h e in
          let i = s.waiting (At pc calls frame) left w in
          found i.0 q.0 (place-with_all raised b.nodes (At pc calls frame) i.0 i.1) q.1 (in-mid _ (q.2.1 i.0 i.2))
      other w None e =
          let i = s.waiting (At pc calls frame) left w in
          old-exit w i.0 exit-at.0 i.1 (still-place (Exit from left) exit-at.0 e exit-at.1) e (held_at raised (At pc calls frame)) refl

      cases : (same_unit (unit.One (At pc calls frame)) o.unit ≡ true) ⊎ (same_unit (unit.One (At pc calls frame)) o.unit ≡ false)
          → Expected (unit.Back (At pc calls frame) (Exit from left))
      cases (inl t) =
          let u = same_unit-eq (unit.One (At pc calls frame)) o.unit t in
          let i = own-place (At pc calls frame) u in
          found i.0 exit-at.0 (place-with_all raised b.nodes (At pc calls frame) i.0 i.1) exit-at.1
          ((own (At pc calls frame) u i.0 i.1).2 left (waits-own (At pc calls frame) left u waits) exit-at.0 (exits-mid from left exit-at.0 exit-at.1))
      cases (inr t) = other (waits-other (At pc calls frame) left t waits) (held_at raised (Exit from left)) refl

  expect : (v : WorkUnit) → IsClaimable behind v → Expected v
  expect (unit.One (At pc calls frame)) k = one-expected pc calls frame k
  expect (unit.One (Exit pc frame)) k = absurd k.known
  expect (unit.Back (At pc calls frame) (Exit from left)) k = back-expected pc calls frame from left k
  expect (unit.Back (At pc calls frame) (At from calls' frame')) k = absurd k.known
  expect (unit.Back (Exit pc frame) x) k = absurd k.known

  wait : (n : Node) (f : Frame) → waits_for behind.done n f ≡ true
      → (i : ℕ) × (place_of behind.nodes n ≡ Some i) × IsIn i (places_in p'.agenda.waiting f)
  wait n f w = elim (truth (same_unit (unit.One n) o.unit)) [
    | inl t ↦
        let u = same_unit-eq (unit.One n) o.unit t in
        let i = own-place n u in
        (i.0, place-with_all raised b.nodes n i.0 i.1, (own n u i.0 i.1).1 f (waits-own n f u w))
    | inr t ↦
        let x = s.waiting n f (waits-other n f t w) in
        (x.0, place-with_all raised b.nodes n x.0 x.1, g2.waiting f x.0 (g1.waiting f x.0 x.2))
  ]

  pub behind-shown : p'.nodes.rows ≡ behind.nodes → p'.works.rows ≡ behind.done → Shows behind p'
  behind-shown hs ds =
      let c = comes_home b p p'.turns o.unit o s is home in
      record {
        nodes = hs;
        done = ds;
        distinct = distinct-with_all b.nodes raised s.distinct;
        home = c.home;
        out = λ v x h. let q = c.out v x h in (q.0, q.1, placed-kept b.nodes raised v q.0 q.2);
        count = c.count;
        apart = c.apart;
        given_back = posted_back p.turns p'.turns o.unit home ret s.given_back;
        expected = expect;
        waiting = wait;
        exits = λ pc f i at. g2.exits f i (exits-mid pc f i at);
      }
