-- Places of units, and which can be claimed.
use Rattle.std.specs.Prelude.{◌≡◌, ℕ, zero, suc, ◌+◌, ◌<◌, ◌⊎◌, ◌||◌, Bool, true, false, nat_lt, is_some, if◌then◌else◌, Option, None, Some, List, [], ◌∷◌, slice_get, option_and_then, MatchOption}
use Rattle.std.specs.Option.{option_map}
use Rattle.std.proofs.Common.{refl, sym, ◌∙◌, ap, subst, inl, inr, arith}
use Rattle.std.proofs.lemmas.Bool.Decides.{nat_tests}
use Rattle.std.proofs.Math.Path.{ap₂}
use Rattle.call_context.specs.declared.node.Node.{Node}
use Rattle.call_context.specs.declared.node.Node.TheVariants.{At, Exit}
use Rattle.call_context.specs.declared.node.Unit.{Unit as WorkUnit}
use Rattle.call_context.specs.declared.node.Unit.TheVariants as unit
use Rattle.book_rules.specs.Same.{same_node}
use Rattle.book_rules.specs.SameTests.{same_node-eq, same_node-refl}
use Rattle.round_core.specs.declared.place.Place.{Place}
use Rattle.round_core.specs.declared.place.Place.TheVariants as place
use Rattle.book_rules.specs.declared.versions.Versions.{Versions}
use Rattle.book_rules.specs.Machine.{BookState, Held, Done, Out, held_at, done_at, out_at, place_of, waits_for, versions_of, IsUnit, HasRisen, IsClaimable, IsBelow, ComesBefore}
use Rattle.round_core.specs.Claims.{placed, one_of, back_of, unit_at, due_of, claimable_at}
use Rattle.round_core.specs.Turns.{place_out}
use Rattle.round_core.specs.Shown.{AreDistinct}
use Rattle.round_core.proofs.Cases.{truth, if_true, if_false, next_place, then_some, map_some, if_some, unless_some}
use Rattle.round_core.proofs.PlaceLemmas.{IsBefore}

module _ {A : Type 0} where
  pub held-place : (hs : List (Held A)) (n : Node) (i : ℕ) → place_of hs n ≡ Some i
      → (h : Held A) × (held_at hs n ≡ Some h) × (slice_get hs i ≡ Some h) × (h.node ≡ n)
  held-place [] n i p = absurd (cc)
  held-place (h ∷ hs) n i p = elim (truth (same_node n h.node)) [
    | inl s ↦
        let here : Some 0 ≡ Some i = sym (if_true _ _ _ s) ∙ p in
        let z : 0 ≡ i = cc in
        (h, if_true _ _ _ s, subst (λ k. slice_get (h ∷ hs) k ≡ Some h) z refl, sym (same_node-eq n h.node s))
    | inr s ↦
        let m = next_place (place_of hs n) i (sym (if_false _ _ _ s) ∙ p) in
        let below : suc m.0 ≡ i = omega arith in
        let rest = held-place hs n m.0 m.1 in
        (rest.0, if_false _ _ _ s ∙ rest.1, subst (λ k. slice_get (h ∷ hs) k ≡ Some rest.0) below rest.2, rest.3)
  ]

  pub place-held : (hs : List (Held A)) (n : Node) (h : Held A) → held_at hs n ≡ Some h → (i : ℕ) × (place_of hs n ≡ Some i)
  place-held [] n h e = absurd (cc)
  place-held (g ∷ hs) n h e = elim (truth (same_node n g.node)) [
    | inl s ↦ (0, if_true _ _ _ s)
    | inr s ↦
        let i = place-held hs n h (sym (if_false _ _ _ s) ∙ e) in
        (i.0 + 1, if_false _ _ _ s ∙ ap (λ o. option_map (λ place. place + 1) o) i.1)
  ]

  pub held-get : (hs : List (Held A)) (i : ℕ) (h : Held A) → slice_get hs i ≡ Some h → held_at hs h.node ≡ None → ⊥
  held-get [] i h e n = absurd (cc)
  held-get (g ∷ hs) zero h e n =
      let same : g ≡ h = cc in
      let s : same_node h.node g.node ≡ true = subst (λ k. same_node h.node k.node ≡ true) (sym same) (same_node-refl h.node) in
      let bad : Some g ≡ None = sym (if_true _ _ _ s) ∙ n in absurd (cc)
  held-get (g ∷ hs) (suc i) h e n = elim (truth (same_node h.node g.node)) [
    | inl s ↦ let bad : Some g ≡ None = sym (if_true _ _ _ s) ∙ n in absurd (cc)
    | inr s ↦ held-get hs i h e (sym (if_false _ _ _ s) ∙ n)
  ]

  -- in a list without repeats, a row's node has the row's place
  pub get-place : (hs : List (Held A)) → AreDistinct hs → (i : ℕ) (h : Held A) → slice_get hs i ≡ Some h
      → (place_of hs h.node ≡ Some i) × (held_at hs h.node ≡ Some h)
  get-place [] d i h e = absurd (cc)
  get-place (g ∷ hs) d zero h e =
      let same : g ≡ h = cc in
      let s : same_node h.node g.node ≡ true = subst (λ k. same_node h.node k.node ≡ true) (sym same) (same_node-refl h.node) in
      (if_true _ _ _ s, if_true _ _ _ s ∙ ap (λ t. Some t) same)
  get-place (g ∷ hs) d (suc i) h e = elim (truth (same_node h.node g.node)) [
    | inl s ↦
        let same : h.node ≡ g.node = same_node-eq h.node g.node s in
        absurd (held-get hs i h e (subst (λ n. held_at hs n ≡ None) (sym same) d.0))
    | inr s ↦
        let r = get-place hs d.1 i h e in
        let up : i + 1 ≡ suc i = omega arith in
        (if_false _ _ _ s ∙ ap (λ o. option_map (λ place. place + 1) o) r.0 ∙ ap (λ k. Some k) up, if_false _ _ _ s ∙ r.1)
  ]

  due-true : (d : Option (Done A)) (now : Versions) → due_of d now ≡ true → MatchOption d (Unit {0}) (λ x. HasRisen x.versions now)
  due-true None now h = tt
  due-true (Some d) now h = elim (truth (nat_lt d.versions.at now.at)) [
    | inl s ↦ inl (below _ _ s)
    | inr s ↦ inr (below _ _ (ap (λ b. b || nat_lt d.versions.exit now.exit) (sym s) ∙ h))
  ]
    where
      below : (a b : ℕ) → nat_lt a b ≡ true → a < b
      below a b e = grind (arith, nat_tests)

  due-is : (d : Option (Done A)) (now : Versions) → MatchOption d (Unit {0}) (λ x. HasRisen x.versions now) → due_of d now ≡ true
  due-is None now h = refl
  due-is (Some d) now h = elim h [
    | inl less ↦ let e : nat_lt d.versions.at now.at ≡ true = test _ _ less in ap (λ b. b || nat_lt d.versions.exit now.exit) e
    | inr less ↦ let e : nat_lt d.versions.exit now.exit ≡ true = test _ _ less in either _ _ e
  ]
    where
      test : (a b : ℕ) → a < b → nat_lt a b ≡ true
      test a b e = grind (arith, nat_tests)

      either : (p q : Bool) → q ≡ true → (p || q) ≡ true
      either true q e = refl
      either false q e = e

  module _ (b : BookState A) where
    one-unit : (n : Node) (h : Held A) (u : WorkUnit) → held_at b.nodes n ≡ Some h → one_of n ≡ Some u → IsUnit b u × (u ≡ unit.One n)
    one-unit (At pc calls frame) h u e o = let same : unit.One (At pc calls frame) ≡ u = cc in (subst (λ v. IsUnit b v) same (h, e), sym same)
    one-unit (Exit pc frame) h u e o = absurd (cc)

    back-unit : (n x : Node) (h g : Held A) (u : WorkUnit) → held_at b.nodes n ≡ Some h → held_at b.nodes x ≡ Some g
        → back_of b.done n x ≡ Some u → IsUnit b u × (u ≡ unit.Back n x)
    back-unit (At pc calls frame) (Exit from left) h g u e f o =
        let w = if_some (waits_for b.done (At pc calls frame) left) (unit.Back (At pc calls frame) (Exit from left)) u o in
        (subst (λ v. IsUnit b v) w.1 (h, g, e, f, w.0), sym w.1)
    back-unit (At pc calls frame) (At from calls' frame') h g u e f o = absurd (cc)
    back-unit (Exit pc frame) x h g u e f o = absurd (cc)

    module _ (distinct : AreDistinct b.nodes) where
      -- a unit at a place is one of the book's, and has that place
      pub unit_at-known : (p : Place) (u : WorkUnit) → unit_at b.nodes b.done p ≡ Some u → IsUnit b u × (placed b.nodes u ≡ Some p)
      unit_at-known (place.One n) u e =
          let r = then_some (λ (h : Held A). one_of h.node) (slice_get b.nodes n) u e in
          let at = get-place b.nodes distinct n r.0 r.1 in
          let k = one-unit r.0.node r.0 u at.1 r.2 in
          (k.0, ap (λ v. placed b.nodes v) k.1 ∙ ap (λ o. option_map (λ i. place.One i) o) at.0)
      unit_at-known (place.Back n x) u e =
          let r = then_some (λ (h : Held A). option_and_then (λ (g : Held A). back_of b.done h.node g.node) (slice_get b.nodes x)) (slice_get b.nodes n) u e in
          let s = then_some (λ (g : Held A). back_of b.done r.0.node g.node) (slice_get b.nodes x) u r.2 in
          let at = get-place b.nodes distinct n r.0 r.1 in
          let ax = get-place b.nodes distinct x s.0 s.1 in
          let k = back-unit r.0.node s.0.node r.0 s.0 u at.1 ax.1 s.2 in (
            k.0,
            ap (λ v. placed b.nodes v) k.1
                ∙ ap (λ o. option_and_then (λ i. option_map (λ j. place.Back i j) (place_of b.nodes s.0.node)) o) at.0
                ∙ ap (λ o. option_map (λ j. place.Back n j) o) ax.0,
          )

      -- a unit of the book stands at its place
      pub known-unit_at : (u : WorkUnit) (p : Place) → IsUnit b u → placed b.nodes u ≡ Some p → unit_at b.nodes b.done p ≡ Some u
      known-unit_at (unit.One (At pc calls frame)) p k e =
          let i = map_some (λ (i : ℕ). place.One i) (place_of b.nodes (At pc calls frame)) p e in
          let h = held-place b.nodes (At pc calls frame) i.0 i.1 in
          subst (λ q. unit_at b.nodes b.done q ≡ Some (unit.One (At pc calls frame))) i.2
          (ap (λ o. option_and_then (λ (g : Held A). one_of g.node) o) h.2 ∙ ap (λ n. one_of n) h.3)
      known-unit_at (unit.One (Exit pc frame)) p k e = absurd k
      known-unit_at (unit.Back (At pc calls frame) (Exit from left)) p k e =
          let i = then_some (λ (i : ℕ). option_map (λ j. place.Back i j) (place_of b.nodes (Exit from left))) (place_of b.nodes (At pc calls frame)) p e in
          let j = map_some (λ (j : ℕ). place.Back i.0 j) (place_of b.nodes (Exit from left)) p i.2 in
          let h = held-place b.nodes (At pc calls frame) i.0 i.1 in
          let g = held-place b.nodes (Exit from left) j.0 j.1 in
          subst (λ q. unit_at b.nodes b.done q ≡ Some (unit.Back (At pc calls frame) (Exit from left))) j.2
          (ap (λ o. option_and_then (λ (t : Held A). option_and_then (λ (s : Held A). back_of b.done t.node s.node) (slice_get b.nodes j.0)) o) h.2
          ∙ ap (λ o. option_and_then (λ (s : Held A). back_of b.done h.0.node s.node) o) g.2
          ∙ ap (λ n. back_of b.done n g.0.node) h.3
          ∙ ap (λ n. back_of b.done (At pc calls frame) n) g.3
          ∙ if_true _ _ _ k.4)
      known-unit_at (unit.Back (At pc calls frame) (At from calls' frame')) p k e = absurd k
      known-unit_at (unit.Back (Exit pc frame) x) p k e = absurd k

      module _ (out : List (WorkUnit × Place))
          (home : (u : WorkUnit) → out_at b.out u ≡ None → place_out out u ≡ None)
          (gone : (u : WorkUnit) (o : Out A) → out_at b.out u ≡ Some o → is_some (place_out out u) ≡ true) where
        at_home : (u : WorkUnit) (o : Option (Out A)) → out_at b.out u ≡ o → is_some (place_out out u) ≡ false → o ≡ None
        at_home u None e h = refl
        at_home u (Some o) e h = let s = gone u o e in let bad : true ≡ false = sym s ∙ h in absurd (cc)

        -- what is found at a place can be claimed, and has that place
        pub claimable_at-is : (p : Place) (u : WorkUnit) → claimable_at b.nodes b.done out p ≡ Some u
            → IsClaimable b u × (placed b.nodes u ≡ Some p)
        claimable_at-is p u e =
            let r = then_some (λ (v : WorkUnit). if is_some (place_out out v) then None else if due_of (done_at b.done v) (versions_of b.nodes v) then Some v else None) (unit_at b.nodes b.done p) u e in
            let s = unless_some _ _ u r.2 in
            let t = if_some _ r.0 u s.1 in
            let k = unit_at-known p r.0 r.1 in
            let claimable : IsClaimable b r.0 = record {
              known = k.0;
              at_home = at_home r.0 (out_at b.out r.0) refl s.0;
              due = due-true _ _ t.0;
            } in
            (subst (λ v. IsClaimable b v) t.1 claimable, ap (λ v. placed b.nodes v) (sym t.1) ∙ k.1)

        -- what can be claimed is found at its place
        pub claimable_at-finds : (u : WorkUnit) (p : Place) → IsClaimable b u → placed b.nodes u ≡ Some p
            → claimable_at b.nodes b.done out p ≡ Some u
        claimable_at-finds u p k e =
            ap (λ o. option_and_then (λ (v : WorkUnit). if is_some (place_out out v) then None else if due_of (done_at b.done v) (versions_of b.nodes v) then Some v else None) o) (known-unit_at u p k.known e)
            ∙ if_false _ _ _ (ap (λ o. is_some o) (home u k.at_home))
            ∙ if_true _ _ _ (due-is _ _ k.due)

  place_one : (hs : List (Held A)) (n m : Node) (i : ℕ) → place_of hs n ≡ Some i → place_of hs m ≡ Some i → n ≡ m
  place_one hs n m i e f =
      let h = held-place hs n i e in
      let g = held-place hs m i f in
      let same : Some h.0 ≡ Some g.0 = sym h.2 ∙ g.2 in
      let one : h.0 ≡ g.0 = cc in
      sym h.3 ∙ ap (λ x. x.node) one ∙ g.3

  -- a place has one unit
  pub placed_one : (hs : List (Held A)) (u v : WorkUnit) (q : Place) → placed hs u ≡ Some q → placed hs v ≡ Some q → u ≡ v
  placed_one hs (unit.One n) (unit.One m) q e f =
      let i = map_some (λ (i : ℕ). place.One i) (place_of hs n) q e in
      let j = map_some (λ (i : ℕ). place.One i) (place_of hs m) q f in
      let same : place.One i.0 ≡ place.One j.0 = i.2 ∙ sym j.2 in
      let at : i.0 ≡ j.0 = cc in
      ap (λ x. unit.One x) (place_one hs n m j.0 (i.1 ∙ ap (λ k. Some k) at) j.1)
  placed_one hs (unit.One n) (unit.Back m y) q e f =
      let i = map_some (λ (i : ℕ). place.One i) (place_of hs n) q e in
      let j = then_some (λ (i : ℕ). option_map (λ j. place.Back i j) (place_of hs y)) (place_of hs m) q f in
      let k = map_some (λ (k : ℕ). place.Back j.0 k) (place_of hs y) q j.2 in
      let bad : place.One i.0 ≡ place.Back j.0 k.0 = i.2 ∙ sym k.2 in absurd (cc)
  placed_one hs (unit.Back n x) (unit.One m) q e f =
      let i = map_some (λ (i : ℕ). place.One i) (place_of hs m) q f in
      let j = then_some (λ (i : ℕ). option_map (λ j. place.Back i j) (place_of hs x)) (place_of hs n) q e in
      let k = map_some (λ (k : ℕ). place.Back j.0 k) (place_of hs x) q j.2 in
      let bad : place.One i.0 ≡ place.Back j.0 k.0 = i.2 ∙ sym k.2 in absurd (cc)
  placed_one hs (unit.Back n x) (unit.Back m y) q e f =
      let i = then_some (λ (i : ℕ). option_map (λ j. place.Back i j) (place_of hs x)) (place_of hs n) q e in
      let l = map_some (λ (k : ℕ). place.Back i.0 k) (place_of hs x) q i.2 in
      let j = then_some (λ (i : ℕ). option_map (λ j. place.Back i j) (place_of hs y)) (place_of hs m) q f in
      let k = map_some (λ (k : ℕ). place.Back j.0 k) (place_of hs y) q j.2 in
      let same : place.Back i.0 l.0 ≡ place.Back j.0 k.0 = l.2 ∙ sym k.2 in
      let first : i.0 ≡ j.0 = cc in
      let second : l.0 ≡ k.0 = cc in
      ap₂ (λ a b. unit.Back a b) (place_one hs n m j.0 (i.1 ∙ ap (λ r. Some r) first) j.1) (place_one hs x y k.0 (l.1 ∙ ap (λ r. Some r) second) k.1)

  -- the order of units is the order of their places
  pub before-places : (hs : List (Held A)) (u v : WorkUnit) (p q : Place) → placed hs u ≡ Some p → placed hs v ≡ Some q
      → ComesBefore hs u v → IsBefore p q
  before-places hs (unit.One n) (unit.One m) p q e f h =
      let i = map_some (λ (i : ℕ). place.One i) (place_of hs n) p e in
      let j = map_some (λ (i : ℕ). place.One i) (place_of hs m) q f in
      let less : IsBelow (Some i.0) (Some j.0) = subst (λ o. IsBelow (Some i.0) o) j.1 (subst (λ o. IsBelow o (place_of hs m)) i.1 h) in
      let at : IsBefore p (place.One j.0) = subst (λ r. IsBefore r (place.One j.0)) i.2 less in
      subst (λ r. IsBefore p r) j.2 at
  before-places hs (unit.One n) (unit.Back m y) p q e f h =
      let i = map_some (λ (i : ℕ). place.One i) (place_of hs n) p e in
      let j = then_some (λ (i : ℕ). option_map (λ j. place.Back i j) (place_of hs y)) (place_of hs m) q f in
      let k = map_some (λ (k : ℕ). place.Back j.0 k) (place_of hs y) q j.2 in
      let at : IsBefore p (place.Back j.0 k.0) = subst (λ r. IsBefore r (place.Back j.0 k.0)) i.2 tt in
      subst (λ r. IsBefore p r) k.2 at
  before-places hs (unit.Back n x) (unit.One m) p q e f h = absurd h
  before-places hs (unit.Back n x) (unit.Back m y) p q e f h =
      let i = then_some (λ (i : ℕ). option_map (λ j. place.Back i j) (place_of hs x)) (place_of hs n) p e in
      let l = map_some (λ (k : ℕ). place.Back i.0 k) (place_of hs x) p i.2 in
      let j = then_some (λ (i : ℕ). option_map (λ j. place.Back i j) (place_of hs y)) (place_of hs m) q f in
      let k = map_some (λ (k : ℕ). place.Back j.0 k) (place_of hs y) q j.2 in
      let less : (i.0 < j.0) ⊎ ((i.0 ≡ j.0) × (l.0 < k.0)) = elim h [
        | inl a ↦ inl (below _ _ i.0 j.0 i.1 j.1 a)
        | inr a ↦ inr (same_place _ _ i.0 j.0 i.1 j.1 a.0, below _ _ l.0 k.0 l.1 k.1 a.1)
      ] in
      let at : IsBefore p (place.Back j.0 k.0) = subst (λ r. IsBefore r (place.Back j.0 k.0)) l.2 less in
      subst (λ r. IsBefore p r) k.2 at
    where
      below : (o u : Option ℕ) (a c : ℕ) → o ≡ Some a → u ≡ Some c → IsBelow o u → a < c
      below o u a c e f h =
          let g : IsBelow (Some a) (Some c) = subst (λ t. IsBelow (Some a) t) f (subst (λ t. IsBelow t u) e h) in g

      same_place : (o u : Option ℕ) (a c : ℕ) → o ≡ Some a → u ≡ Some c → o ≡ u → a ≡ c
      same_place o u a c e f h = let g : Some a ≡ Some c = sym e ∙ h ∙ f in cc
