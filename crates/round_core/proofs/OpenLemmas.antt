-- The book with one node.
use Rattle.std.specs.Prelude.{◌≡◌, ℕ, Bool, true, false, Option, None, Some, List, [], ◌∷◌, if◌then◌else◌}
use Rattle.std.specs.Option.{option_map}
use Rattle.std.proofs.Common.{refl, sym, ◌∙◌, ap, subst, inl, inr}
use Rattle.call_context.specs.declared.node.Frame.{Frame}
use Rattle.call_context.specs.declared.node.Node.{Node}
use Rattle.call_context.specs.declared.node.Node.TheVariants.{At, Exit}
use Rattle.call_context.specs.declared.node.Unit.{Unit as WorkUnit}
use Rattle.call_context.specs.declared.node.Unit.TheVariants as unit
use Rattle.book_rules.specs.Same.{same_node}
use Rattle.book_rules.specs.SameTests.{same_node-eq}
use Rattle.round_core.specs.declared.parts.Parts.{Parts}
use Rattle.round_core.specs.declared.place.Place.TheVariants as place
use Rattle.book_rules.specs.Machine.{Held, place_of, held_at, IsUnit}
use Rattle.round_core.specs.Agenda.{AreDifferent, IsIn, places_in}
use Rattle.round_core.specs.Opening.{one_node, ExpectsOne}
use Rattle.round_core.specs.Shown.{IsExpected, Shows}
use Rattle.round_core.proofs.Cases.{truth, if_true, if_false}

module _ {A : Type 0} (node : Node) (state : A) where
  only : (n : Node) (i : ℕ) → place_of (one_node node state).nodes n ≡ Some i → (n ≡ node) × (i ≡ 0)
  only n i e = elim (truth (same_node n node)) [
    | inl s ↦ let z : Some 0 ≡ Some i = sym (if_true _ _ _ s) ∙ e in let f : i ≡ 0 = cc in (same_node-eq n node s, f)
    | inr s ↦ let z : None ≡ Some i = sym (if_false _ _ _ s) ∙ e in absurd (cc)
  ]

  only_held : (n : Node) (h : Held A) → held_at (one_node node state).nodes n ≡ Some h
      → (n ≡ node) × (place_of (one_node node state).nodes n ≡ Some 0)
  only_held n h e = elim (truth (same_node n node)) [
    | inl s ↦ (same_node-eq n node s, if_true _ _ _ s)
    | inr s ↦ let z : None ≡ Some h = sym (if_false _ _ _ s) ∙ e in absurd (cc)
  ]

  -- the parts that hold one node and expect it
  pub open-shown : (p : Parts A) → p.nodes.rows ≡ (one_node node state).nodes → p.works.rows ≡ []
      → p.turns.out ≡ [] → p.turns.returned ≡ []
      → ExpectsOne p.agenda node → Shows (one_node node state) p
  open-shown p hs ds os rs e = record {
    nodes = hs;
    done = ds;
    distinct = (refl, tt);
    home = λ u h. ap (λ es. Rattle.round_core.specs.Turns.place_out es u) os;
    out = λ u o h. absurd (cc);
    count = ap Rattle.std.specs.Prelude.length os;
    apart = tt;
    given_back = record {
      once = subst (λ l. AreDifferent l) (sym rs) tt;
      home = λ u q h i. let none : IsIn q [] = subst (λ l. IsIn q l) rs i in none;
    };
    expected = λ u k. expect u k.known;
    waiting = λ n f w. let bad : false ≡ true = w in absurd (cc);
    exits = λ pc f i at. exit pc f i at;
  }
    where
      expect : (u : WorkUnit) → IsUnit (one_node node state) u
          → IsExpected (one_node node state).nodes p.agenda.candidates.keys p.turns.returned u
      expect (unit.One (At pc calls frame)) k =
          let s = only_held (At pc calls frame) k.0 k.1 in
          let x : ExpectsOne p.agenda (At pc calls frame) = subst (λ n. ExpectsOne p.agenda n) (sym s.0) e in
          (place.One 0, ap (λ o. option_map (λ i. place.One i) o) s.1, inl x)
      expect (unit.One (Exit pc frame)) k = absurd k
      expect (unit.Back (At pc calls frame) (Exit from left)) k = let bad : false ≡ true = k.4 in absurd (cc)
      expect (unit.Back (At pc calls frame) (At from calls' frame')) k = absurd k
      expect (unit.Back (Exit pc frame) x) k = absurd k

      exit : (pc : ℕ) (f : Frame) (i : ℕ) → place_of (one_node node state).nodes (Exit pc f) ≡ Some i → IsIn i (places_in p.agenda.exits f)
      exit pc f i at =
          let s = only (Exit pc f) i at in
          let x : ExpectsOne p.agenda (Exit pc f) = subst (λ n. ExpectsOne p.agenda n) (sym s.0) e in
          subst (λ j. IsIn j (places_in p.agenda.exits f)) (sym s.1) x
