-- The nodes of a book in the rows of a table.
use Rattle.std.specs.Prelude.{◌≡◌, ◌≤◌, ℕ, Bool, Option, None, Some, List, [], ◌∷◌, map, length, slice_get, position, unwrap_or, IfSome, MatchOption}
use Rattle.std.specs.Borrow.{Bor}
use Rattle.std.specs.Option.{option_map}
use Rattle.std.specs.Map.{keys_of, lookup}
use Rattle.std.proofs.Common.{refl, sym, ◌∙◌, ap, inl, inr, arith}
use Rattle.std.proofs.lemmas.Bool.Decides.{nat_tests}
use Rattle.indexmap.specs.IndexMap.{insert_entry}
use Rattle.call_context.specs.declared.node.Node.{Node}
use Rattle.book_rules.specs.Same.{same_node}
use Rattle.book_rules.specs.SameTests.{same_node-eq}
use Rattle.book_rules.specs.Machine.{Held, held_at, with_held, place_of, version_of}
use Rattle.round_core.specs.Nodes.{held_of, big_part}
use Rattle.round_core.specs.Rows.{mark_part, value_part}
use Rattle.round_core.proofs.Cases.{truth, if_true, if_false, no_place, map-get, length-parts}

abbrev some_zero : Option ℕ
some_zero = Some 0

module _ {A : Type 0} where
  pub values-nodes : (rows : List (Node × (A × ℕ))) → map value_part rows ≡ map big_part (map held_of rows)
  values-nodes [] = refl
  values-nodes (row ∷ rows) = ap (λ t. value_part row ∷ t) (values-nodes rows)

  pub at-none : (node : Node) (hs : List (Held A)) → place_of hs node ≡ None → held_at hs node ≡ None
  at-none node [] p = refl
  at-none node (h ∷ hs) p = elim (truth (same_node node h.node)) [
    | inl s ↦ let here : some_zero ≡ None = sym (if_true _ _ _ s) ∙ p in absurd (cc)
    | inr s ↦ if_false _ _ _ s ∙ at-none node hs (no_place _ (sym (if_false _ _ _ s) ∙ p))
  ]

  -- a test that is that of the definitions
  module _ (node : Node) (test : Node → Bool) (t : (k : Node) → test k ≡ same_node node k) where
    abbrev found_as : A × ℕ → Held A
    found_as found = held_of (node, found)

    pub lookup-held : (rows : List (Node × (A × ℕ))) → held_at (map held_of rows) node ≡ option_map found_as (lookup test rows)
    lookup-held [] = refl
    lookup-held (row ∷ rows) = elim (truth (same_node node row.0)) [
      | inl s ↦
          if_true _ _ _ s ∙ ap (λ k. Some (held_of (k, row.1))) (sym (same_node-eq node row.0 s))
          ∙ ap (option_map found_as) (sym (if_true _ _ _ (t row.0 ∙ s)))
      | inr s ↦ if_false _ _ _ s ∙ lookup-held rows ∙ ap (option_map found_as) (sym (if_false _ _ _ (t row.0 ∙ s)))
    ]

    -- what a table finds is what the book holds
    pub found-held : (rows : List (Node × (A × ℕ))) (r : Option (ℕ × Bor A × ℕ))
        → MatchOption r (lookup test rows ≡ None) (λ found. lookup test rows ≡ Some (found.1.now, found.2))
        → MatchOption r (held_at (map held_of rows) node ≡ None) (λ found. held_at (map held_of rows) node ≡ Some (record { node = node; state = found.1.now; rises = found.2 }))
    found-held rows None h = lookup-held rows ∙ ap (option_map found_as) h
    found-held rows (Some found) h = lookup-held rows ∙ ap (option_map found_as) h

    pub position-nodes : (rows : List (Node × (A × ℕ))) → position test (keys_of rows) ≡ place_of (map held_of rows) node
    position-nodes [] = refl
    position-nodes (row ∷ rows) = elim (truth (same_node node row.0)) [
      | inl s ↦ let e = t row.0 ∙ s in grind (arith, nat_tests, e, s)
      | inr s ↦ let e = t row.0 ∙ s in let i = position-nodes rows in grind (arith, nat_tests, e, s, i)
    ]

  -- the row at a place
  pub row-at : (rows : List (Node × (A × ℕ))) (place : ℕ) (r : Option (Bor Node × Bor A × ℕ))
      → MatchOption r (length rows ≤ place) (λ found. slice_get rows place ≡ Some (found.0.now, (found.1.now, found.2)))
      → MatchOption r (length (map held_of rows) ≤ place) (λ found. slice_get (map held_of rows) place ≡ Some (held_of (found.0.now, (found.1.now, found.2))))
  row-at rows place None h = let l = length-parts held_of rows in omega arith
  row-at rows place (Some found) h = map-get held_of rows place (found.0.now, (found.1.now, found.2)) h

  version-marks : (node : Node) (test : Node → Bool) → ((k : Node) → test k ≡ same_node node k) → (rows : List (Node × (A × ℕ))) (count : ℕ)
      → lookup test (map mark_part rows) ≡ Some count → version_of (map held_of rows) node ≡ count
  version-marks node test t [] count h = absurd (cc)
  version-marks node test t (row ∷ rows) count h = elim (truth (same_node node row.0)) [
    | inl s ↦
        let here : Some row.1.1 ≡ Some count = sym (if_true _ _ _ (t row.0 ∙ s)) ∙ h in
        let same : row.1.1 ≡ count = cc in
        ap (λ o. unwrap_or (option_map (λ (h : Held A). h.rises) o) 0) (if_true _ _ _ s) ∙ same
    | inr s ↦
        ap (λ o. unwrap_or (option_map (λ (h : Held A). h.rises) o) 0) (if_false _ _ _ s)
        ∙ version-marks node test t rows count (sym (if_false _ _ _ (t row.0 ∙ s)) ∙ h)
  ]

  -- what a mark is found to be is how often its node rose
  pub version-at : (eq : Node → Node → Bool) → ((n k : Node) → eq n k ≡ same_node n k)
      → (rows : List (Node × (A × ℕ))) (r : Option (Bor Node × Bor A × ℕ))
      → IfSome r (λ found. lookup (eq found.0.now) (map mark_part rows) ≡ Some found.2)
      → IfSome r (λ found. version_of (map held_of rows) found.0.now ≡ found.2)
  version-at eq t rows None h = tt
  version-at eq t rows (Some found) h = version-marks found.0.now (eq found.0.now) (t found.0.now) rows found.2 h

  pub set-nodes : (eq : Node → Node → Bool) (node : Node) → ((k : Node) → eq node k ≡ same_node node k)
      → (state : A) (rises : ℕ) (rows : List (Node × (A × ℕ)))
      → map held_of (insert_entry eq rows node (state, rises)) ≡ with_held (map held_of rows) (held_of (node, (state, rises)))
  set-nodes eq node t state rises [] = refl
  set-nodes eq node t state rises (row ∷ rows) = elim (truth (same_node node row.0)) [
    | inl s ↦
        ap (map held_of) (if_true _ _ _ (t row.0 ∙ s))
        ∙ ap (λ k. held_of (k, (state, rises)) ∷ map held_of rows) (sym (same_node-eq node row.0 s)) ∙ sym (if_true _ _ _ s)
    | inr s ↦
        ap (map held_of) (if_false _ _ _ (t row.0 ∙ s))
        ∙ ap (λ r. held_of row ∷ r) (set-nodes eq node t state rises rows) ∙ sym (if_false _ _ _ s)
  ]
