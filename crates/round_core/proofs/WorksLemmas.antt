-- The units of a book that were done in the rows of a table.
use Rattle.std.specs.Prelude.{◌≡◌, ℕ, Bool, Option, None, Some, List, [], ◌∷◌, map, MatchOption}
use Rattle.std.specs.Borrow.{Bor}
use Rattle.std.specs.Option.{option_map}
use Rattle.std.specs.Map.{lookup}
use Rattle.std.proofs.Common.{refl, sym, ◌∙◌, ap, inl, inr}
use Rattle.indexmap.specs.IndexMap.{insert_entry}
use Rattle.call_context.specs.declared.node.Unit.{Unit as WorkUnit}
use Rattle.chip_analysis.specs.declared.chip.Work.{Work}
use Rattle.book_rules.specs.declared.versions.Versions.{Versions}
use Rattle.book_rules.specs.Same.{same_unit}
use Rattle.book_rules.specs.Machine.{Done, done_at, with_done}
use Rattle.round_core.specs.Rows.{value_part}
use Rattle.round_core.specs.Works.{done_of}
use Rattle.round_core.proofs.Cases.{truth, if_true, if_false}
use Rattle.book_rules.specs.SameTests.{same_unit-eq}

module _ {A : Type 0} where
  pub values-works : (rows : List (WorkUnit × (Work A × Versions)))
      → map value_part rows ≡ map (λ (d : Done A). (d.unit, d.work)) (map done_of rows)
  values-works [] = refl
  values-works (row ∷ rows) = ap (λ t. value_part row ∷ t) (values-works rows)

  -- a test that is that of the definitions
  module _ (unit : WorkUnit) (test : WorkUnit → Bool) (t : (k : WorkUnit) → test k ≡ same_unit unit k) where
    abbrev found_as : Work A × Versions → Done A
    found_as found = done_of (unit, found)

    pub lookup-done : (rows : List (WorkUnit × (Work A × Versions)))
        → done_at (map done_of rows) unit ≡ option_map found_as (lookup test rows)
    lookup-done [] = refl
    lookup-done (row ∷ rows) = elim (truth (same_unit unit row.0)) [
      | inl s ↦
          if_true _ _ _ s ∙ ap (λ k. Some (done_of (k, row.1))) (sym (same_unit-eq unit row.0 s))
          ∙ ap (option_map found_as) (sym (if_true _ _ _ (t row.0 ∙ s)))
      | inr s ↦ if_false _ _ _ s ∙ lookup-done rows ∙ ap (option_map found_as) (sym (if_false _ _ _ (t row.0 ∙ s)))
    ]

    -- what a table finds is what the book has done
    pub found-done : (rows : List (WorkUnit × (Work A × Versions))) (r : Option (ℕ × Bor (Work A) × Versions))
        → MatchOption r (lookup test rows ≡ None) (λ found. lookup test rows ≡ Some (found.1.now, found.2))
        → MatchOption r (done_at (map done_of rows) unit ≡ None) (λ found. done_at (map done_of rows) unit ≡ Some (record { unit = unit; work = found.1.now; versions = found.2 }))
    found-done rows None h = lookup-done rows ∙ ap (option_map found_as) h
    found-done rows (Some found) h = lookup-done rows ∙ ap (option_map found_as) h

  pub set-works : (eq : WorkUnit → WorkUnit → Bool) (unit : WorkUnit) → ((k : WorkUnit) → eq unit k ≡ same_unit unit k)
      → (work : Work A) (versions : Versions)
      → (rows : List (WorkUnit × (Work A × Versions)))
      → map done_of (insert_entry eq rows unit (work, versions)) ≡ with_done (map done_of rows) (done_of (unit, (work, versions)))
  set-works eq unit t work versions [] = refl
  set-works eq unit t work versions (row ∷ rows) = elim (truth (same_unit unit row.0)) [
    | inl s ↦
        ap (map done_of) (if_true _ _ _ (t row.0 ∙ s))
        ∙ ap (λ k. done_of (k, (work, versions)) ∷ map done_of rows) (sym (same_unit-eq unit row.0 s)) ∙ sym (if_true _ _ _ s)
    | inr s ↦
        ap (map done_of) (if_false _ _ _ (t row.0 ∙ s))
        ∙ ap (λ r. done_of row ∷ r) (set-works eq unit t work versions rows) ∙ sym (if_false _ _ _ s)
  ]
