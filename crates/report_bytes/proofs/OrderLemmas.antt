-- In whatever order works stand, they have the same report.
use Rattle.std.proofs.Common.{◌≡◌, ℕ, Bool, true, Option, None, List, [], ap, ap₂, ◌∙◌, subst, inl, inr}
use Rattle.std.specs.Prelude.{◌&&◌, Contains}
use Rattle.std.specs.List.{flat_map}
use Rattle.std.specs.Map.{values_of}
use Rattle.std.proofs.lemmas.Map.Made.{Contains-values_of}
use Rattle.call_context.specs.declared.node.Node.{Node}
use Rattle.call_context.specs.declared.node.Unit.{Unit as WorkUnit}
use Rattle.call_context.specs.declared.shown.Item.{Item}
use Rattle.chip_analysis.specs.Analysis.{Analysis}
use Rattle.chip_analysis.specs.declared.chip.Work.{Work}
use Rattle.closed_book.specs.ClosedBook.{HaveSame, IsClosedBook}
use Rattle.report_bytes.specs.Deepest.{deepest_of}
use Rattle.report_bytes.specs.Report.{are_closed, items_of, lines_of, report_of, report_text, with_lines}
use Rattle.report_bytes.specs.Stacks.{GrowsOneWay, HasOneStack}
use Rattle.report_bytes.proofs.OneStackLemmas.{one_deepest}
use Rattle.report_bytes.specs.ClosedWorks.{all_closed, none_open}
use Rattle.report_bytes.proofs.SetLemmas.{one_set}
use Rattle.plain_lemmas.specs.Members.{from_flat_map, from_values, in_flat_map}
use Rattle.plain_lemmas.specs.Cases.{one_test}

flat_among : {X Y : Type 0} (f : X → List Y) (xs ys : List X) → ((x : X) → Contains xs x → Contains ys x) → (y : Y)
    → Contains (flat_map f xs) y
    → Contains (flat_map f ys) y
flat_among f xs ys are y there = let found = from_flat_map f xs y there in in_flat_map f ys found.0 y (are found.0 found.1) found.2

module _ {A : Type 0} where
  closed_among : (works others : List (Work A)) → ((work : Work A) → Contains others work → Contains works work) → are_closed works ≡ true
      → are_closed others ≡ true
  closed_among works others are closed = all_closed others (λ work there. none_open works closed work (are work there))

  pub one_report : (text : ℕ → List ℕ → List ℕ) (finished : Bool) (works others : List (Work A)) → HaveSame works others
      → GrowsOneWay (items_of works)
      → report_of text finished works ≡ report_of text finished others
  one_report text finished works others same one_way =
      let are = λ (work : Work A). (same work).0 in
      let are' = λ (work : Work A). (same work).1 in
      let closed = one_test (are_closed works) (are_closed others) (closed_among works others are') (closed_among others works are) in
      let lines = one_set (flat_map (lines_of text) works) (flat_map (lines_of text) others) (flat_among (lines_of text) works others are)
      (flat_among (lines_of text) others works are') in
      let shown = λ (work : Work A). work.items in
      let deepest = one_deepest (items_of works) (items_of others) one_way (flat_among shown works others are) (flat_among shown others works are') in
      ap (λ c. report_text (finished && c) (with_lines [] (flat_map (lines_of text) works)) (deepest_of None (items_of works))) closed
      ∙ ap₂ (λ set d. report_text (finished && are_closed others) set d) lines deepest

  -- CLOSED BOOKS OF ONE TABLE

  values_among : (works more : List (WorkUnit × Work A))
      → ((pair : WorkUnit × Work A) → Contains works pair → Contains more pair) → (work : Work A)
      → Contains (values_of works) work → Contains (values_of more) work
  values_among works more are work there =
      let found = from_values works work there in
      Contains-values_of more found.0 work (are (found.0, work) found.1)

  pub same_values : (works more : List (WorkUnit × Work A)) → HaveSame works more → HaveSame (values_of works) (values_of more)
  same_values works more same work = (
    values_among works more (λ pair. (same pair).0) work,
    values_among more works (λ pair. (same pair).1) work,
  )

  -- an item of a closed book is one of a unit's work
  module _ (a : Analysis A) (nodes : List (Node × A)) (works : List (WorkUnit × Work A)) (closed : IsClosedBook a nodes works) where
    shown_by : (item : Item) → Contains (items_of (values_of works)) item
        → (unit : WorkUnit) × (at : A) × (exit : Option A) × Contains (a.work unit at exit).items item
    shown_by item there =
        let by = from_flat_map (λ (work : Work A). work.items) (values_of works) item there in
        let unit = from_values works by.0 by.1 in
        let is = closed.units (unit.0, by.0) unit.1 in
        (unit.0, is.at, is.exit, subst (λ (work : Work A). Contains work.items item) is.is_work by.2)

    pub grows_one_way : HasOneStack a → GrowsOneWay (items_of (values_of works))
    grows_one_way (inl words) = inl (λ pc values there. let by = shown_by _ there in words by.0 by.1 by.2 pc values by.3)
    grows_one_way (inr bytes) = inr (λ pc values there. let by = shown_by _ there in bytes by.0 by.1 by.2 pc values by.3)
