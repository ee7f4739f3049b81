-- The nodes of a book have a certificate.
use Rattle.std.proofs.Common.{◌≡◌, refl, sym, ap, ◌∙◌, true, false, inl, inr, None, Some, List, [], ◌∷◌, map}
use Rattle.std.specs.Prelude.{◌↔◌, option_map}
use Rattle.std.specs.List.{AllByRecursion, IsDistinct}
use Rattle.std.specs.Map.{keys_of}
use Rattle.std.proofs.lemmas.Bool.{cases_Bool, cond-true, cond-false}
use Rattle.std.proofs.lemmas.List.Elements.{All-from_recursion}
use Rattle.std.proofs.lemmas.Option.{none-some}
use Rattle.call_context.specs.declared.node.Node.{Node}
use Rattle.chip_analysis.specs.Analysis.{Analysis}
use Rattle.chip_analysis.specs.Table.{IsFormedTable}
use Rattle.book_rules.specs.Counts.{AreApart}
use Rattle.book_rules.specs.Machine.{Held, held_at}
use Rattle.book_rules.specs.Same.{same_node}
use Rattle.book_rules.specs.Table.{table_of}
use Rattle.cert_text.specs.Writing.{AreNodes}

module _ {A : Type 0} where
  abbrev pairs : List (Held A) → List (Node × A)
  pairs hs = map (λ h. (h.node, h.state)) hs

  none_apart : (hs : List (Held A)) (node : Node) → held_at hs node ≡ None
      → AllByRecursion (λ other. same_node node other ≡ false) (keys_of (pairs hs))
  none_apart [] node none = tt
  none_apart (h ∷ hs) node none = elim (cases_Bool (same_node node h.node)) [
    | inl same ↦ absurd (none-some h (sym none ∙ cond-true _ _ _ same))
    | inr other ↦ (other, none_apart hs node (sym (cond-false _ _ _ other) ∙ none))
  ]

  are_distinct : (hs : List (Held A)) → AreApart hs → IsDistinct same_node (keys_of (pairs hs))
  unfolding IsDistinct
  are_distinct [] apart = tt
  are_distinct (h ∷ hs) apart = (none_apart hs h.node apart.0, are_distinct hs apart.1)

module _ {A : Type 0} (a : Analysis A) (one : (m n : Node) → (same_node m n ≡ true) ↔ (m ≡ n)) where
  found_later : (h : Held A) (hs : List (Held A)) (node : Node) (state : A) → held_at hs h.node ≡ None → table_of hs node ≡ Some state
      → table_of (h ∷ hs) node ≡ Some state
  found_later h hs node state none found = elim (cases_Bool (same_node node h.node)) [
    | inl same ↦ absurd (none-some state (sym (ap (option_map (λ (x : Held A). x.state)) (ap (held_at hs) ((one node h.node).0 same) ∙ none)) ∙ found))
    | inr other ↦ ap (option_map (λ (x : Held A). x.state)) (cond-false _ _ _ other) ∙ found
  ]

  are_formed : (hs : List (Held A)) → AreApart hs → IsFormedTable a (table_of hs) → AllByRecursion (λ row. a.HasForm row.0 row.1) (pairs hs)
  are_formed [] apart formed = tt
  are_formed (h ∷ hs) apart formed = (
    formed h.node h.state (ap (option_map (λ (x : Held A). x.state)) (cond-true _ _ _ ((one h.node h.node).1 refl))),
    are_formed hs apart.1 (λ node state found. formed node state (found_later h hs node state apart.0 found)),
  )

  pub book_nodes : (hs : List (Held A)) → AreApart hs → IsFormedTable a (table_of hs) → AreNodes a (map (λ h. (h.node, h.state)) hs)
  book_nodes hs apart formed = record {
    distinct = are_distinct hs apart;
    formed = All-from_recursion (λ row. a.HasForm row.0 row.1) (pairs hs) (are_formed hs apart formed);
  }
