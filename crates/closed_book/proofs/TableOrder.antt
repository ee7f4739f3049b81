-- A table is the same in whatever order its nodes stand.
use Rattle.std.proofs.Common.{◌≡◌, Option, None, Some, true, List, refl, sym, ap, ◌∙◌, subst}
use Rattle.std.specs.Prelude.{◌↔◌, Contains, IsPermutation}
use Rattle.std.specs.Cmp.{IsEquivalence}
use Rattle.std.specs.List.{IsDistinct}
use Rattle.std.specs.Map.{keys_of}
use Rattle.std.proofs.lemmas.List.Sorted.{Contains-permutation, IsPermutation-map, IsPermutation-sym}
use Rattle.std.proofs.lemmas.Map.Keys.{IsDistinct-IsPermutation}
use Rattle.std.proofs.lemmas.Map.Views.{Contains-from_lookup, lookup-from_Contains}
use Rattle.call_context.specs.declared.node.Node.{Node}
use Rattle.call_context.specs.declared.node.Unit.{Unit as WorkUnit}
use Rattle.chip_analysis.specs.Analysis.{Analysis}
use Rattle.chip_analysis.specs.Table.{IsClosedTable}
use Rattle.chip_analysis.specs.declared.chip.Work.{Work}
use Rattle.closed_book.specs.ClosedBook.{HaveSame, IsClosedBook, table_in}
use Rattle.closed_book.proofs.ClosedBooks.{closed_like, unit_like}
use Rattle.book_rules.specs.Same.{same_node}
use Rattle.plain_lemmas.specs.Cases.{one_test}

module _ (one : (m n : Node) → (same_node m n ≡ true) ↔ (m ≡ n)) where
  turned : (m n : Node) → same_node m n ≡ same_node n m
  turned m n = one_test (same_node m n) (same_node n m) (λ is. (one n m).1 (sym ((one m n).0 is))) (λ is. (one m n).1 (sym ((one n m).0 is)))

  equivalence : IsEquivalence same_node
  equivalence = record {
    refl = λ node. (one node node).1 refl;
    symm = turned;
    congr = λ x y z same. ap (λ node. same_node node z) ((one x y).0 same);
  }

  module _ {A : Type 0} where
    -- what one table holds another one holds too
    held_too : (nodes others : List (Node × A)) → IsDistinct same_node (keys_of others) → IsPermutation nodes others
        → (node : Node) (state : A)
        → table_in nodes node ≡ Some state → table_in others node ≡ Some state
    held_too nodes others distinct same node state held =
        lookup-from_Contains equivalence node state others distinct
        (Contains-permutation nodes others (node, state) same (Contains-from_lookup (λ x y h. (one x y).0 h) node state nodes held))

    one_value : (x y : Option A) → ((v : A) → x ≡ Some v → y ≡ Some v) → ((v : A) → y ≡ Some v → x ≡ Some v) → x ≡ y
    one_value (Some v) y f g = sym (f v refl)
    one_value None (Some v) f g = g v refl
    one_value None None f g = refl

    pub one_table : (nodes others : List (Node × A)) → IsDistinct same_node (keys_of nodes) → IsPermutation nodes others → (node : Node)
        → table_in nodes node ≡ table_in others node
    one_table nodes others distinct same node =
        let keys = IsPermutation-map (λ (row : Node × A). row.0) nodes others same in
        let distinct' = IsDistinct-IsPermutation same_node turned (keys_of nodes) (keys_of others) keys distinct in
        one_value (table_in nodes node) (table_in others node) (held_too nodes others distinct' same node)
        (held_too others nodes distinct (IsPermutation-sym nodes others same) node)

    pub closed_too : (m : Analysis A) (nodes others : List (Node × A)) → IsDistinct same_node (keys_of nodes) → IsPermutation nodes others
        → IsClosedTable m (table_in nodes) → IsClosedTable m (table_in others)
    closed_too m nodes others distinct same = closed_like m (table_in nodes) (table_in others) (one_table nodes others distinct same)

    works_too : (m : Analysis A) (nodes others : List (Node × A)) (works more : List (WorkUnit × Work A)) → IsPermutation nodes others
        → IsClosedBook m nodes works → IsClosedBook m others more → (pair : WorkUnit × Work A) → Contains works pair → Contains more pair
    works_too m nodes others works more same closed closed' pair there =
        let is = closed.units pair there in
        let over = unit_like m (table_in nodes) (table_in others) (one_table nodes others closed.distinct same) pair.0 is.at is.exit is.is_unit in
        subst (λ (work : Work A). Contains more (pair.0, work)) (sym is.is_work) (closed'.each pair.0 is.at is.exit over)

    pub same_works : (m : Analysis A) (nodes others : List (Node × A)) (works more : List (WorkUnit × Work A)) → IsPermutation nodes others
        → IsClosedBook m nodes works → IsClosedBook m others more → HaveSame works more
    same_works m nodes others works more same closed closed' pair = (
      works_too m nodes others works more same closed closed' pair,
      works_too m others nodes more works (IsPermutation-sym nodes others same) closed' closed pair,
    )
