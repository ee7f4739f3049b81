-- The certificate of a closed table is accepted.
use Rattle.std.proofs.Common.{◌≡◌, ap, refl, List}
use Rattle.std.specs.Prelude.{◌↔◌, true, Contains, IsPermutation}
use Rattle.std.specs.Cmp.{IsEquivalence}
use Rattle.std.specs.List.{IsDistinct}
use Rattle.std.specs.Map.{keys_of}
use Rattle.std.proofs.lemmas.List.Elements.{All-contains_itself, All-from_recursion, recursion_from_All}
use Rattle.std.proofs.lemmas.List.Sorted.{All-permutation, IsPermutation-map}
use Rattle.std.proofs.lemmas.Map.Keys.{IsDistinct-IsPermutation}
use Rattle.std.proofs.lemmas.Map.Views.{lookup-from_Contains}
use Rattle.call_context.specs.declared.node.Node.{Node}
use Rattle.chip_analysis.specs.Analysis.{Analysis}
use Rattle.chip_analysis.specs.Table.{IsFormedTable}
use Rattle.closed_book.specs.ClosedBook.{table_in}
use Rattle.book_rules.specs.Same.{same_node}
use Rattle.cert_text.specs.Writing.{AreNodes}
use Rattle.cert_check.proofs.ClosedLemmas.{all_weaker}
use Rattle.cert_check.proofs.TableLemmas.{flips_from}

module _ (one : (m n : Node) → (same_node m n ≡ true) ↔ (m ≡ n)) {A : Type 0} (a : Analysis A) where
  equivalence : IsEquivalence same_node
  equivalence = record { refl = λ x. (one x x).1 refl; symm = flips_from one; congr = λ x y z h. ap (λ n. same_node n z) ((one x y).0 h) }

  -- the nodes of a formed table
  pub nodes_of_table : (nodes : List (Node × A)) → IsDistinct same_node (keys_of nodes)
      → IsFormedTable a (table_in nodes) → AreNodes a nodes
  nodes_of_table nodes distinct formed = record {
    distinct = distinct;
    formed = All-from_recursion (λ row. a.HasForm row.0 row.1) nodes (all_weaker (Contains nodes) (λ row. a.HasForm row.0 row.1)
        (λ row there. formed row.0 row.1 (lookup-from_Contains equivalence row.0 row.1 nodes distinct there)) nodes
        (recursion_from_All (Contains nodes) nodes (All-contains_itself nodes)));
  }

  -- in any order
  pub nodes_reordered : (nodes rows : List (Node × A)) → IsPermutation nodes rows → AreNodes a nodes → AreNodes a rows
  nodes_reordered nodes rows same are = record {
    distinct = IsDistinct-IsPermutation same_node (flips_from one) (keys_of nodes) (keys_of rows)
        (IsPermutation-map (λ (row : Node × A). row.0) nodes rows same) are.distinct;
    formed = All-permutation (λ row. a.HasForm row.0 row.1) nodes rows same are.formed;
  }
