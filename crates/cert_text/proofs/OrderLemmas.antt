-- Rows in order have different nodes.
use Rattle.std.proofs.Common.{◌≡◌, ℕ, refl, sym, ap, ◌∙◌, subst, true, false, inl, inr, List, [], ◌∷◌}
use Rattle.std.specs.Prelude.{◌↔◌}
use Rattle.std.specs.List.{AllByRecursion, IsDistinct}
use Rattle.std.specs.Map.{keys_of}
use Rattle.std.specs.Cmp.Lexicographic.{slice_cmp}
use Rattle.std.specs.Ordering.{is_lt, nat_cmp}
use Rattle.std.specs.declared.cmp.Ordering.{Ordering}
use Rattle.std.specs.declared.cmp.Ordering.TheVariants.{Less, Equal, Greater}
use Rattle.std.proofs.lemmas.Bool.{cases_Bool, false≢true}
use Rattle.std.proofs.lemmas.Cmp.{nat_list_cmp_total, tied_itself}
use Rattle.std.proofs.lemmas.List.Elements.{All-from_recursion}
use Rattle.call_context.specs.declared.node.Node.{Node}
use Rattle.chip_analysis.specs.Analysis.{Analysis}
use Rattle.book_rules.specs.Same.{same_node}
use Rattle.state_text.specs.Texts.{StateTexts}
use Rattle.cert_text.specs.Certificate.{AreRows, Ascend, is_below, node_text, table_row}
use Rattle.cert_text.specs.Writing.{AreNodes}

less_is : (o : Ordering) → is_lt o ≡ true → o ≡ Less
less_is Less h = refl
less_is Equal h = absurd (false≢true h)
less_is Greater h = absurd (false≢true h)

pub below_along : (x y z : List ℕ) → is_below x y ≡ true → is_below y z ≡ true → is_below x z ≡ true
below_along x y z h k = ap is_lt (nat_list_cmp_total.trans x y z (less_is (slice_cmp nat_cmp x y) h) (less_is (slice_cmp nat_cmp y z) k))

pub not_below_itself : (x : List ℕ) → is_below x x ≡ true → ⊥
not_below_itself x h = false≢true (sym (ap is_lt (tied_itself nat_list_cmp_total x)) ∙ h)

module _ {A : Type 0} (a : Analysis A) (texts : StateTexts A) (one : (m n : Node) → (same_node m n ≡ true) ↔ (m ≡ n)) where
  differ : (x y : Node × A) → is_below (node_text texts x) (node_text texts y) ≡ true → same_node x.0 y.0 ≡ false
  differ x y below = elim (cases_Bool (same_node x.0 y.0)) [
    | inl same ↦
        let is = (one x.0 y.0).0 same in
        absurd (not_below_itself (node_text texts x) (subst (λ n. is_below (node_text texts x) (node_text texts (n, y.1)) ≡ true) (sym is) below))
    | inr other ↦ other
  ]

  -- whatever stands below the first stands below all
  all_above : (x : Node × A) (above : List ℕ) (rows : List (Node × A)) → Ascend (table_row a texts) (node_text texts) above rows
      → is_below (node_text texts x) above ≡ true → AllByRecursion (λ n. same_node x.0 n ≡ false) (keys_of rows)
  all_above x above [] ascend below = tt
  all_above x above (y ∷ rows) ascend below =
      let so_far = below_along (node_text texts x) above (node_text texts y) below ascend.1 in
      (differ x y so_far, all_above x (node_text texts y) rows ascend.2 so_far)

  all_behind : (x : Node × A) (rows : List (Node × A)) → Ascend (table_row a texts) (node_text texts) (node_text texts x) rows
      → AllByRecursion (λ n. same_node x.0 n ≡ false) (keys_of rows)
  all_behind x [] ascend = tt
  all_behind x (y ∷ rows) ascend = (differ x y ascend.1, all_above x (node_text texts y) rows ascend.2 ascend.1)

  are_distinct : (above : List ℕ) (rows : List (Node × A)) → Ascend (table_row a texts) (node_text texts) above rows
      → IsDistinct same_node (keys_of rows)
  unfolding IsDistinct
  are_distinct above [] ascend = tt
  are_distinct above (x ∷ rows) ascend = (all_behind x rows ascend.2, are_distinct (node_text texts x) rows ascend.2)

  are_formed : (above : List ℕ) (rows : List (Node × A)) → Ascend (table_row a texts) (node_text texts) above rows
      → AllByRecursion (λ row. a.HasForm row.0 row.1) rows
  unfolding table_row
  are_formed above [] ascend = tt
  are_formed above (x ∷ rows) ascend = (ascend.0.1, are_formed (node_text texts x) rows ascend.2)

  pub rows_are_nodes : (rows : List (Node × A)) → AreRows a texts rows → AreNodes a rows
  rows_are_nodes rows ascend = record {
    distinct = are_distinct [] rows ascend;
    formed = All-from_recursion (λ row. a.HasForm row.0 row.1) rows (are_formed [] rows ascend);
  }
