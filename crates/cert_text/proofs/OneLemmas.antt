-- Nodes have one certificate: lists that ascend and have the same rows are the same.
use Rattle.std.proofs.Common.{◌≡◌, ℕ, refl, sym, ap, ap₂, ◌∙◌, subst, true, inl, inr, List, [], ◌∷◌}
use Rattle.std.specs.Prelude.{Contains}
use Rattle.std.proofs.lemmas.List.Sorted.{Contains-permutation, IsPermutation-sym}
use Rattle.call_context.specs.declared.node.Node.{Node}
use Rattle.chip_analysis.specs.Analysis.{Analysis}
use Rattle.text_fields.specs.Spelling.{Spelling}
use Rattle.state_text.specs.Texts.{StateTexts}
use Rattle.cert_text.specs.Certificate.{Ascend, cert1_of, is_below, node_text, table_row}
use Rattle.cert_text.specs.Writing.{IsCert}
use Rattle.cert_text.proofs.OrderLemmas.{below_along, not_below_itself}
use Rattle.plain_lemmas.specs.Members.{in_cons, in_first, in_none, in_rest}

module _ {R : Type 0} (row : Spelling R) (key : R → List ℕ) where
  -- each row stands above what all stand above
  above_all : (above : List ℕ) (rows : List R) → Ascend row key above rows → (x : R) → Contains rows x → is_below above (key x) ≡ true
  above_all above [] ascend x h = absurd (in_none x h)
  above_all above (y ∷ rows) ascend x h = elim (in_cons y rows x h) [
    | inl same ↦ subst (λ r. is_below above (key r) ≡ true) same ascend.1
    | inr rest ↦ below_along above (key y) (key x) ascend.1 (above_all (key y) rows ascend.2 x rest)
  ]

  never_behind : (x : R) (rows : List R) → Ascend row key (key x) rows → Contains rows x → ⊥
  never_behind x rows ascend h = not_below_itself (key x) (above_all (key x) rows ascend x h)

  -- the first of the one list is the first of the other
  first_same : (x y : R) (xs ys : List R) → Ascend row key (key x) xs → Ascend row key (key y) ys → Contains (y ∷ ys) x
      → Contains (x ∷ xs) y → x ≡ y
  first_same x y xs ys up also x_in y_in = elim (in_cons y ys x x_in) [
    | inl same ↦ sym same
    | inr later ↦ elim (in_cons x xs y y_in) [
      | inl same ↦ same
      | inr last ↦
          let down = above_all (key y) ys also x later in
          let over = above_all (key x) xs up y last in
          absurd (not_below_itself (key x) (below_along (key x) (key y) (key x) over down))
    ]
  ]

  -- what is behind the first of the one list is behind that of the other
  rest_in : (x y : R) (xs ys : List R) → Ascend row key (key x) xs → x ≡ y → ((z : R) → Contains (x ∷ xs) z → Contains (y ∷ ys) z)
      → (z : R) → Contains xs z → Contains ys z
  rest_in x y xs ys up same within z h = elim (in_cons y ys z (within z (in_rest x xs z h))) [
    | inl is ↦ absurd (never_behind x xs up (subst (Contains xs) (sym (same ∙ is)) h))
    | inr rest ↦ rest
  ]

  same_rows : (above over : List ℕ) (xs ys : List R) → Ascend row key above xs → Ascend row key over ys
      → ((z : R) → Contains xs z → Contains ys z)
      → ((z : R) → Contains ys z → Contains xs z) → xs ≡ ys
  same_rows above over [] [] up also within around = refl
  same_rows above over [] (y ∷ ys) up also within around = absurd (in_none y (around y (in_first y ys)))
  same_rows above over (x ∷ xs) [] up also within around = absurd (in_none x (within x (in_first x xs)))
  same_rows above over (x ∷ xs) (y ∷ ys) up also within around =
      let same = first_same x y xs ys up.2 also.2 (within x (in_first x xs)) (around y (in_first y ys)) in
      ap₂ (λ r rs. r ∷ rs) same
      (same_rows (key x) (key y) xs ys up.2 also.2 (rest_in x y xs ys up.2 same within) (rest_in y x ys xs also.2 (sym same) around))

pub one_text : {A : Type 0} (a : Analysis A) (texts : StateTexts A) (nodes : List (Node × A)) (one other : List ℕ)
    → IsCert a texts nodes one
    → IsCert a texts nodes other → one ≡ other
one_text a texts nodes one other is so =
    let same = same_rows (table_row a texts) (node_text texts) [] [] is.rows so.rows is.are_rows so.are_rows
    (λ z h. Contains-permutation nodes so.rows z so.same (Contains-permutation is.rows nodes z (IsPermutation-sym nodes is.rows is.same) h))
    (λ z h. Contains-permutation nodes is.rows z is.same (Contains-permutation so.rows nodes z (IsPermutation-sym nodes so.rows so.same) h)) in
    is.text_is ∙ ap (cert1_of a texts) same ∙ sym so.text_is
