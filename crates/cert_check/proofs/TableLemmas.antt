-- Nodes are found by their places.
use Rattle.std.proofs.Common.{◌≡◌, ℕ, suc, ◌+◌, ◌<◌, refl, sym, ap, ◌∙◌, subst, Bool, true, false, inl, inr, None, Some, arith, List, [], ◌∷◌, ◌++◌, append_assoc, drop, drop-cons, get_or, length}
use Rattle.std.specs.Prelude.{◌↔◌}
use Rattle.std.specs.Bool.{Decides}
use Rattle.std.specs.List.{AllByRecursion, IsDistinct}
use Rattle.std.specs.Map.{keys_of, lookup}
use Rattle.std.proofs.lemmas.Bool.{cases_Bool, cond-true, cond-false}
use Rattle.std.proofs.lemmas.List.{map-append}
use Rattle.std.proofs.lemmas.Option.{none-some, same_Some}
use Rattle.call_context.specs.declared.node.Node.{Node}
use Rattle.closed_book.specs.ClosedBook.{table_in}
use Rattle.book_rules.specs.Same.{same_node}
use Rattle.cert_check.specs.Table.{placed}
use Rattle.plain_lemmas.specs.Cases.{one_test}

-- two tests that tell equal ones are one test: that of code, and that of the definitions
module _ {X : Type 0} (eq : X → X → Bool) {same : X → X → Bool} (tells : (m n : X) → Decides (eq m n) (m ≡ n)) (one : (m n : X) → (same m n ≡ true) ↔ (m ≡ n)) where
  pub same_test : (m n : X) → eq m n ≡ same m n
  same_test m n = one_test (eq m n) (same m n) (λ is. (one m n).1 ((tells m n).0 is)) (λ is. (tells m n).1 ((one m n).0 is))

module _ {A : Type 0} (eq : Node → Node → Bool) (same : (m n : Node) → eq m n ≡ same_node m n) where
  -- a node that has no place isn't in the table
  pub not_placed : (rows : List (Node × A)) (from : ℕ) (node : Node) → lookup (eq node) (placed from rows) ≡ None
      → table_in rows node ≡ None
  not_placed [] from node none = refl
  not_placed (row ∷ rows) from node none = elim (cases_Bool (same_node node row.0)) [
    | inl is ↦ absurd (none-some from (sym none ∙ cond-true _ _ _ (same node row.0 ∙ is)))
    | inr other ↦ cond-false _ _ _ other ∙ not_placed rows (suc from) node (sym (cond-false _ _ _ (same node row.0 ∙ other)) ∙ none)
  ]

  -- a node is in the table at its place
  pub found_at : (rows : List (Node × A)) (from place : ℕ) (node : Node) → lookup (eq node) (placed from rows) ≡ Some place
      → (k : ℕ) × (place ≡ from + k) × (k < length rows) × ((d : Node × A) → table_in rows node ≡ Some (get_or rows k d).1)
  found_at [] from place node e = absurd (none-some place e)
  found_at (row ∷ rows) from place node e = elim (cases_Bool (same_node node row.0)) [
    | inl is ↦
        let here = same_Some from place (sym (cond-true _ _ _ (same node row.0 ∙ is)) ∙ e) in
        (0, omega (arith, here), omega arith, λ d. cond-true _ _ _ is)
    | inr other ↦
        let later = found_at rows (suc from) place node (sym (cond-false _ _ _ (same node row.0 ∙ other)) ∙ e) in
        (suc later.0, omega (arith, later.1), omega (arith, later.2), λ d. cond-false _ _ _ other ∙ later.3 d)
  ]

-- a node that stands behind others isn't among them
pub fresh : (eq : Node → Node → Bool) → ((m n : Node) → eq m n ≡ same_node m n)
    → (entries : List (Node × ℕ)) (node : Node) (more : List Node)
    → ((m n : Node) → same_node m n ≡ same_node n m)
    → IsDistinct same_node (keys_of entries ++ node ∷ more) → lookup (eq node) entries ≡ None
unfolding IsDistinct
fresh eq same [] node more flips distinct = refl
fresh eq same (entry ∷ entries) node more flips distinct =
    cond-false _ _ _ (same node entry.0 ∙ flips node entry.0 ∙ all_behind (keys_of entries) node more entry.0 distinct.0)
    ∙ fresh eq same entries node more flips distinct.1
  where
    all_behind : (xs : List Node) (y : Node) (ys : List Node) (x : Node)
        → AllByRecursion (λ z. same_node x z ≡ false) (xs ++ y ∷ ys) → same_node x y ≡ false
    all_behind [] y ys x all = all.0
    all_behind (z ∷ xs) y ys x all = all_behind xs y ys x all.1

keys_placed : {A : Type 0} (from : ℕ) (rows : List (Node × A)) → keys_of (placed from rows) ≡ keys_of rows
keys_placed from [] = refl
keys_placed from (row ∷ rows) = ap (λ (nodes : List Node). row.0 ∷ nodes) (keys_placed (suc from) rows)

-- what is left, with the next row in front
pub drop_next : {X : Type 0} (xs : List X) (i : ℕ) (d : X) → i < length xs → drop i xs ≡ get_or xs i d ∷ drop (i + 1) xs
drop_next xs i d h = let next : i + 1 ≡ suc i = omega arith in rw next (drop-cons xs i d h)

placed_next : {A : Type 0} (rows : List (Node × A)) (i : ℕ) (row : Node × A) → i < length rows → row ≡ get_or rows i row
    → placed i (drop i rows) ≡ (row.0, i) ∷ placed (i + 1) (drop (i + 1) rows)
placed_next rows i row h is =
    let next : suc i ≡ i + 1 = omega arith in
    ap (placed i) (drop_next rows i row h) ∙ ap (λ (r : Node × _). (r.0, i) ∷ placed (suc i) (drop (i + 1) rows)) (sym is)
    ∙ ap (λ n. (row.0, i) ∷ placed n (drop (i + 1) rows)) next

-- one more place
pub one_placed : {A : Type 0} (rows : List (Node × A)) (entries : List (Node × ℕ)) (i : ℕ) (row : Node × A)
    → i < length rows → row ≡ get_or rows i row
    → entries ++ placed i (drop i rows) ≡ placed 0 rows → (entries ++ (row.0, i) ∷ []) ++ placed (i + 1) (drop (i + 1) rows) ≡ placed 0 rows
one_placed rows entries i row h is so_far =
    append_assoc entries ((row.0, i) ∷ []) (placed (i + 1) (drop (i + 1) rows)) ∙ ap (λ es. entries ++ es) (sym (placed_next rows i row h is)) ∙ so_far

-- a row's node has no place before
pub none_yet : {A : Type 0} (eq : Node → Node → Bool) → ((m n : Node) → eq m n ≡ same_node m n)
    → ((m n : Node) → same_node m n ≡ same_node n m)
    → (rows : List (Node × A)) (entries : List (Node × ℕ)) (i : ℕ) (row : Node × A) → i < length rows → row ≡ get_or rows i row
    → entries ++ placed i (drop i rows) ≡ placed 0 rows → IsDistinct same_node (keys_of rows) → lookup (eq row.0) entries ≡ None
none_yet eq same flips rows entries i row h is so_far distinct =
    let keys : keys_of entries ++ row.0 ∷ keys_of (placed (i + 1) (drop (i + 1) rows)) ≡ keys_of rows =
    ap (λ es. keys_of entries ++ keys_of es) (sym (placed_next rows i row h is)) ∙ sym (map-append (λ (e : Node × ℕ). e.0) entries (placed i (drop i rows)))
    ∙ ap keys_of so_far ∙ keys_placed 0 rows in
    fresh eq same entries row.0 (keys_of (placed (i + 1) (drop (i + 1) rows))) flips (subst (IsDistinct same_node) (sym keys) distinct)

pub flips_from : ((m n : Node) → (same_node m n ≡ true) ↔ (m ≡ n)) → (m n : Node) → same_node m n ≡ same_node n m
flips_from one m n = one_test (same_node m n) (same_node n m) (λ is. (one n m).1 (sym ((one m n).0 is))) (λ is. (one m n).1 (sym ((one n m).0 is)))
