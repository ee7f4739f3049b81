-- A set of lines is the same in whatever order they are put into it.
use Rattle.std.proofs.Common.{◌≡◌, ℕ, List, [], ◌∷◌, refl, sym, ap, ap₂, ◌∙◌, subst, inl, inr}
use Rattle.std.specs.Prelude.{◌⊎◌, Contains}
use Rattle.std.specs.List.{AllByRecursion}
use Rattle.std.specs.Ordering.{nat_cmp, match_ordering, ordering_reverse}
use Rattle.std.specs.BTreeSet.{insert_key}
use Rattle.std.specs.Cmp.Lexicographic.{slice_cmp}
use Rattle.std.specs.declared.cmp.Ordering.{Ordering}
use Rattle.std.specs.declared.cmp.Ordering.TheVariants.{Less, Equal, Greater}
use Rattle.std.proofs.lemmas.Cmp.{nat_list_cmp_total, tied_itself}
use Rattle.std.proofs.lemmas.List.Elements.{All-contains, All-from_recursion}
use Rattle.report_bytes.specs.Report.{with_lines}
use Rattle.plain_lemmas.specs.Members.{in_cons, in_first, in_none, in_rest}
use Rattle.report_bytes.proofs.ShownLemmas.{in_with_lines_new}

abbrev order : List ℕ → List ℕ → Ordering
order = slice_cmp nat_cmp

abbrev AreAbove : List ℕ → List (List ℕ) → Type 0
AreAbove line = AllByRecursion (λ y. order line y ≡ Less)

-- each line stands before all that follow
abbrev Rises : List (List ℕ) → Type 0
Rises [] = Unit {0}
Rises (x ∷ xs) = AreAbove x xs × Rises xs

-- A SET RISES

all_put : (P : List ℕ → Type 0) (set : List (List ℕ)) (line : List ℕ) → AllByRecursion P set → P line
    → AllByRecursion P (insert_key order set line)
all_put P [] line all p = (p, tt)
all_put P (x ∷ xs) line all p = let rest = all_put P xs line all.1 p in
    elim (order line x) as (λ o. AllByRecursion P (match_ordering o (line ∷ x ∷ xs) (x ∷ xs) (x ∷ insert_key order xs line))) [
      | Less ↦ (p, all)
      | Equal ↦ all
      | Greater ↦ (all.0, rest)
    ]

all_along : (line x : List ℕ) (xs : List (List ℕ)) → order line x ≡ Less → AreAbove x xs → AreAbove line xs
all_along line x [] below all = tt
all_along line x (y ∷ ys) below all = (nat_list_cmp_total.trans line x y below all.0, all_along line x ys below all.1)

rises_put : (set : List (List ℕ)) (line : List ℕ) → Rises set → Rises (insert_key order set line)
rises_put [] line rises = (tt, tt)
rises_put (x ∷ xs) line rises = let rest = rises_put xs line rises.1 in
    elim (order line x) as (λ o. order line x ≡ o → Rises (match_ordering o (line ∷ x ∷ xs) (x ∷ xs) (x ∷ insert_key order xs line))) [
      | Less ↦ λ e. ((e, all_along line x xs e rises.0), rises)
      | Equal ↦ λ e. rises
      | Greater ↦ λ e. (all_put (λ y. order x y ≡ Less) xs line rises.0 (nat_list_cmp_total.antisymm x line ∙ ap ordering_reverse e), rest)
    ] refl

rises_with : (lines set : List (List ℕ)) → Rises set → Rises (with_lines set lines)
rises_with [] set rises = rises
rises_with (line ∷ lines) set rises = rises_with lines (insert_key order set line) (rises_put set line rises)

-- WHAT IT HAS

in_put : (set : List (List ℕ)) (line y : List ℕ) → Contains (insert_key order set line) y → (line ≡ y) ⊎ Contains set y
in_put [] line y = λ h. in_cons line [] y h
in_put (x ∷ xs) line y = let rest = in_put xs line y in
    elim (order line x) as (λ o. Contains (match_ordering o (line ∷ x ∷ xs) (x ∷ xs) (x ∷ insert_key order xs line)) y
    → (line ≡ y) ⊎ Contains (x ∷ xs) y) [
      | Less ↦ λ h. in_cons line (x ∷ xs) y h
      | Equal ↦ λ h. inr h
      | Greater ↦ λ h. elim (in_cons x (insert_key order xs line) y h) [
        | inl same ↦ inr (subst (Contains (x ∷ xs)) same (in_first x xs))
        | inr there ↦ elim (rest there) [ inl same ↦ inl same | inr old ↦ inr (in_rest x xs y old) ]
      ]
    ]

pub in_with_lines : (lines set : List (List ℕ)) (y : List ℕ) → Contains (with_lines set lines) y → Contains set y ⊎ Contains lines y
in_with_lines [] set y h = inl h
in_with_lines (line ∷ lines) set y h = elim (in_with_lines lines (insert_key order set line) y h) [
  | inl there ↦ elim (in_put set line y there) [
    | inl same ↦ inr (subst (Contains (line ∷ lines)) same (in_first line lines))
    | inr old ↦ inl old
  ]
  | inr new ↦ inr (in_rest line lines y new)
]

-- TWO LISTS THAT RISE AND HAVE THE SAME ARE ONE

is_above : (x : List ℕ) (xs : List (List ℕ)) (y : List ℕ) → AreAbove x xs → Contains xs y → order x y ≡ Less
is_above x xs y all there = All-contains (λ z. order x z ≡ Less) xs y (All-from_recursion (λ z. order x z ≡ Less) xs all) there

not_below_itself : (x : List ℕ) → order x x ≡ Less → ⊥
not_below_itself x below = let bad : Less ≡ Equal = sym below ∙ tied_itself nat_list_cmp_total x in cc

-- the lines of one are among those of another
abbrev AreIn : List (List ℕ) → List (List ℕ) → Type 0
AreIn xs ys = (y : List ℕ) → Contains xs y → Contains ys y

one_head : (x y : List ℕ) (xs ys : List (List ℕ)) → AreAbove x xs → AreAbove y ys → Contains (y ∷ ys) x → Contains (x ∷ xs) y → x ≡ y
one_head x y xs ys above above' h k = elim (in_cons y ys x h) [
  | inl same ↦ sym same
  | inr there ↦ elim (in_cons x xs y k) [
    | inl same ↦ same
    | inr there' ↦ absurd (not_below_itself x (nat_list_cmp_total.trans x y x (is_above x xs y above there') (is_above y ys x above' there)))
  ]
]

in_rest_of : (x y : List ℕ) (xs ys : List (List ℕ)) → x ≡ y → AreAbove x xs → AreIn (x ∷ xs) (y ∷ ys) → AreIn xs ys
in_rest_of x y xs ys same above are z there = elim (in_cons y ys z (are z (in_rest x xs z there))) [
  | inl first ↦ absurd (not_below_itself x (subst (λ w. order x w ≡ Less) (sym (same ∙ first)) (is_above x xs z above there)))
  | inr rest ↦ rest
]

one_list : (xs ys : List (List ℕ)) → Rises xs → Rises ys → AreIn xs ys → AreIn ys xs → xs ≡ ys
one_list [] [] rises rises' are are' = refl
one_list [] (y ∷ ys) rises rises' are are' = absurd (in_none y (are' y (in_first y ys)))
one_list (x ∷ xs) [] rises rises' are are' = absurd (in_none x (are x (in_first x xs)))
one_list (x ∷ xs) (y ∷ ys) rises rises' are are' =
    let same = one_head x y xs ys rises.0 rises'.0 (are x (in_first x xs)) (are' y (in_first y ys)) in
    ap₂ (λ (first : List ℕ) (rest : List (List ℕ)). first ∷ rest) same (one_list xs ys rises.1 rises'.1
    (in_rest_of x y xs ys same rises.0 are) (in_rest_of y x ys xs (sym same) rises'.0 are'))

among : (lines others : List (List ℕ)) → AreIn lines others → AreIn (with_lines [] lines) (with_lines [] others)
among lines others are y there = elim (in_with_lines lines [] y there) [
  | inl none ↦ absurd (in_none y none)
  | inr put ↦ in_with_lines_new others [] y (are y put)
]

-- sets of the same lines are one
pub one_set : (lines others : List (List ℕ)) → AreIn lines others → AreIn others lines → with_lines [] lines ≡ with_lines [] others
one_set lines others are are' =
    one_list (with_lines [] lines) (with_lines [] others) (rises_with lines [] tt) (rises_with others [] tt) (among lines others are) (among others lines are')
