-- Marks are below their bound, and those of numbers are told one number after another.
use Rattle.std.proofs.Common.{◌≡◌, ℕ, zero, suc, ◌+◌, ◌-◌, ◌<◌, ◌≤◌, ◌++◌, nat_lt, Option, None, Some, List, [], ◌∷◌, refl, sym, ap, ◌∙◌, subst, append_assoc, append-nil, arith}
use Rattle.std.proofs.lemmas.Bool.{cond_both, ltb-true}
use Rattle.std.proofs.lemmas.List.Elements.{All-nil, All-cons, All-append}
use Rattle.value_set.specs.Laws.{AreMarks}
use Rattle.chip_flow.specs.Marks.{mark, marks_along, marks_by}

along_none : (found : ℕ → List ℕ) (first : ℕ) → marks_along found first 0 ≡ []
unfolding marks_along
along_none found first = refl

along_first : (found : ℕ → List ℕ) (first count : ℕ)
    → marks_along found first (suc count) ≡ found first ++ marks_along found (first + 1) count
unfolding marks_along
along_first found first count = refl

-- BY A LOOP

-- with one number's marks more the rest is that of the next
pub more_marks : (found : ℕ → List ℕ) (at end : ℕ) (marks added all : List ℕ) → at < end → added ≡ marks ++ found at
    → marks ++ marks_along found at (end - at) ≡ all → added ++ marks_along found (at + 1) (end - (at + 1)) ≡ all
more_marks found at end marks added all below is so_far =
    let left = marks_along found (at + 1) (end - (at + 1)) in
    let more : end - at ≡ suc (end - (at + 1)) = omega (arith, below) in
    ap (λ xs. xs ++ left) is ∙ append_assoc marks (found at) left
    ∙ ap (λ xs. marks ++ xs) (sym (ap (marks_along found at) more ∙ along_first found at (end - (at + 1)))) ∙ so_far

-- and behind the last one nothing is left
pub all_marks : (found : ℕ → List ℕ) (at end : ℕ) (marks all : List ℕ) → end ≤ at
    → marks ++ marks_along found at (end - at) ≡ all → marks ≡ all
all_marks found at end marks all far so_far =
    let over : end - at ≡ 0 = omega (arith, far) in
    sym (append-nil marks) ∙ sym (ap (λ rest. marks ++ rest) (ap (marks_along found at) over ∙ along_none found at)) ∙ so_far

-- THEIR BOUND

module _ (m : ℕ) where
  pub none_marks : AreMarks m []
  none_marks = All-nil (λ n. n < m)

  pub both_marks : (xs ys : List ℕ) → AreMarks m xs → AreMarks m ys → AreMarks m (xs ++ ys)
  both_marks xs ys f g = All-append (λ n. n < m) xs ys f g

  pub mark_below : (n : ℕ) → AreMarks m (mark m n)
  mark_below n =
      cond_both (nat_lt n m) (n ∷ []) [] (AreMarks m) (λ e. All-cons (λ k. k < m) n [] (ltb-true n m e) none_marks) (λ e. none_marks)

  pub by_below : (constant : Option ℕ) → AreMarks m (marks_by m constant)
  by_below None = none_marks
  by_below (Some n) = both_marks (mark m n) (mark m (n + 1)) (mark_below n) (mark_below (n + 1))

  pub along_below : (found : ℕ → List ℕ) → ((n : ℕ) → AreMarks m (found n)) → (count first : ℕ) → AreMarks m (marks_along found first count)
  along_below found each zero first = subst (AreMarks m) (sym (along_none found first)) none_marks
  along_below found each (suc count) first = subst (AreMarks m) (sym (along_first found first count))
      (both_marks (found first) (marks_along found (first + 1) count) (each first) (along_below found each count (first + 1)))

  -- 0 and 1 are marks of each program
  pub first_marks : (others : List ℕ) → 1 < m → AreMarks m others → AreMarks m (0 ∷ 1 ∷ others)
  first_marks others some below = All-cons (λ n. n < m) 0 (1 ∷ others) (omega (arith, some)) (All-cons (λ n. n < m) 1 others some below)
