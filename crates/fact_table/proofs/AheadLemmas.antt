-- What was looked ahead of works, one after the other.
use Rattle.std.specs.Prelude.{◌≡◌, ◌<◌, ◌⊎◌, ℕ, zero, suc, Some, List, [], ◌∷◌, ◌++◌, length, slice_get, slice_index_or}
use Rattle.std.proofs.Common.{ap, sym, subst, arith, inl, inr}
use Rattle.std.proofs.lemmas.Option.{same_Some}
use Rattle.chip_analysis.specs.Analysis.{Analysis}
use Rattle.fact_table.specs.Exchange.{AreAhead}
use Rattle.round_core.specs.Ahead.{IsAhead}
use Rattle.round_core.specs.declared.ahead.Looked.{Looked}
use Rattle.round_core.specs.declared.ticket.Done.{Done}

-- an item at an index
pub got : {X : Type 0} → (xs : List X) (i : ℕ) (x : X) → i < length xs → x ≡ slice_index_or xs i x → slice_get xs i ≡ Some x
got [] i x h e = absurd (omega arith)
got (y ∷ xs) zero x h e = ap (λ t. Some t) (sym e)
got (y ∷ xs) (suc i) x h e = let below : i < length xs = omega arith in got xs i x below e

module _ {C B A : Type 0} (m : Analysis A) where
  pub ahead_more : (done : List (Done C B A)) (ahead : List (List (Looked A))) (one : Done C B A) (rows : List (Looked A)) (i : ℕ)
      → length ahead ≡ i
      → slice_get done i ≡ Some one → IsAhead m one rows → AreAhead m done ahead → AreAhead m done (ahead ++ rows ∷ [])
  ahead_more [] ahead one rows i n at k a = absurd (cc)
  ahead_more (d ∷ done) [] one rows zero n at k a = (subst (λ x. IsAhead m x rows) (sym (same_Some d one at)) k, tt)
  ahead_more (d ∷ done) [] one rows (suc i) n at k a = absurd (omega arith)
  ahead_more (d ∷ done) (x ∷ ahead) one rows zero n at k a = absurd (omega arith)
  ahead_more (d ∷ done) (x ∷ ahead) one rows (suc i) n at k a =
      let less : length ahead ≡ i = omega arith in (a.0, ahead_more done ahead one rows i less at k a.1)

  -- the first work with what was looked ahead of it, and those behind it
  pub ahead_taken : (first : Done C B A) (left : List (Done C B A)) (old new : List (List (Looked A))) (rows : List (Looked A))
      → (old ≡ rows ∷ new) ⊎ ((old ≡ []) × (new ≡ []) × (rows ≡ [])) → AreAhead m (first ∷ left) old
      → IsAhead m first rows × AreAhead m left new
  ahead_taken first left old new rows taken a = elim taken [
    | inl e ↦ subst (λ all. AreAhead m (first ∷ left) all) e a
    | inr none ↦ (subst (λ ls. IsAhead m first ls) (sym none.2) tt, subst (λ all. AreAhead m left all) (sym none.1) tt)
  ]
