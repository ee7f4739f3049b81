-- What was looked ahead holds as long as nodes don't rise.
use Rattle.std.specs.Prelude.{◌≡◌, ℕ, zero, suc, Option, None, Some, List, [], ◌∷◌, ◌++◌, MatchOption, IfSome, length, slice_get}
use Rattle.std.proofs.Common.{sym, ◌∙◌, ap, subst, subst₂, arith}
use Rattle.std.proofs.lemmas.Option.{same_Some}
use Rattle.call_context.specs.declared.node.Node.{Node}
use Rattle.chip_analysis.specs.Analysis.{Analysis}
use Rattle.round_core.specs.Ahead.{AreBefore, AreLooked, IsLooked, IsRow, IsStill}
use Rattle.round_core.specs.declared.ahead.Looked.{Looked}
use Rattle.book_rules.specs.Machine.{Held, held_at}
use Rattle.book_rules.specs.Stays.{AllStay}
use Rattle.book_rules.specs.Staying.{AllStay-trans, held_at-later}

module _ {A : Type 0} (m : Analysis A) where
  -- one more post
  pub looked-more : (ns : List (Held A)) (ps : List (Node × A)) (ls : List (Looked A)) (p : Node × A) (l : Looked A) (i : ℕ) → length ls ≡ i
      → slice_get ps i ≡ Some p → IsLooked m ns p l → AreLooked m ns ps ls → AreLooked m ns ps (ls ++ l ∷ [])
  looked-more ns [] ls p l i n at k a = absurd (cc)
  looked-more ns (q ∷ ps) [] p l zero n at k a = (subst (λ x. IsLooked m ns x l) (sym (same_Some q p at)) k, tt)
  looked-more ns (q ∷ ps) [] p l (suc i) n at k a = absurd (omega arith)
  looked-more ns (q ∷ ps) (x ∷ ls) p l zero n at k a = absurd (omega arith)
  looked-more ns (q ∷ ps) (x ∷ ls) p l (suc i) n at k a =
      let less : length ls ≡ i = omega arith in (a.0, looked-more ns ps ls p l i less at k a.1)

  -- what a post makes of a node that has risen no more since
  still : (then now : List (Held A)) (p : Node × A) (l : Looked A) → AllStay then now → IsLooked m then p l → IsStill m now p l
  still then now p l stay k h e same =
      let r = held_at-later then now p.0 k.held stay k.held_is in
      let one : r.0 ≡ h = same_Some r.0 h (sym r.1 ∙ e) in
      let rises : h.rises ≡ (k.held).rises = sym same ∙ k.rises in
      let state : h.state ≡ (k.held).state = ap (λ x. x.state) (sym one) ∙ r.2.state (ap (λ x. x.rises) one ∙ rises) in
      subst₂ (λ s n. IsRow m p.0 s n p.1 l.row) (sym state) (sym rises) k.row

  -- what was looked ahead of the next post, and of those behind it
  module _ (ns : List (Held A)) (p : Node × A) (ps : List (Node × A)) (rows rows' : List (Looked A)) where
    pub next-still : (now : List (Held A)) (o : Option (Looked A))
        → MatchOption o ((rows ≡ []) × (rows' ≡ [])) (λ first. rows ≡ first ∷ rows')
        → AllStay ns now → AreBefore m ns (p ∷ ps) rows → IfSome o (IsStill m now p)
    next-still now None first stay b = tt
    next-still now (Some l) first stay b =
        still b.then now p l (AllStay-trans b.then ns now b.stay stay) (subst (λ ls. AreLooked m b.then (p ∷ ps) ls) first b.looked).0

    pub next-before : (o : Option (Looked A)) → MatchOption o ((rows ≡ []) × (rows' ≡ [])) (λ first. rows ≡ first ∷ rows')
        → AreBefore m ns (p ∷ ps) rows → AreBefore m ns ps rows'
    next-before None first b = record { then = b.then; stay = b.stay; looked = subst (λ ls. AreLooked m b.then ps ls) (sym first.1) tt }
    next-before (Some l) first b = record { then = b.then; stay = b.stay; looked = (subst (λ ls. AreLooked m b.then (p ∷ ps) ls) first b.looked).1 }

  -- the held state that it is asked for
  pub still-row : (ns : List (Held A)) (node : Node) (held : A) (rises : ℕ) (posted : A) (o : Option (Looked A))
      → held_at ns node ≡ Some (record { node = node; state = held; rises = rises }) → IfSome o (IsStill m ns (node, posted))
      → IfSome o (λ l. l.rises ≡ rises → IsRow m node held rises posted l.row)
  still-row ns node held rises posted None e s = tt
  still-row ns node held rises posted (Some l) e s = λ same. s (record { node = node; state = held; rises = rises }) e same
