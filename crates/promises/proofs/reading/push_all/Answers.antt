use Rattle.std.proofs.Common.{◌≡◌, ℕ, ◌∷◌, [], ◌++◌, List, length, refl, sym, ap, ◌∙◌, append_assoc, append-nil, arith}
use Rattle.std.specs.Prelude.{map}
use Rattle.std.specs.Vec.Iter.{into_iter_items}
use Rattle.promises.specs.declared.promise.Promise.{Promise}
use Rattle.promises.proofs.reading.push_all.Goals as goal

nothing_left : {X : Type 0} (l : List X) → length l ≡ 0 → l ≡ []
nothing_left [] h = refl
nothing_left (x ∷ xs) h = absurd (omega arith)

pub loop-promise-preserved : goal.loop-promise-preserved
loop-promise-preserved c =
    let at = c.loop-promise in
    let x = c.in-Some.promise in
    let steps : into_iter_items at.promise-iterator ≡ x ∷ into_iter_items c.next.new.self = c.in-Some.ensures.steps.0 in
    let rest : List (ℕ × Promise) = map (λ promise. (c.args.number, promise)) (into_iter_items c.next.new.self) in
    record {
      all = ap (λ list. list ++ rest) c.in_ok-push.ensures.items ∙ append_assoc at.list.items ((c.args.number, x) ∷ []) rest
          ∙ ap (λ items. at.list.items ++ map (λ promise. (c.args.number, promise)) items) (sym steps) ∙ at.invariant.all;
      len = let was = at.invariant.len in
          let gone = c.in-Some.ensures.steps.1 in
          let short = ap length steps in
          omega arith;
    }

pub returns : goal.returns
returns c =
    let at = c.loop-promise in
    let none = c.in-None.ensures.steps in
    let empty : into_iter_items at.promise-iterator ≡ [] = nothing_left _ (sym at.invariant.len ∙ none.0) in
    let left = ap (λ items. at.list.items ++ map (λ promise. (c.args.number, promise)) items) empty ∙ append-nil at.list.items in
    let all = ap (λ items. c.args.list.now.items ++ map (λ promise. (c.args.number, promise)) items) c.into_iter-promise-iterator.ensures.into_iter_gives.0 in
    sym left ∙ at.invariant.all ∙ all
