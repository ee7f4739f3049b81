use Rattle.std.proofs.Common.{◌++◌, sym, subst, ap, ◌∙◌}
use Rattle.std.proofs.lemmas.List.{take_all, drop_all}
use Rattle.promises.specs.Text.{comes_again, is_of_same}
use Rattle.promises.specs.Told.{IsTold}
use Rattle.promises.proofs.Again.{comes, comes_not, longer_front, not_false, not_true}
use Rattle.promises.proofs.told.Told.tell_all.Goals as goal

pub returns-then-not-branch-clause-again : goal.returns-then-not-branch-clause-again
returns-then-not-branch-clause-again c = λ earlier told.
    let at = c.loop-promise in let x = c.promise-item in let so_far = at.invariant earlier told in
    let known = not_false _ (sym c.if-not-branch.true ∙ c.in_ok-tell.ensures.new _ so_far.0) in
    sym (so_far.1 ∙ comes c.args.promises.now at.promise-index x.result x.result x.is c.loop-promise-test.true is_of_same earlier known)

pub loop-promise-preserved : goal.loop-promise-preserved
loop-promise-preserved c = λ earlier told.
    let at = c.loop-promise in let x = c.promise-item in let so_far = at.invariant earlier told in
    let new = not_true _ (sym c.if-not-branch.false ∙ c.in_ok-tell.ensures.new _ so_far.0) in (
      subst (λ all. IsTold c.tell.new.self all)
          (longer_front c.args.promises.now at.promise-index x.result x.result x.is c.loop-promise-test.true earlier)
          (c.in_ok-tell.ensures.added _ so_far.0),
      so_far.1 ∙ comes_not c.args.promises.now at.promise-index x.result x.result x.is c.loop-promise-test.true is_of_same earlier new,
    )

pub returns-clause-again : goal.returns-clause-again
returns-clause-again c = λ earlier told.
    let at = c.loop-promise in let so_far = at.invariant earlier told in
    sym (so_far.1 ∙ ap (comes_again is_of_same _) (drop_all at.promise-index c.args.promises.now c.loop-promise-test.false))

pub returns-clause-told : goal.returns-clause-told
returns-clause-told c = λ none earlier told.
    let at = c.loop-promise in let so_far = at.invariant earlier told in
    subst (λ front. IsTold at.self (earlier ++ front)) (take_all at.promise-index c.args.promises.now c.loop-promise-test.false) so_far.0
