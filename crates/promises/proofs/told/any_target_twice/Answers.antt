use Rattle.std.proofs.Common.{sym, ap, ◌∙◌}
use Rattle.std.specs.List.{list_any}
use Rattle.std.proofs.lemmas.List.{drop_all}
use Rattle.promises.specs.Text.{has_target_twice as is_twice}
use Rattle.promises.proofs.Again.{any_here, any_later}
use Rattle.promises.proofs.told.any_target_twice.Goals as goal

pub returns-then-branch : goal.returns-then-branch
returns-then-branch c =
    let at = c.loop-promise in let x = c.promise-item in
    sym (at.invariant ∙ any_here c.args.promises.now at.promise-index x.result x.result x.is c.loop-promise-test.true is_twice
    (sym c.in_ok-has_target_twice.ensures ∙ c.if-branch.true))

pub loop-promise-preserved : goal.loop-promise-preserved
loop-promise-preserved c =
    let at = c.loop-promise in let x = c.promise-item in
    at.invariant ∙ any_later c.args.promises.now at.promise-index x.result x.result x.is c.loop-promise-test.true is_twice
    (sym c.in_ok-has_target_twice.ensures ∙ c.if-branch.false)

pub returns : goal.returns
returns c =
    let at = c.loop-promise in
    sym (at.invariant ∙ ap (list_any is_twice) (drop_all at.promise-index c.args.promises.now c.loop-promise-test.false))
