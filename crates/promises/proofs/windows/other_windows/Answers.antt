use Rattle.std.proofs.Common.{sym, ap, ◌∙◌}
use Rattle.std.proofs.lemmas.List.{drop_all}
use Rattle.promises.specs.Keeping.{first_of_all, windows_for_all as given}
use Rattle.promises.proofs.Again.{first_here, first_later}
use Rattle.promises.proofs.windows.other_windows.Goals as goal

pub loop-promise-preserved : goal.loop-promise-preserved
loop-promise-preserved c =
    let at = c.loop-promise in let x = c.promise-item in
    at.invariant ∙ first_later c.args.promises.now at.promise-index x.result x.result x.is c.loop-promise-test.true (given)
    (sym c.in_default.ensures)

pub returns-in-Some : goal.returns-in-Some
returns-in-Some c =
    let at = c.loop-promise in let x = c.promise-item in
    sym (at.invariant ∙ first_here c.args.promises.now at.promise-index x.result x.result x.is c.loop-promise-test.true (given)
    c.in-Some.windows.now (sym c.in-Some.ensures))

pub returns : goal.returns
returns c =
    let at = c.loop-promise in
    sym (at.invariant ∙ ap (first_of_all (given)) (drop_all at.promise-index c.args.promises.now c.loop-promise-test.false))
