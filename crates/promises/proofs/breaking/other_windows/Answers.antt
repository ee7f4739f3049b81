use Rattle.std.proofs.Common.{sym, ap, ◌∙◌}
use Rattle.std.specs.Prelude.{option_map}
use Rattle.std.proofs.lemmas.List.{drop_all}
use Rattle.promises.specs.Breaking.{numbered}
use Rattle.promises.specs.Keeping.{first_of_all, windows_for_all as given}
use Rattle.promises.proofs.Again.{first_here, first_later}
use Rattle.promises.proofs.breaking.other_windows.Goals as goal

pub loop-line-preserved : goal.loop-line-preserved
loop-line-preserved c =
    let at = c.loop-line in let x = c.loop-line-item in
    at.invariant ∙ first_later c.args.list.now at.line-index x.result x.result x.is c.loop-line-test.true (numbered given)
    (ap (option_map (λ found. (x.result.0, found))) (sym c.in_default.ensures))

pub returns-in-Some : goal.returns-in-Some
returns-in-Some c =
    let at = c.loop-line in let x = c.loop-line-item in
    sym (at.invariant ∙ first_here c.args.list.now at.line-index x.result x.result x.is c.loop-line-test.true (numbered given)
    (x.result.0, c.in-Some.windows.now) (ap (option_map (λ found. (x.result.0, found))) (sym c.in-Some.ensures)))

pub returns : goal.returns
returns c =
    let at = c.loop-line in
    sym (at.invariant ∙ ap (first_of_all (numbered given)) (drop_all at.line-index c.args.list.now c.loop-line-test.false))
