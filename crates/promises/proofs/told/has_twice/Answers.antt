use Rattle.std.proofs.Common.{[], refl, sym, ap, ◌∙◌, get_or, ◌||◌}
use Rattle.std.proofs.lemmas.List.{drop_all}
use Rattle.promises.specs.Text.{comes_again, is_same}
use Rattle.promises.proofs.Again.{any_front, comes, comes_not, not_false, not_true}
use Rattle.promises.proofs.told.has_twice.Goals as goal

pub returns-then-not-branch : goal.returns-then-not-branch
returns-then-not-branch c =
    let at = c.loop-number in let xs = c.args.numbers.now in let x = get_or xs at.number-index 0 in
    let known = sym (at.invariant.seen x) ∙ not_false _ (sym c.if-not-branch.true ∙ c.in_ok-add.ensures.new) in
    sym (at.invariant.again ∙ comes xs at.number-index x 0 refl c.loop-number-test.true is_same [] known)

pub loop-number-preserved : goal.loop-number-preserved
loop-number-preserved c =
    let at = c.loop-number in let xs = c.args.numbers.now in let x = get_or xs at.number-index 0 in
    let new = sym (at.invariant.seen x) ∙ not_true _ (sym c.if-not-branch.false ∙ c.in_ok-add.ensures.new) in
    record {
      seen = λ n. c.in_ok-add.ensures.added n ∙ ap (λ b. b || is_same n x) (at.invariant.seen n)
          ∙ any_front xs at.number-index x 0 refl c.loop-number-test.true (is_same n);
      again = at.invariant.again ∙ comes_not xs at.number-index x 0 refl c.loop-number-test.true is_same [] new;
    }

pub returns : goal.returns
returns c =
    let at = c.loop-number in
    sym (at.invariant.again ∙ ap (comes_again is_same _) (drop_all at.number-index c.args.numbers.now c.loop-number-test.false))
