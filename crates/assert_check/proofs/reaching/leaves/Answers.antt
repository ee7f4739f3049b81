use Rattle.std.proofs.Common.{◌+◌, ◌%◌, ◌∙◌, refl, arith}
use Rattle.std.specs.Prelude.{not}
use Rattle.assert_check.specs.Assertions.{is_between, numbers_in}
use Rattle.plain_lemmas.specs.AnyOf.{any_alike}
use Rattle.assert_check.proofs.Windows.{outside_window}
use Rattle.assert_check.proofs.reaching.leaves.Goals as goal

pub returns : goal.returns
returns c =
    let lo = c.args.lo in
    let hi = c.args.hi in
    c.meets.ensures.value ∙ any_alike _ (λ v. not (is_between lo hi v)) (numbers_in c.args.set.now) (λ v h.
    outside_window lo hi ((hi + 1) % 65536) c.min.result v (omega arith) (omega arith) (c.meets.ensures.below v h) refl c.min.ensures)
