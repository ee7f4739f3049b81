use Rattle.std.proofs.Common.{refl}
use Rattle.std.proofs.lemmas.Bool.{true≢false}
use Rattle.value_set.proofs.Promises.{cut_some_normal, cut_some_holds, cut_is_none, cut_not_none}
use Rattle.value_set.proofs.sets.cut.Goals as goal

pub returns-in-Some-clause-none : goal.returns-in-Some-clause-none
returns-in-Some-clause-none c = (
  λ e. absurd (true≢false e),
  λ nobody. absurd (cut_not_none c.args.modulus c.args.set.now c.in-Some.part c.args.low c.args.len c.requires.normal c.requires.low_below c.in-Some.ensures nobody),
)

pub returns-in-Some-clause-normal : goal.returns-in-Some-clause-normal
returns-in-Some-clause-normal c = cut_some_normal c.args.modulus c.args.set.now c.in-Some.part c.args.low c.args.len c.requires.normal c.requires.low_below c.in-Some.ensures

pub returns-in-Some-clause-holds : goal.returns-in-Some-clause-holds
returns-in-Some-clause-holds c v has inside = cut_some_holds c.args.modulus c.args.set.now c.in-Some.part c.args.low c.args.len v c.requires.normal c.requires.low_below
    c.in-Some.ensures has inside

pub returns-in-None-clause-none : goal.returns-in-None-clause-none
returns-in-None-clause-none c = (
  λ e v has. cut_is_none c.args.modulus c.args.set.now c.args.low c.args.len v c.requires.normal c.requires.low_below c.in-None.ensures has,
  λ nobody. refl,
)
