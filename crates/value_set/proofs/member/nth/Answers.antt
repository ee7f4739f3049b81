use Rattle.std.proofs.Common.{◌∙◌, arith}
use Rattle.value_set.proofs.Answering.{count_of_run, nth_in_run, nth_below, listed_nth}
use Rattle.value_set.proofs.member.nth.Goals as goal

pub nth_of_run-requires-clause-there : goal.nth_of_run-requires-clause-there
nth_of_run-requires-clause-there c = omega (arith, c.requires.there, count_of_run c.args.modulus c.args.set.now c.in-Run.run' c.in-Run.is)

pub returns-in-Run-clause-value : goal.returns-in-Run-clause-value
returns-in-Run-clause-value c = c.nth_of_run.ensures ∙ nth_in_run c.args.modulus c.args.place c.args.set.now c.in-Run.run' c.in-Run.is
    (omega (arith, c.requires.there, count_of_run c.args.modulus c.args.set.now c.in-Run.run' c.in-Run.is))

pub returns-in-Run-clause-below : goal.returns-in-Run-clause-below
returns-in-Run-clause-below c = nth_below c.args.modulus c.args.place c.nth_of_run.result c.args.set.now c.requires.normal c.requires.there
    (c.nth_of_run.ensures ∙ nth_in_run c.args.modulus c.args.place c.args.set.now c.in-Run.run' c.in-Run.is
    (omega (arith, c.requires.there, count_of_run c.args.modulus c.args.set.now c.in-Run.run' c.in-Run.is)))

pub returns-in-Values-clause-below : goal.returns-in-Values-clause-below
returns-in-Values-clause-below c = nth_below c.args.modulus c.args.place _ c.args.set.now c.requires.normal c.requires.there
    (listed_nth c.args.modulus c.args.place c.args.set.now c.in-Values.values c.as_slice.result.now c.in-Values.is c.as_slice.ensures.numbers)
