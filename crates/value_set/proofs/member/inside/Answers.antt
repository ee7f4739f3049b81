use Rattle.value_set.proofs.Answering.{never}
use Rattle.value_set.proofs.Merges.{list_ascends, run_outside}
use Rattle.value_set.proofs.member.inside.Goals as goal

pub list_within-requires-clause-smaller_ascends : goal.list_within-requires-clause-smaller_ascends
list_within-requires-clause-smaller_ascends c = rw c.as_slice.ensures.numbers (list_ascends c.args.modulus c.in-Values-Values.few c.args.smaller.now c.requires.small
    c.in-Values-Values.is-0 c.requires.normal)

pub list_within-requires-clause-larger_ascends : goal.list_within-requires-clause-larger_ascends
list_within-requires-clause-larger_ascends c = rw c.as_slice-in-Values-Values.ensures.numbers (list_ascends c.args.modulus c.in-Values-Values.others c.args.larger.now c.requires.small
    c.in-Values-Values.is-1 c.requires.normal_too)

pub returns-in-Values-Values : goal.returns-in-Values-Values
returns-in-Values-Values c = rw (c.in-Values-Values.is-0, c.in-Values-Values.is-1) (rw (← c.as_slice.ensures.numbers, ← c.as_slice-in-Values-Values.ensures.numbers) c.list_within.ensures)

pub returns-in-Run-Values : goal.returns-in-Run-Values
returns-in-Run-Values c = never _ (run_outside c.args.modulus c.in-Run-Values.field-0-0 c.in-Run-Values.field-0-1 c.args.smaller.now c.args.larger.now
    c.in-Run-Values.is-0 c.in-Run-Values.is-1 c.requires.normal c.requires.normal_too)

pub returns-in-Run-Run : goal.returns-in-Run-Run
returns-in-Run-Run c = rw (c.in-Run-Run.is-0, c.in-Run-Run.is-1) c.run_within.ensures
