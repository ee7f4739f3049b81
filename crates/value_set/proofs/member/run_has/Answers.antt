use Rattle.value_set.proofs.Answering.{never, denied, not_in_run, in_run}
use Rattle.value_set.proofs.member.run_has.Goals as goal

pub returns-then-not-divides : goal.returns-then-not-divides
returns-then-not-divides c = never _ (not_in_run c.args.modulus c.args.value c.above-distance.result c.args.run.now c.requires.normal c.requires.below
    c.above-distance.ensures.distance (denied _ _ c.divides.ensures cc))

pub returns : goal.returns
returns c = in_run c.args.modulus c.args.value c.above-distance.result c.args.run.now c.requires.normal c.requires.below c.above-distance.ensures.distance
    (c.divides.ensures.0 cc)
