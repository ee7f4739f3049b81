use Rattle.std.proofs.Common.{ap, ◌+◌}
use Rattle.value_set.proofs.Answering.{never, denied, runs_fit, within_straight, within_round, within_no_turn}
use Rattle.value_set.proofs.member.run_within.Goals as goal

pub returns-then-not-divides : goal.returns-then-not-divides
returns-then-not-divides c = never _ (λ inside. denied _ _ c.divides.ensures (cc)
    (runs_fit c.args.modulus c.args.smaller.now c.args.larger.now c.above-offset.result c.requires.normal c.requires.normal_too c.above-offset.ensures.distance inside).0)

pub returns-then-not-divides-2 : goal.returns-then-not-divides-2
returns-then-not-divides-2 c = never _ (λ inside. denied _ _ c.divides-2.ensures (cc)
    (runs_fit c.args.modulus c.args.smaller.now c.args.larger.now c.above-offset.result c.requires.normal c.requires.normal_too c.above-offset.ensures.distance inside).1)

pub returns-then-last-modulus : goal.returns-then-last-modulus
returns-then-last-modulus c = within_straight c.args.modulus c.args.smaller.now c.args.larger.now c.above-offset.result _ _ c.requires.normal c.requires.normal_too
    c.above-offset.ensures.distance (c.divides.ensures.0 cc) (c.divides-2.ensures.0 cc)
    (ap (λ n. c.above-offset.result + n) c.reach.ensures) c.reach-then-last-modulus.ensures c.if-last-modulus.true

pub returns-then-not-divides-3 : goal.returns-then-not-divides-3
returns-then-not-divides-3 c = never _ (λ inside. within_no_turn c.args.modulus c.args.smaller.now c.args.larger.now c.above-offset.result _ c.requires.normal
    c.requires.normal_too c.above-offset.ensures.distance (ap (λ n. c.above-offset.result + n) c.reach.ensures) c.if-last-modulus.false
    (denied _ _ c.divides-3.ensures cc) inside)

pub returns : goal.returns
returns c = within_round c.args.modulus c.args.smaller.now c.args.larger.now c.above-offset.result _ _ _ c.requires.normal c.requires.normal_too
    c.above-offset.ensures.distance (c.divides.ensures.0 cc) (c.divides-2.ensures.0 cc)
    (ap (λ n. c.above-offset.result + n) c.reach.ensures) c.reach-2.ensures c.if-last-modulus.false (c.divides-3.ensures.0 cc) c.last_before_turn.ensures
