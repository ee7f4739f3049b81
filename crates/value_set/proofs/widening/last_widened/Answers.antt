use Rattle.std.proofs.Common.{arith, ap, ◌∙◌, Some, map}
use Rattle.value_set.proofs.Widens.{last_kept, last_moved, last_missing, mark_above_seen, AllBelow_from}
use Rattle.value_set.proofs.widening.last_widened.Goals as goal

pub returns-then-last-last_of : goal.returns-then-last-last_of
returns-then-last-last_of g c = last_kept c.args.modulus c.last_of-last.result c.last_of.result c.args.run.now c.args.held.now (map g.N.Number.number c.args.marks.now)
    c.last_of-last.ensures c.last_of.ensures c.if-last-last_of.true

pub up_to-requires-clause-small : goal.up_to-requires-clause-small
up_to-requires-clause-small g c =
    let seen = mark_above_seen c.args.modulus c.last_of-last.result c.in-Some.mark (map g.N.Number.number c.args.marks.now)
    (AllBelow_from g.N.Number.number c.args.modulus c.args.marks.now c.requires.marks_below) c.in-Some.ensures in omega (arith, seen.1, c.requires.small)

pub up_to-requires-clause-higher : goal.up_to-requires-clause-higher
up_to-requires-clause-higher g c = (mark_above_seen c.args.modulus c.last_of-last.result c.in-Some.mark (map g.N.Number.number c.args.marks.now)
    (AllBelow_from g.N.Number.number c.args.modulus c.args.marks.now c.requires.marks_below) c.in-Some.ensures).0

pub returns-in-Some : goal.returns-in-Some
returns-in-Some g c = ap Some c.up_to.ensures.value ∙ last_moved c.args.modulus c.last_of-last.result c.last_of.result c.in-Some.mark c.args.run.now c.args.held.now
    (map g.N.Number.number c.args.marks.now) c.last_of-last.ensures c.last_of.ensures c.if-last-last_of.false c.in-Some.ensures

pub returns-in-None : goal.returns-in-None
returns-in-None g c = last_missing c.args.modulus c.last_of-last.result c.last_of.result c.args.run.now c.args.held.now
    (map g.N.Number.number c.args.marks.now) c.last_of-last.ensures c.last_of.ensures c.if-last-last_of.false c.in-None.ensures
