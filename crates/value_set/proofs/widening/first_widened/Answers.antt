use Rattle.std.proofs.Common.{ap, ◌∙◌, Some, map}
use Rattle.value_set.proofs.Widens.{first_kept, first_moved, first_missing, mark_at_most_found}
use Rattle.value_set.proofs.widening.first_widened.Goals as goal

pub returns-then-run-held : goal.returns-then-run-held
returns-then-run-held g c = first_kept c.args.run.now c.args.held.now (map g.N.Number.number c.args.marks.now) c.if-run-held.true

pub down_to-requires-clause-at_most : goal.down_to-requires-clause-at_most
down_to-requires-clause-at_most g c = mark_at_most_found c.args.run.now.base c.in-Some.mark (map g.N.Number.number c.args.marks.now) c.in-Some.ensures

pub returns-in-Some : goal.returns-in-Some
returns-in-Some g c = ap Some c.down_to.ensures ∙ first_moved c.args.run.now c.args.held.now (map g.N.Number.number c.args.marks.now) c.in-Some.mark c.if-run-held.false c.in-Some.ensures

pub returns-in-None : goal.returns-in-None
returns-in-None g c = first_missing c.args.run.now c.args.held.now (map g.N.Number.number c.args.marks.now) c.if-run-held.false c.in-None.ensures
