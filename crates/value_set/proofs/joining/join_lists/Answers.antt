use Rattle.std.proofs.Common.{◌∙◌, refl}
use Rattle.value_set.proofs.Joins.{hulls_same}
use Rattle.value_set.proofs.Merges.{list_ascends, lists_found, lists_missed}
use Rattle.value_set.specs.declared.form.Form.TheVariants.{Values}
use Rattle.value_set.proofs.joining.join_lists.Goals as goal

pub few_together-requires-clause-first_ascends : goal.few_together-requires-clause-first_ascends
few_together-requires-clause-first_ascends c = rw c.as_slice.ensures.numbers (list_ascends c.args.modulus c.args.first.now (Values c.args.first.now) c.requires.small refl c.requires.first_normal)

pub few_together-requires-clause-second_ascends : goal.few_together-requires-clause-second_ascends
few_together-requires-clause-second_ascends c = rw c.as_slice-2.ensures.numbers (list_ascends c.args.modulus c.args.second.now (Values c.args.second.now) c.requires.small refl c.requires.second_normal)

pub returns-in-Some : goal.returns-in-Some
returns-in-Some c = lists_found c.args.modulus c.args.first.now c.args.second.now c.in-Some.values c.requires.first_normal c.requires.second_normal
    (rw (← c.as_slice.ensures.numbers, ← c.as_slice-2.ensures.numbers) c.in-Some.ensures)

pub returns-in-None : goal.returns-in-None
returns-in-None c = c.join_spans.ensures
    ∙ hulls_same c.args.modulus c.args.first.now c.args.second.now c.as_slice-in-None.result.now c.as_slice-in-None-2.result.now c.hull.result c.hull-in-None.result
    c.as_slice-in-None.ensures.numbers c.as_slice-in-None-2.ensures.numbers c.hull.ensures.value c.hull-in-None.ensures.value
    ∙ lists_missed c.args.modulus c.args.first.now c.args.second.now c.requires.first_normal c.requires.second_normal
    (rw (← c.as_slice.ensures.numbers, ← c.as_slice-2.ensures.numbers) c.in-None.ensures)
