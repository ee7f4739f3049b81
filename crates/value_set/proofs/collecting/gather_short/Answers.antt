use Rattle.std.proofs.Common.{ap, subst, sym, List, ℕ, length, ◌≤◌, ◌∙◌}
use Rattle.value_set.specs.Form.{Ascends, set_of}
use Rattle.value_set.proofs.Collects.{gathered_fits, gathered_all}
use Rattle.value_set.proofs.collecting.gather_short.Goals as goal

pub set_of-requires-clause-some : goal.set_of-requires-clause-some
set_of-requires-clause-some g c = subst (λ (xs : List ℕ). 1 ≤ length xs)
    (sym (gathered_all g.N.Number.number c.loop-number.number-index c.args.list.now c.loop-number.values.items c.as_slice.result.now c.loop-number.invariant.items c.loop-number-test.false c.as_slice.ensures.value))
    (gathered_fits g.N.Number.number c.args.modulus c.args.list.now c.requires.below c.requires.some).1

pub set_of-requires-clause-ascending : goal.set_of-requires-clause-ascending
set_of-requires-clause-ascending g c = subst (λ (xs : List ℕ). Ascends 0 c.args.modulus xs)
    (sym (gathered_all g.N.Number.number c.loop-number.number-index c.args.list.now c.loop-number.values.items c.as_slice.result.now c.loop-number.invariant.items c.loop-number-test.false c.as_slice.ensures.value))
    (gathered_fits g.N.Number.number c.args.modulus c.args.list.now c.requires.below c.requires.some).0

pub returns : goal.returns
returns g c = c.set_of.ensures ∙ ap (λ (xs : List ℕ). set_of c.args.modulus xs)
    (gathered_all g.N.Number.number c.loop-number.number-index c.args.list.now c.loop-number.values.items c.as_slice.result.now c.loop-number.invariant.items c.loop-number-test.false c.as_slice.ensures.value)
