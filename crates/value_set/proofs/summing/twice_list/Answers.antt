use Rattle.std.proofs.Common.{◌∙◌, subst, sym, List, ℕ, ◌≤◌, length}
use Rattle.value_set.specs.Form.{Ascends}
use Rattle.value_set.proofs.Sums.{twice_of_list, twice_set, twice_ascends}
use Rattle.value_set.proofs.summing.twice_list.Goals as goal

pub set_of-requires-clause-some : goal.set_of-requires-clause-some
set_of-requires-clause-some c = subst (λ (xs : List ℕ). 1 ≤ length xs)
    (sym (twice_of_list c.args.modulus c.loop-value.value-index c.loop-value.values.items c.as_slice.result.now c.as_slice-value-items.result.now c.args.list.now
    c.loop-value.invariant.items c.loop-value-test.false c.as_slice.ensures.value c.as_slice-value-items.ensures.numbers))
    (twice_ascends c.args.modulus c.args.list.now c.requires.normal).1

pub set_of-requires-clause-ascending : goal.set_of-requires-clause-ascending
set_of-requires-clause-ascending c = subst (λ (xs : List ℕ). Ascends 0 c.args.modulus xs)
    (sym (twice_of_list c.args.modulus c.loop-value.value-index c.loop-value.values.items c.as_slice.result.now c.as_slice-value-items.result.now c.args.list.now
    c.loop-value.invariant.items c.loop-value-test.false c.as_slice.ensures.value c.as_slice-value-items.ensures.numbers))
    (twice_ascends c.args.modulus c.args.list.now c.requires.normal).0

pub returns : goal.returns
returns c = c.set_of.ensures ∙ twice_set c.args.modulus c.as_slice.result.now c.args.list.now
    (twice_of_list c.args.modulus c.loop-value.value-index c.loop-value.values.items c.as_slice.result.now c.as_slice-value-items.result.now c.args.list.now
    c.loop-value.invariant.items c.loop-value-test.false c.as_slice.ensures.value c.as_slice-value-items.ensures.numbers)
