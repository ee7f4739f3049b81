use Rattle.std.proofs.Common.{arith, ◌∙◌, sym, subst, List, ℕ, length, ◌≤◌}
use Rattle.value_set.specs.Form.{members, Ascends}
use Rattle.value_set.specs.Operations.{StaysBelow}
use Rattle.value_set.proofs.Sums.{combine-is, all_results, results_ascend}
use Rattle.value_set.proofs.Singles.{one_result}
use Rattle.value_set.proofs.combining.combine.Goals as goal

pub returns-in-Some-Some-Some : goal.returns-in-Some-Some-Some
returns-in-Some-Some-Some g c =
    let one = c.in-Some-Some-Some in
    one_result c.args.modulus (g.O.Operation.answer c.args.operation.now) c.args.first.now c.args.second.now c.args.carry.now
    c.single.result one.x one.y one.z c.apply.result
    c.single.ensures c.apply.ensures one.ensures one.ensures' one.ensures''

pub set_of-requires-clause-some : goal.set_of-requires-clause-some
set_of-requires-clause-some g c =
    let stays = subst (λ (m : ℕ). StaysBelow m (g.O.Operation.answer c.args.operation.now)) c.requires.width (g.met.O.Operation.stays_below c.args.operation.now) in
    let all = all_results (g.O.Operation.answer c.args.operation.now) c.loop-place.place c.loop-place.values.items c.as_slice.result.now (members c.args.modulus c.args.first.now)
    (members c.args.modulus c.args.second.now) (members c.args.modulus c.args.carry.now) c.loop-place.invariant.items c.as_slice.ensures.value (omega arith) in
    subst (λ (xs : List ℕ). 1 ≤ length xs) (sym all) (results_ascend c.args.modulus (g.O.Operation.answer c.args.operation.now) c.args.first.now c.args.second.now c.args.carry.now
    c.requires.first_normal c.requires.second_normal c.requires.carry_normal stays).1

pub set_of-requires-clause-ascending : goal.set_of-requires-clause-ascending
set_of-requires-clause-ascending g c =
    let stays = subst (λ (m : ℕ). StaysBelow m (g.O.Operation.answer c.args.operation.now)) c.requires.width (g.met.O.Operation.stays_below c.args.operation.now) in
    let all = all_results (g.O.Operation.answer c.args.operation.now) c.loop-place.place c.loop-place.values.items c.as_slice.result.now (members c.args.modulus c.args.first.now)
    (members c.args.modulus c.args.second.now) (members c.args.modulus c.args.carry.now) c.loop-place.invariant.items c.as_slice.ensures.value (omega arith) in
    subst (λ (xs : List ℕ). Ascends 0 c.args.modulus xs) (sym all) (results_ascend c.args.modulus (g.O.Operation.answer c.args.operation.now) c.args.first.now c.args.second.now c.args.carry.now
    c.requires.first_normal c.requires.second_normal c.requires.carry_normal stays).0

pub returns : goal.returns
returns g c = c.set_of.ensures ∙ combine-is c.args.modulus (g.O.Operation.answer c.args.operation.now) c.args.first.now c.args.second.now c.args.carry.now c.as_slice.result.now
    (all_results (g.O.Operation.answer c.args.operation.now) c.loop-place.place c.loop-place.values.items c.as_slice.result.now (members c.args.modulus c.args.first.now)
    (members c.args.modulus c.args.second.now) (members c.args.modulus c.args.carry.now) c.loop-place.invariant.items c.as_slice.ensures.value (omega arith))
