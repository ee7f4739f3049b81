use Rattle.std.proofs.Common.{◌*◌, refl}
use Rattle.value_set.specs.Summing.{count_of}
use Rattle.value_bits.proofs.Choosing.{combine_few, combine_many, not_few}
use Rattle.value_bits.proofs.forming.combined.Goals as goal

pub returns-then-not-is_few-clause-many : goal.returns-then-not-is_few-clause-many
returns-then-not-is_few-clause-many g c = λ none otherwise.
    let m = c.args.modulus in
    let all = count_of m c.args.first.now * (count_of m c.args.second.now * count_of m c.args.carry.now) in
    combine_many m (g.O.Operation.answer c.args.operation.now) c.args.first.now c.args.second.now c.args.carry.now otherwise otherwise refl
    (not_few c.is_few.result all c.is_few.ensures c.if-not-is_few.true)

pub returns-clause-few : goal.returns-clause-few
returns-clause-few g c = λ otherwise.
    combine_few c.args.modulus (g.O.Operation.answer c.args.operation.now) c.args.first.now c.args.second.now c.args.carry.now otherwise c.combine.result
    c.combine.ensures.value (c.is_few.ensures.0 c.if-not-is_few.false)
