use Rattle.std.proofs.Common.{subst, sym, ◌∙◌, ℕ}
use Rattle.value_set.specs.declared.form.Form.{Form}
use Rattle.value_set.specs.Form.{Has, IsNormal}
use Rattle.value_set.specs.Operations.{StaysBelow}
use Rattle.value_set.proofs.Sums.{combine_normal, combine_has}
use Rattle.value_set.proofs.Singles.{combine_one}
use Rattle.value_set.proofs.sets.combine.Goals as goal

pub returns-clause-normal : goal.returns-clause-normal
returns-clause-normal g c =
    let stays = subst (λ (m : ℕ). StaysBelow m (g.O.Operation.answer c.args.operation.now)) c.requires.width (g.met.O.Operation.stays_below c.args.operation.now) in
    subst (λ (set : Form). IsNormal c.args.modulus set) (sym c.combine.ensures)
    (combine_normal c.args.modulus (g.O.Operation.answer c.args.operation.now) c.args.first.now c.args.second.now c.args.carry.now c.requires.first_normal c.requires.second_normal c.requires.carry_normal stays)

pub returns-clause-holds : goal.returns-clause-holds
returns-clause-holds g c x y z h k l =
    let stays = subst (λ (m : ℕ). StaysBelow m (g.O.Operation.answer c.args.operation.now)) c.requires.width (g.met.O.Operation.stays_below c.args.operation.now) in
    subst (λ (set : Form). Has c.args.modulus set (g.O.Operation.answer c.args.operation.now x y z)) (sym c.combine.ensures)
    (combine_has c.args.modulus (g.O.Operation.answer c.args.operation.now) c.args.first.now c.args.second.now c.args.carry.now x y z c.requires.first_normal c.requires.second_normal c.requires.carry_normal stays h k l)

pub returns-clause-alone : goal.returns-clause-alone
returns-clause-alone g c x y z h k l = c.combine.ensures
    ∙ combine_one c.args.modulus (g.O.Operation.answer c.args.operation.now) c.args.first.now c.args.second.now c.args.carry.now x y z h k l
