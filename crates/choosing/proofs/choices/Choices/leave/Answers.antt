use Rattle.std.proofs.Common.{◌≡◌, ◌∙◌, length, arith}
use Rattle.std.proofs.lemmas.Grind.{common_steps}
use Rattle.choosing.proofs.Leaving.{left_behind}
use Rattle.choosing.proofs.choices.Choices.leave.Goals as goal

pub returns : goal.returns
returns c = λ front rest is counted.
    let whole : c.len.result ≡ length c.self.inside.list.items = grind (arith, common_steps, c.len.ensures) in
    left_behind c.self.inside.list.items front rest c.self.inside.next c.args.count c.len.result whole c.self.invariant (c.self.view_is ∙ is) counted
