use Rattle.std.proofs.Common.{sym, ap, ◌∙◌}
use Rattle.std.specs.Prelude.{◌&&◌, not}
use Rattle.std.specs.List.{list_any}
use Rattle.assert_check.specs.Assertions.{is_between, numbers_in}
use Rattle.assert_check.proofs.ItemTests.{none_stands, stands}
use Rattle.assert_check.proofs.breaking.stands_outside.Goals as goal

pub returns-then-is_between : goal.returns-then-is_between
returns-then-is_between c =
    let all = list_any (λ v. not (is_between c.args.lo c.args.hi v)) (numbers_in c.in-Stack.at) in
    rw c.in-Stack.is (c.leaves.ensures ∙ sym (ap (λ b. b && all) (sym c.is_between.ensures ∙ c.if-is_between.true))
    ∙ stands c.args.from c.args.to c.args.lo c.args.hi c.in-Stack.pc c.in-Stack.at)

pub returns-else-is_between : goal.returns-else-is_between
returns-else-is_between c =
    let all = list_any (λ v. not (is_between c.args.lo c.args.hi v)) (numbers_in c.in-Stack.at) in
    rw c.in-Stack.is (c.if-is_between.false ∙ sym (ap (λ b. b && all) (sym c.is_between.ensures ∙ c.if-is_between.false))
    ∙ stands c.args.from c.args.to c.args.lo c.args.hi c.in-Stack.pc c.in-Stack.at)

pub returns-in-Instr-3 : goal.returns-in-Instr-3
returns-in-Instr-3 c = none_stands c.args.from c.args.to c.args.lo c.args.hi c.args.item.now c.in-Instr.is
