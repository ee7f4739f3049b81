use Rattle.std.proofs.Common.{◌∙◌, sym}
use Rattle.std.specs.List.{list_any}
use Rattle.assert_check.specs.Assertions.{is_same, numbers_in, reaches}
use Rattle.assert_check.proofs.ItemTests.{accesses, asked, refused, unasked, none_accesses}
use Rattle.assert_check.proofs.breaking.accesses_in.Goals.{then-is_asked, else-is_asked}
use Rattle.assert_check.proofs.breaking.accesses_in.Goals as goal

pub returns-then-is_same : goal.returns-then-is_same
returns-then-is_same c =
    let a = c.in-Access in
    let all = list_any (reaches c.args.lo c.args.hi a.size) (numbers_in a.at) in
    rw a.is (elim c.if-is_asked.branch [
      | then-is_asked w ↦ asked _ (is_same c.args.space a.its) all c.reaches.result c.if-is_asked.value (sym c.is_asked.ensures ∙ w.if-is_asked.true)
          (w.value-is ∙ w.is_same.ensures) c.if-is_same.true c.reaches.ensures
      | else-is_asked w ↦ absurd (cc (w.value-is, c.if-is_same.true))
    ] ∙ accesses c.args.writes c.args.space a.its c.args.lo c.args.hi a.pc a.size a.write a.at)

pub returns-else-is_same : goal.returns-else-is_same
returns-else-is_same c =
    let a = c.in-Access in
    let all = list_any (reaches c.args.lo c.args.hi a.size) (numbers_in a.at) in
    rw a.is (elim c.if-is_asked.branch [
      | then-is_asked w ↦ refused _ (is_same c.args.space a.its) all c.if-is_asked.value (sym c.is_asked.ensures ∙ w.if-is_asked.true)
          (w.value-is ∙ w.is_same.ensures) c.if-is_same.false
      | else-is_asked w ↦ unasked _ (is_same c.args.space a.its) all c.if-is_asked.value (sym c.is_asked.ensures ∙ w.if-is_asked.false) c.if-is_same.false
    ] ∙ accesses c.args.writes c.args.space a.its c.args.lo c.args.hi a.pc a.size a.write a.at)

pub returns-in-Instr-3 : goal.returns-in-Instr-3
returns-in-Instr-3 c = none_accesses c.args.writes c.args.space c.args.lo c.args.hi c.args.item.now c.in-Instr.is
