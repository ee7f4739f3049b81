use Rattle.std.proofs.Common.{◌≡◌, sym, subst, OnOk, true}
use Rattle.call_context.specs.declared.node.Frame.{Frame}
use Rattle.round_core.specs.Agenda.{places_in}
use Rattle.round_core.specs.Expected.{ExpectsNode}
use Rattle.round_core.specs.Returns.{HasReturnsTo}
use Rattle.book_rules.specs.Machine.{waits_for}
use Rattle.round_core.proofs.Cases.{on_ok_both}
use Rattle.round_core.proofs.expect.expect_node.Goals as goal

pub returns-in-At-clause-expected : goal.returns-in-At-clause-expected
returns-in-At-clause-expected g c =
    let new = record c.args.agenda.now { candidates = c.expect_location.new.candidates } in
    subst (λ n. OnOk c.expect_location.result (ExpectsNode c.args.works.now.rows c.args.agenda.now new n c.args.place)) (sym c.in-At.is)
    (on_ok_both _ _ c.expect_location.result c.expect_location.ensures.own
    (subst (λ n. OnOk c.expect_location.result ((f : Frame) → waits_for c.args.works.now.rows n f ≡ true → HasReturnsTo new.candidates.keys c.args.place (places_in c.args.agenda.now.exits f)))
    c.in-At.is c.expect_location.ensures.returns))

pub returns-in-Exit-clause-expected : goal.returns-in-Exit-clause-expected
returns-in-Exit-clause-expected g c =
    subst (λ n. OnOk c.expect_exit.result (ExpectsNode c.args.works.now.rows c.args.agenda.now c.expect_exit.new.agenda n c.args.place)) (sym c.in-Exit.is)
    (on_ok_both _ _ c.expect_exit.result c.expect_exit.ensures.noted c.expect_exit.ensures.returns)
