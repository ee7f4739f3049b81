use Rattle.std.proofs.Common.{sym, subst}
use Rattle.round_core.specs.Agenda.{IsIn}
use Rattle.round_core.proofs.Cases.{on_ok_map}
use Rattle.round_core.proofs.expect.expect_exit.Goals as goal

pub returns-clause-returns : goal.returns-clause-returns
returns-clause-returns c =
    on_ok_map _ _ c.add_returns_from.result (λ from n h. from n (subst (λ xs. IsIn n xs) (sym c.of.ensures) h)) c.add_returns_from.ensures.added
