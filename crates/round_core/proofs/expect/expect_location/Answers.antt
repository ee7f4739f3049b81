use Rattle.std.proofs.Common.{sym, subst}
use Rattle.round_core.specs.Agenda.{IsIn}
use Rattle.round_core.proofs.Cases.{on_ok_map, on_ok_always}
use Rattle.round_core.proofs.WaitLemmas.{waits-in, waits-none}
use Rattle.round_core.proofs.expect.expect_location.Goals as goal

pub returns-in-Some-clause-own : goal.returns-in-Some-clause-own
returns-in-Some-clause-own g c = on_ok_always _ c.add_returns.result (c.add_returns.ensures.kept _ c.in_ok-add_candidate.ensures.added)

pub returns-in-Some-clause-returns : goal.returns-in-Some-clause-returns
returns-in-Some-clause-returns g c =
    on_ok_map _ _ c.add_returns.result
    (λ added f w. added f (subst (λ fs. IsIn f fs) (sym c.as_slice.ensures) (waits-in f _ _ (sym c.in-Some.ensures) w)))
    c.add_returns.ensures.added

pub returns-in-Some-clause-kept : goal.returns-in-Some-clause-kept
returns-in-Some-clause-kept g c = λ p h. c.add_returns.ensures.kept p (c.add_candidate.ensures.kept p h)

pub returns-in-None-clause-returns : goal.returns-in-None-clause-returns
returns-in-None-clause-returns g c = λ f w. absurd (waits-none f _ c.in-None.ensures w)
