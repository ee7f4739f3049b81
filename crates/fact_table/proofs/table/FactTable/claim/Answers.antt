use Rattle.std.proofs.Common.{IfOk, ap, ◌∙◌, subst}
use Rattle.fact_table.proofs.TurnLemmas.{grows_claimed, pass_adds, IsTurn, begun_by, claims_ok, looks, on_err}
use Rattle.round_core.specs.Answers.{AnswersClaim}
use Rattle.fact_table.proofs.table.FactTable.claim.Goals as goal

pub pass-requires-clause-adds : goal.pass-requires-clause-adds
pass-requires-clause-adds g c =
    let k = c.deref_mut-book.result.now in
    let k' = c.claim-claimed.new.self in
    let number = c.turn-turn.new.seat.number in
    pass_adds c.args.seat.now c.turn-turn.new.seat k k'
    (begun_by c.deref_mut-book.ensures.value c.turn-turn.ensures.base c.requires.idle c.turn-turn.ensures.seat c.turn-turn.ensures.begins)
    (grows_claimed (g.C.Chip.analysis k.base) number k k' c.claim-claimed.result
    (subst (λ n. IfOk c.claim-claimed.result (λ claimed. AnswersClaim (g.C.Chip.analysis k.base) k k' n claimed)) c.number.ensures.number c.claim-claimed.ensures.answer)
    c.claim-claimed.ensures.refused)

pub returns : goal.returns
returns g c =
    let k = c.deref_mut-book.result.now in
    let k' = c.claim-claimed.new.self in
    let claimed = c.claim-claimed.result in
    let turn : IsTurn c.args.seat.now c.turn-turn.new.seat c.pass.new.seat k k' = record {
      start = begun_by c.deref_mut-book.ensures.value c.turn-turn.ensures.base c.requires.idle c.turn-turn.ensures.seat c.turn-turn.ensures.begins;
      new_is = c.pass.ensures.seat;
    } in
    record {
      answer = claims_ok g.C.Chip.analysis _ _ _ k k' claimed turn
          (subst (λ number. IfOk claimed (λ a. AnswersClaim (g.C.Chip.analysis k.base) k k' number a)) (c.number.ensures.number ∙ ap (λ s. s.number) turn.start.begun_is)
          c.claim-claimed.ensures.answer);
      refused = on_err claimed c.claim-claimed.ensures.refused (looks g.C.Chip.analysis _ _ _ k k' turn);
      own = c.number-2.ensures.own;
    }
