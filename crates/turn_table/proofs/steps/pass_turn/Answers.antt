use Rattle.std.proofs.Common.{rules, sym, ap, subst}
use Rattle.turn_table.specs.Plays.{MayPass}
use Rattle.turn_table.specs.Views.{SeatedAnd}
use Rattle.turn_table.proofs.Moves.{passes_turn}
use Rattle.turn_table.proofs.Seats.{put, put_passed}
use Rattle.turn_table.proofs.steps.pass_turn.Goals as goal

pub fetch_add-turns-requires : goal.fetch_add-turns-requires
fetch_add-turns-requires g c =
    let J = g.B.Journaled in
    let key = c.args.board.now.key in
    let old = c.args.place.now.me in
    let new = c.exchange-before.new.seat.me in
    let is = put J.history J.seat_of J.base old new c.args.value c.exchange-before.ensures.3 c.requires.held in (
      search rules,
      search rules,
      passes_turn J.history J.seat_of J.base (J.base key.first.value) key.seats _ _ new.0 new.1 c.args.value (ap (λ z. z.1) is)
          (subst (λ z. SeatedAnd z (MayPass J.history J.seat_of J.base c.args.value)) (sym (ap (λ z. z.0) is)) c.requires.may),
    )

pub returns-clause-passed : goal.returns-clause-passed
returns-clause-passed g c =
    let J = g.B.Journaled in
    let old = c.args.place.now.me in
    let new = c.exchange-before.new.seat.me in
    let is = put J.history J.seat_of J.base old new c.args.value c.exchange-before.ensures.3 c.requires.held in
    put_passed J.history J.seat_of J.base old new c.fetch_add-turns.new.seat.me c.args.value is c.fetch_add-turns.ensures.2
