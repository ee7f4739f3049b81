use Rattle.std.proofs.Common.{sym, subst}
use Rattle.turn_table.specs.Shown.{IsSized}
use Rattle.turn_table.proofs.Seats.{own_shown, gave_seat, given_seat_is}
use Rattle.turn_table.proofs.table.TurnTable.split.Goals as goal

pub invariant_of-seat : goal.invariant_of-seat
invariant_of-seat g c =
    let J = g.B.Journaled in
    let inside = c.seat.inside in
    let e = c.part-place.ensures in (
      subst IsSized (sym e.table.0) c.seat.invariant.0,
      gave_seat J.seat_of inside.number inside.room inside.place.table_id inside.place.me c.part-place.new.place.me c.args.seat.now c.seat.invariant.1 c.seat.view_is c.requires.room e.given.0,
    )

pub invariant_of-result : goal.invariant_of-result
invariant_of-result g c =
    let J = g.B.Journaled in
    let inside = c.seat.inside in
    let e = c.part-place.ensures in (
      subst IsSized (sym e.table.1) c.seat.invariant.0,
      given_seat_is J.seat_of inside.number inside.room inside.place.table_id inside.place.me c.part-place.result.me c.args.seat.now c.seat.invariant.1 c.seat.view_is c.requires.room e.given.1,
    )

pub returns-clause-own : goal.returns-clause-own
returns-clause-own g c =
    let J = g.B.Journaled in
    let inside = c.seat.inside in
    let e = c.part-place.ensures in
    own_shown J.seat_of inside.room 0 c.part-place.result.table_id c.part-place.result.me
    (given_seat_is J.seat_of inside.number inside.room inside.place.table_id inside.place.me c.part-place.result.me c.args.seat.now c.seat.invariant.1 c.seat.view_is c.requires.room e.given.1)
