use Rattle.std.proofs.Common.{sym, subst}
use Rattle.turn_table.specs.Shown.{IsSized}
use Rattle.turn_table.proofs.Seats.{served_seat}
use Rattle.turn_table.proofs.table.TurnTable.turn.Goals as goal

pub invariant_of-seat : goal.invariant_of-seat
invariant_of-seat g c =
    let J = g.B.Journaled in
    let inside = c.seat.inside in
    let e = c.wait_turn.ensures in (
      subst IsSized (sym e.table) c.seat.invariant.0,
      served_seat J.seat_of inside.number inside.room inside.place.me c.wait_turn.new.place.me e.turn.0 (J.base c.wait_turn.result) (J.history c.wait_turn.result) c.seat.invariant.1 e.begins e.turn.1,
    )
