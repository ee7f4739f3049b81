use Rattle.std.proofs.Common.{sym, subst}
use Rattle.turn_table.specs.Shown.{IsSized}
use Rattle.turn_table.proofs.Seats.{joined_seat}
use Rattle.turn_table.proofs.table.TurnTable.join.Goals as goal

pub invariant_of-seat : goal.invariant_of-seat
invariant_of-seat g c =
    let J = g.B.Journaled in
    let inside = c.seat.inside in
    let e = c.take_in.ensures in (
      subst IsSized (sym e.table) c.seat.invariant.0,
      joined_seat J.seat_of inside.number inside.room inside.place.me c.take_in.new.place.me c.other.inside.place.me.0 c.seat.invariant.1 e.begins e.joined,
    )
