use Rattle.std.proofs.Common.{sym, subst}
use Rattle.turn_table.specs.Shown.{IsSized}
use Rattle.turn_table.proofs.Seats.{own_shown, passed_seat}
use Rattle.turn_table.proofs.table.TurnTable.pass.Goals as goal

pub invariant_of-seat : goal.invariant_of-seat
invariant_of-seat g c =
    let J = g.B.Journaled in
    let inside = c.seat.inside in
    let e = c.pass_turn.ensures in
    let adds = c.requires.adds in (
      subst IsSized (sym e.table) c.seat.invariant.0,
      passed_seat J.seat_of inside.number inside.room inside.place.table_id inside.place.me c.pass_turn.new.place.me c.args.seat.now (J.history c.args.turn.value) adds.0 c.seat.invariant.1 c.seat.view_is adds.1 adds.2 e.passed,
    )

pub returns-clause-own : goal.returns-clause-own
returns-clause-own g c =
    let J = g.B.Journaled in
    let inside = c.seat.inside in
    let e = c.pass_turn.ensures in
    let adds = c.requires.adds in
    own_shown J.seat_of inside.number inside.room c.pass_turn.new.place.table_id c.pass_turn.new.place.me
    (passed_seat J.seat_of inside.number inside.room inside.place.table_id inside.place.me c.pass_turn.new.place.me c.args.seat.now (J.history c.args.turn.value) adds.0 c.seat.invariant.1 c.seat.view_is adds.1 adds.2 e.passed)
