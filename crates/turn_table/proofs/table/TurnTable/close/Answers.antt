use Rattle.std.proofs.Common.{refl, sym, ◌∙◌, subst}
use Rattle.turn_table.proofs.Seats.{closed, ClosesAs, Some-injective}
use Rattle.turn_table.proofs.table.TurnTable.close.Goals as goal

pub unwrap-requires : goal.unwrap-requires
unwrap-requires g c =
    let J = g.B.Journaled in
    let key = c.args.self.board.shared.key in
    let inside = c.seat.inside in
    let a = closed J.history J.seat_of J.base (J.base key.first.value) key.seats inside.number inside.room inside.place.table_id inside.place.id inside.place.me c.args.seat _ _ c.take-slot.result
    c.seat.invariant.1 c.seat.view_is c.requires.idle c.requires.all c.close_with-closed.ensures.values.2 c.take-slot.ensures.value in
    rw a.1 refl

pub returns : goal.returns
returns g c =
    let J = g.B.Journaled in
    let key = c.args.self.board.shared.key in
    let inside = c.seat.inside in
    let a = closed J.history J.seat_of J.base (J.base key.first.value) key.seats inside.number inside.room inside.place.table_id inside.place.id inside.place.me c.args.seat _ _ c.take-slot.result
    c.seat.invariant.1 c.seat.view_is c.requires.idle c.requires.all c.close_with-closed.ensures.values.2 c.take-slot.ensures.value in
    let k = subst (ClosesAs J.history J.seat_of J.base c.args.seat) (Some-injective a.0 c.unwrap.result (sym a.1 ∙ c.unwrap.ensures)) a.2 in
    record { history = k.whole; below = k.below; base = k.based; events = k.events }
