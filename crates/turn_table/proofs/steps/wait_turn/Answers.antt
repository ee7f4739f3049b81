use Rattle.std.proofs.Common.{rules}
use Rattle.turn_table.proofs.Moves.{draws_ticket, looks}
use Rattle.turn_table.proofs.Seats.{waits, taken, taken_slot}
use Rattle.turn_table.proofs.steps.wait_turn.Goals as goal

pub fetch_add-ticket-requires : goal.fetch_add-ticket-requires
fetch_add-ticket-requires g c = let J = g.B.Journaled in let key = c.args.board.now.key in
    (search rules, search rules, draws_ticket J.history J.seat_of J.base (J.base key.first.value) key.seats _ _ c.args.place.now.me.0 c.args.place.now.me.1 c.requires.idle.0)

pub load-turns-requires : goal.load-turns-requires
load-turns-requires g c =
    let J = g.B.Journaled in
    let key = c.args.board.now.key in
    let inv = c.loop.invariant in
    let me = c.loop.place.me in
    (search rules, search rules, looks J.history J.seat_of J.base (J.base key.first.value) key.seats _ _ me.0 me.1 inv.waits.0 (waits c.args.place.now.me.0 me inv.waits.0 inv.waits.2 c.requires.idle.0))

pub exchange-requires : goal.exchange-requires
exchange-requires g c =
    let J = g.B.Journaled in
    let inv = c.loop.invariant in
    let me = c.loop.place.me in
    let new = c.load-turns.new.seat.me in
    let a = taken J.history J.seat_of J.base c.args.place.now.me.0 me new inv.waits.0 c.load-turns.result c.fetch_add-ticket.result inv.waits.2 c.requires.idle.0 inv.waits.1 c.if-turns-ticket.true c.load-turns.ensures.2 in
    (search rules, taken_slot J.history J.seat_of J.base c.args.place.now.me.0 inv.waits.0 new a)
