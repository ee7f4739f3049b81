use Rattle.std.proofs.Common.{rules}
use Rattle.turn_table.proofs.Comings.{splits}
use Rattle.turn_table.proofs.steps.part.Goals as goal

pub split_seat-requires : goal.split_seat-requires
split_seat-requires g c = let J = g.B.Journaled in let key = c.args.board.now.key in
    (search rules, search rules, splits J.history J.seat_of J.base (J.base key.first.value) key.seats _ c.args.place.now.me.0 c.requires.room)
