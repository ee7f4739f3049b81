use Rattle.std.proofs.Common.{rules, sym, ap, subst}
use Rattle.turn_table.specs.Views.{SeatedAnd}
use Rattle.turn_table.proofs.Moves.{catches}
use Rattle.turn_table.proofs.Comings.{joins}
use Rattle.turn_table.proofs.Seats.{both_seated}
use Rattle.turn_table.proofs.steps.take_in.Goals as goal

pub join_seat-requires : goal.join_seat-requires
join_seat-requires g c = let J = g.B.Journaled in let key = c.args.board.now.key in (
  search rules,
  search rules,
  search rules,
  search rules,
  joins J.history J.seat_of J.base (J.base key.first.value) key.seats _ c.args.place.now.me.0 _ c.args.other.me.0 c.requires.told c.requires.other.0,
)

pub load-requires : goal.load-requires
load-requires g c = let J = g.B.Journaled in let key = c.args.board.now.key in let me = c.join_seat.new.seat.me in (
  search rules,
  search rules,
  catches J.history J.seat_of J.base (J.base key.first.value) key.seats _ _ me.0 me.1
      (subst (λ z. SeatedAnd z (λ _. Unit {0})) (sym (ap (λ z. z.0) c.join_seat.ensures.2)) (both_seated c.args.place.now.me.0 c.args.other.me.0 c.requires.told c.requires.other.0)),
)
