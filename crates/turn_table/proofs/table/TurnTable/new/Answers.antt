use Rattle.std.proofs.Common.{◌∷◌, [], ◌++◌, sym, ap, ◌∙◌, subst, Some}
use Rattle.atomic_table.specs.Table.{opening}
use Rattle.turn_table.specs.Rule.{Kept}
use Rattle.turn_table.specs.Views.{seated, opening_seat}
use Rattle.turn_table.proofs.Comings.{opens}
use Rattle.turn_table.proofs.table.TurnTable.new.Goals as goal

pub new-requires : goal.new-requires
new-requires g c =
    let J = g.B.Journaled in
    let base = J.base c.of.result.value in
    let items = c.in_ok-push.ensures.items ∙ ap (λ l. l ++ Some c.args.value ∷ []) c.new-slots.ensures.items in
    subst (λ l. Kept J.history J.seat_of J.base base c.args.seats (opening (0 ∷ 0 ∷ []) l (seated (opening_seat base c.args.seats)))) (sym items)
    (opens J.history J.seat_of J.base base c.args.seats c.args.value c.requires.empty (ap J.base (sym c.of.ensures)) c.requires.some_seat c.ranges.seats.fits)
