use Rattle.std.proofs.Common.{refl, subst, sym, ◌∙◌, ap}
use Rattle.book_rules.specs.Counts.{seat_of}
use Rattle.turn_table.specs.Events.{AllBelow}
use Rattle.turn_table.specs.Shown.{seats_known}
use Rattle.worker_crew.specs.Turns.{AreAnswered, EachAnswered}
use Rattle.worker_crew.proofs.Turns.{each_under}
use Rattle.worker_crew.proofs.crew.fixpoint.Goals as goal

pub returns-clause-seats : goal.returns-clause-seats
returns-clause-seats g c =
    subst (λ seats. AllBelow seat_of seats c.close-book.result.journal)
    (c.work_beside-seat.ensures.takes_in.seats ∙ ap (λ s. s.seats) c.in_ok-table.ensures.seat) c.close-book.ensures.below

pub returns-clause-answered : goal.returns-clause-answered
returns-clause-answered g c = λ number.
    let first : EachAnswered (seats_known c.in_ok-table.seat) = subst (λ s. EachAnswered (seats_known s)) (sym c.in_ok-table.ensures.seat) (refl, tt) in
    subst AreAnswered (sym (c.close-book.ensures.events number))
    (each_under number (seats_known c.work_beside-seat.result) (c.work_beside-seat.ensures.answered first))
