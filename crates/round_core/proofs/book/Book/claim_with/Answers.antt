use Rattle.std.proofs.Common.{sym, subst}
use Rattle.round_core.specs.Shown.{IsBook}
use Rattle.round_core.proofs.ClaimEvent.{answer-is, book-stays, first_out}
use Rattle.round_core.proofs.book.Book.claim_with.Goals as goal

pub invariant_of-self-2 : goal.invariant_of-self-2
invariant_of-self-2 g c =
    (first_out (g.C.Chip.analysis (g.C.Chip.base c.self.inside.chip.value)) c.self.inside.parts c.take_first.new.self c.take_out.new.self c.args.seat
    c.in_ok-place.field-0 c.in-Some.place c.in-Some.unit c.in_ok-ticket.ticket c.self.invariant c.take_first.ensures.shown c.take_first.ensures.journal
    (c.in_ok-place.ensures.found _ c.self.invariant.shows) c.in-Some.is c.in_ok-ticket.ensures c.in_default-take_out.ensures.journal c.in_default-take_out.ensures.out).0

pub returns-clause-answer : goal.returns-clause-answer
returns-clause-answer g c =
    let base = g.C.Chip.base c.self.inside.chip.value in
    let p' = c.take_out.new.self in
    let t = c.in_ok-ticket.ticket in
    let k = c.in_ok-ticket.ensures in
    let taken = first_out (g.C.Chip.analysis base) c.self.inside.parts c.take_first.new.self p' c.args.seat
    c.in_ok-place.field-0 c.in-Some.place c.in-Some.unit t c.self.invariant c.take_first.ensures.shown c.take_first.ensures.journal
    (c.in_ok-place.ensures.found _ c.self.invariant.shows) c.in-Some.is k c.in_default-take_out.ensures.journal c.in_default-take_out.ensures.out in
    answer-is (λ base. g.C.Chip.analysis base) c.args.self.now base c.self.inside.parts.turns.journal p'.turns.journal c.args.seat c.in-Some.unit t
    c.self.view_is taken.1 k.unit_is k.seat_is taken.2 taken.3

pub invariant_of-self-in-Err : goal.invariant_of-self-in-Err
invariant_of-self-in-Err g c =
    let m = g.C.Chip.analysis (g.C.Chip.base c.self.inside.chip.value) in
    subst (λ p. IsBook m p.turns.journal p) (sym c.in-Err.ensures.refused)
    (book-stays m c.self.inside.parts c.take_first.new.self c.take_first.ensures.shown c.take_first.ensures.journal c.self.invariant)

pub invariant_of-self-in_err-ticket : goal.invariant_of-self-in_err-ticket
invariant_of-self-in_err-ticket g c = book-stays _ _ _ c.take_first.ensures.shown c.take_first.ensures.journal c.self.invariant

pub invariant_of-self-in_default : goal.invariant_of-self-in_default
invariant_of-self-in_default g c = book-stays _ _ _ c.take_first.ensures.shown c.take_first.ensures.journal c.self.invariant
