use Rattle.std.proofs.Common.{◌≡◌, ◌∙◌, ◌++◌, ap, append_assoc, option_to_list, subst}
use Rattle.fact_table.specs.Exchange.{tickets_of}
use Rattle.fact_table.specs.Seats.{AreOutTo}
use Rattle.book_rows.proofs.Tickets.{back_out}
use Rattle.book_rows.proofs.exchanges.exchange_two.Goals as goal

pub returns-clause-tickets : goal.returns-clause-tickets
returns-clause-tickets g c =
    let r = c.exchange-exchanged.result in
    let new = c.exchange-exchanged.new.seat in
    let first = option_to_list c.pop-first.result in
    let second = option_to_list c.pop-second.result in
    let left = c.pop-first.new.self.items in
    let whole : r.tickets.items ≡ left ++ (first ++ second) =
    c.pop-second.ensures.items ∙ ap (λ ts. ts ++ second) c.pop-first.ensures.items ∙ append_assoc left first second in
    back_out g.C.Chip.analysis new left (first ++ second)
    (subst (λ ts. AreOutTo g.C.Chip.analysis new ts) whole
    (back_out g.C.Chip.analysis new (tickets_of r.unposted.items) r.tickets.items c.exchange-exchanged.ensures.exchanges.still_out))
