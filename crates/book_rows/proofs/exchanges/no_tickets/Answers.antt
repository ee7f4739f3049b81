use Rattle.book_rows.proofs.Tickets.{none_out}
use Rattle.book_rows.proofs.exchanges.no_tickets.Goals as goal

pub returns : goal.returns
returns g c = none_out g.C.Chip.analysis (g.C.Chip.base c.args.chip.now) c.args.seat.now c.requires
