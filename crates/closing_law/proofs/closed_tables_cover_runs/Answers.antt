use Rattle.closing_law.proofs.Closing.{covers_runs_lem}
use Rattle.closing_law.proofs.closed_tables_cover_runs.Goals as goal

pub returns : goal.returns
returns g c = λ base table program formed closed.
    covers_runs_lem (g.C.LawfulChip.machine base) (g.C.Chip.analysis base) (g.C.LawfulChip.covers base) (c.laws.ensures base program)
    (c.order_laws.ensures base program) table formed closed
