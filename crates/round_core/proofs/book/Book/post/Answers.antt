use Rattle.std.proofs.Common.{sym, subst}
use Rattle.round_core.specs.Ahead.{IsAhead}
use Rattle.round_core.proofs.book.Book.post.Goals as goal

pub post_ahead-requires-clause-ahead : goal.post_ahead-requires-clause-ahead
post_ahead-requires-clause-ahead g c κs within =
    subst (λ rows. IsAhead (g.C.Chip.analysis c.args.self.now.base) c.args.done rows) (sym c.none.ensures) tt
