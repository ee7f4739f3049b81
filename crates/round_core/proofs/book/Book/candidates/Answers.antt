use Rattle.std.proofs.Common.{sym, subst}
use Rattle.book_rules.specs.Claimable.{HasAtLeast}
use Rattle.book_rules.specs.Kept.{Kept}
use Rattle.book_rules.specs.Machine.{replay}
use Rattle.round_core.proofs.book.Book.candidates.Goals as goal

pub returns : goal.returns
returns g c = λ least fits h.
    let m = g.C.Chip.analysis (g.C.Chip.base c.self.inside.chip.value) in
    let b = replay m c.self.inside.parts.turns.journal in
    c.candidates.ensures b least fits c.self.invariant.shows
    (subst (λ (k : Kept _). HasAtLeast (replay (g.C.Chip.analysis k.base) k.journal) least) (sym c.self.view_is) h)
