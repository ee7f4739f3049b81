use Rattle.std.proofs.Common.{◌∙◌, ap, map}
use Rattle.book_rules.specs.Kept.{Kept, nodes_of, works_of}
use Rattle.book_rules.specs.Machine.{replay}
use Rattle.round_core.proofs.book.Book.into_parts.Goals as goal

pub returns-clause-nodes : goal.returns-clause-nodes
returns-clause-nodes g c =
    c.into_vecs.ensures.nodes ∙ ap (λ hs. map (λ h. (h.node, h.state)) hs) c.self.invariant.shows.nodes
    ∙ ap (λ (k : Kept _). nodes_of (replay (g.C.Chip.analysis k.base) k.journal)) c.self.view_is

pub returns-clause-works : goal.returns-clause-works
returns-clause-works g c =
    c.into_vecs.ensures.works ∙ ap (λ ds. map (λ d. (d.unit, d.work)) ds) c.self.invariant.shows.done
    ∙ ap (λ (k : Kept _). works_of (replay (g.C.Chip.analysis k.base) k.journal)) c.self.view_is
