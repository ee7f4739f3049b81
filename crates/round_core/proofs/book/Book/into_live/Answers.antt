use Rattle.std.proofs.Common.{◌∙◌, ap, map, sym, subst}
use Rattle.std.specs.List.{AllByRecursion}
use Rattle.std.specs.Prelude.{◌≡◌, false, filter}
use Rattle.round_core.specs.Former.{is_no_unit}
use Rattle.book_rules.specs.Kept.{Kept, is_live, nodes_of, live_pairs}
use Rattle.book_rules.specs.Machine.{Done, replay}
use Rattle.round_core.proofs.FormerLemmas.{all_some_units}
use Rattle.round_core.proofs.book.Book.into_live.Goals as goal

pub into_live-nodes-requires : goal.into_live-nodes-requires
into_live-nodes-requires g c =
    subst (λ ds. AllByRecursion (λ (d : Done _). is_no_unit d.unit ≡ false) ds) (sym c.self.invariant.shows.done)
    (all_some_units _ (c.works_are_of_locations.ensures (g.C.Chip.base c.self.inside.chip.value) c.self.inside.parts.turns.journal c.self.invariant.legal))

pub returns-clause-nodes : goal.returns-clause-nodes
returns-clause-nodes g c =
    c.into_live-nodes.ensures.nodes ∙ ap (λ hs. map (λ h. (h.node, h.state)) hs) c.self.invariant.shows.nodes
    ∙ ap (λ (k : Kept _). nodes_of (replay (g.C.Chip.analysis k.base) k.journal)) c.self.view_is

pub returns-clause-works : goal.returns-clause-works
returns-clause-works g c =
    c.into_live-nodes.ensures.works
    ∙ ap (λ ds. filter (λ p. is_live ds p.0) (map (λ d. (d.unit, d.work)) ds)) c.self.invariant.shows.done
    ∙ ap (λ (k : Kept _). live_pairs (replay (g.C.Chip.analysis k.base) k.journal)) c.self.view_is
