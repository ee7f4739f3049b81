use Rattle.std.proofs.Common.{◌≡◌, ◌∙◌, ap, subst, sym, List, []}
use Rattle.std.proofs.Math.Path.{ap₂}
use Rattle.std.specs.List.{AllByRecursion}
use Rattle.book_rules.specs.Machine.{BookState, Done, Held}
use Rattle.book_rules.specs.Sound.{IsThere}
use Rattle.round_core.specs.Renewal.{with_rows, with_works}
use Rattle.round_core.specs.Shown.{AreDistinct}
use Rattle.round_core.proofs.BeginningLemmas.{beginning-shown, rows-are, works-are}
use Rattle.round_core.proofs.parts.Parts.begin.Goals as goal

abbrev with_none_out : {A : Type 0} → List (Held A) → List (Done A) → BookState A
with_none_out nodes done = record { nodes = nodes; done = done; out = [] }

pub begin_units-requires-clause-there : goal.begin_units-requires-clause-there
begin_units-requires-clause-there g c =
    let rows = c.args.rows.items in
    let nodes = c.in_ok-begin_nodes.ensures.nodes ∙ ap (λ hs. with_rows hs rows) c.empty-parts.ensures.nodes ∙ rows-are rows c.requires.distinct in
    subst (λ hs. AllByRecursion (λ pair. IsThere hs pair.0) c.args.done.items) (sym nodes) c.requires.there

pub returns-clause-state : goal.returns-clause-state
returns-clause-state g c =
    let rows = c.args.rows.items in
    let done = c.args.done.items in
    ap₂ (λ hs ds. with_none_out hs ds)
    (c.in_ok-begin_units.ensures.nodes ∙ c.in_ok-begin_nodes.ensures.nodes ∙ ap (λ hs. with_rows hs rows) c.empty-parts.ensures.nodes
    ∙ rows-are rows c.requires.distinct)
    (c.in_ok-begin_units.ensures.works ∙ ap (λ ds. with_works ds done) c.in_ok-begin_nodes.ensures.works ∙ works-are done c.requires.once)

pub returns-clause-shows : goal.returns-clause-shows
returns-clause-shows g c =
    let rows = c.args.rows.items in
    let nodes = c.in_ok-begin_units.ensures.nodes ∙ c.in_ok-begin_nodes.ensures.nodes ∙ ap (λ hs. with_rows hs rows) c.empty-parts.ensures.nodes
    ∙ rows-are rows c.requires.distinct in
    beginning-shown _ (subst (λ hs. AreDistinct hs) (sym nodes) c.requires.distinct) c.in_ok-begin_units.ensures.begins
