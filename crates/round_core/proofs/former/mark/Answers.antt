use Rattle.std.proofs.Common.{◌∙◌, ap, map, sym}
use Rattle.std.specs.Map.{values_of}
use Rattle.book_rules.specs.Kept.{is_live}
use Rattle.round_core.specs.Rows.{value_part}
use Rattle.round_core.specs.Works.{done_of}
use Rattle.round_core.proofs.FormerLemmas.{marked-values, same_at, marks-dead, marks-live, values-rows}
use Rattle.round_core.proofs.former.mark.Goals as goal

pub returns-then-not-is_live_in-clause-marked : goal.returns-then-not-is_live_in-clause-marked
returns-then-not-is_live_in-clause-marked g c = λ rows are items.
    let live = is_live (map done_of rows) in
    let values = ap values_of (c.as_slice.ensures.value ∙ items) ∙ marked-values live c.args.place (map value_part rows) ∙ values-rows rows in
    marks-dead live c.args.works.now.items c.args.place (map value_part rows) c.index_mut.result.now items c.requires c.index_mut.ensures.value
    (ap (λ pair. live pair.0) (same_at c.args.works.now.items c.args.place c.index_mut.result.now c.index.result.now c.requires c.index_mut.ensures.value c.index.ensures)
    ∙ sym (c.is_live_in.ensures rows are values) ∙ c.if-not-is_live_in.true)

pub returns-else-not-is_live_in-clause-marked : goal.returns-else-not-is_live_in-clause-marked
returns-else-not-is_live_in-clause-marked g c = λ rows are items.
    let live = is_live (map done_of rows) in
    let values = ap values_of (c.as_slice.ensures.value ∙ items) ∙ marked-values live c.args.place (map value_part rows) ∙ values-rows rows in
    marks-live live c.args.works.now.items c.args.place (map value_part rows) c.index.result.now items c.requires c.index.ensures
    (sym (c.is_live_in.ensures rows are values) ∙ c.if-not-is_live_in.false)
