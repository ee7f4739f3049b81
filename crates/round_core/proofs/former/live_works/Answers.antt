use Rattle.std.proofs.Common.{◌≤◌, ◌∙◌, ap, map, length, not, rules, arith}
use Rattle.std.specs.Prelude.{filter}
use Rattle.std.proofs.lemmas.Fn.{filter_same}
use Rattle.round_core.specs.Former.{is_no_unit}
use Rattle.book_rules.specs.Kept.{is_live}
use Rattle.round_core.specs.Rows.{value_part}
use Rattle.round_core.specs.Works.{done_of}
use Rattle.round_core.proofs.FormerLemmas.{keys-rows, left-live, marked-length}
use Rattle.round_core.proofs.former.live_works.Goals as goal

pub returns : goal.returns
returns g c = λ rows are items units.
    let live = is_live (map done_of rows) in
    let i = c.loop-place.invariant in
    let marked_now = i.are_marked rows are items in
    let same = ap length marked_now ∙ marked-length live c.loop-place.place (map value_part rows) in
    let len = i.len in
    let t = c.loop-place-test.false in
    let small : length (map value_part rows) ≤ c.loop-place.place = omega arith in
    filter_same _ _ _ (λ x b f' k. search rules) _ _ c.retain.ensures.filtered
    ∙ ap (filter (λ pair. not (is_no_unit pair.0))) marked_now
    ∙ left-live live c.loop-place.place (map value_part rows) small (keys-rows rows units)
