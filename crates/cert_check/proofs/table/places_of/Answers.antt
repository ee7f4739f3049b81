use Rattle.std.proofs.Common.{◌++◌, ◌+◌, drop, ap, ◌∙◌}
use Rattle.indexmap.proofs.CallerLemmas.{insert_entry-new}
use Rattle.cert_check.specs.Table.{placed}
use Rattle.cert_check.proofs.TableLemmas.{flips_from, none_yet, one_placed, same_test}
use Rattle.cert_check.proofs.table.places_of.Goals as goal

pub loop-place-preserved : goal.loop-place-preserved
loop-place-preserved g c =
    let same = same_test _ c.equal_nodes_are_one.ensures.nodes c.tests_tell_which_are_one.ensures.nodes in
    let flips = flips_from c.tests_tell_which_are_one.ensures.nodes in
    let row = c.index-rows-place.result in
    let none = none_yet _ same flips c.args.rows.now c.loop-place.places.entries c.loop-place.place
    row c.loop-place-test.true c.index-rows-place.is c.loop-place.invariant c.requires in
    let added = c.in_ok-insert.ensures.entries ∙ insert_entry-new _ c.loop-place.places row.0 c.loop-place.place none in
    ap (λ es. es ++ placed (c.loop-place.place + 1) (drop (c.loop-place.place + 1) c.args.rows.now)) added
    ∙ one_placed c.args.rows.now c.loop-place.places.entries c.loop-place.place row c.loop-place-test.true c.index-rows-place.is c.loop-place.invariant
