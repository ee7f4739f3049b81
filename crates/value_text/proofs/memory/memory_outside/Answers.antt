use Rattle.std.proofs.Common.{◌≡◌, ◌∙◌, ap, sym}
use Rattle.value_text.specs.Ranges.{ranges_text}
use Rattle.value_text.proofs.MemoryLemmas.{ranges_told, text_alone}
use Rattle.value_text.proofs.memory.memory_outside.Goals as goal

pub returns-then-not-within-2 : goal.returns-then-not-within-2
returns-then-not-within-2 g c =
    let width = g.P.Places.width c.args.places in
    let new = c.args.touched.now in
    let held = c.args.kept.now in
    let posted : c.push_ranges.new.out.items ≡ ranges_text c.digits.result new =
    text_alone c.new-posted-then-not-within-2.result.items (ranges_text c.digits.result new) c.push_ranges.new.out.items
    c.new-posted-then-not-within-2.ensures.items c.in_ok-push_ranges.ensures in
    let kept : c.push_ranges-then-not-within-2.new.out.items ≡ ranges_text c.digits-then-not-within-2.result held =
    text_alone c.new-text-then-not-within-2.result.items (ranges_text c.digits-then-not-within-2.result held) c.push_ranges-then-not-within-2.new.out.items
    c.new-text-then-not-within-2.ensures.items c.in_ok-push_ranges-2.ensures in
    ranges_told width (g.P.Places.names c.args.places) ((g.M.Cells.map c.args.new.now).cells, new) ((g.M.Cells.map c.args.held.now).cells, held)
    c.in_ok-named_field-2.field-0 c.push_ranges.new.out.items c.push_ranges-then-not-within-2.new.out.items
    (sym c.within.ensures.value ∙ c.if-not-within.false) (sym c.within-2.ensures ∙ c.if-not-within-2.true) c.in_ok-named_field-2.ensures
    (posted ∙ ap (λ digits. ranges_text digits new) c.digits.ensures.value)
    (kept ∙ ap (λ digits. ranges_text digits held) c.digits-then-not-within-2.ensures.value)
