use Rattle.std.proofs.Common.{◌≡◌, ◌∙◌, ◌<◌, Some, [], arith, ap, ap₂, get_or, length, sym}
use Rattle.std.proofs.lemmas.List.{get_or_default}
use Rattle.entry_value.specs.Words.{word_within}
use Rattle.value_text.specs.Words.{word_text}
use Rattle.node_fields.specs.Outside.{told}
use Rattle.msp430_fields.specs.Places.{place_field, register_rows}
use Rattle.msp430_fields.proofs.OutsideLemmas.{registers_found, registers_go_on}
use Rattle.msp430_fields.proofs.outside.registers_outside.Goals as goal

pub returns-then-not-within : goal.returns-then-not-within
returns-then-not-within c =
    let i = c.loop-i.i in
    let in_new : i < length c.args.new.now = omega (arith, c.type_inv.new, c.loop-i-test.true) in
    let in_held : i < length c.args.held.now = omega (arith, c.type_inv.held, c.loop-i-test.true) in
    let new = get_or c.args.new.now i c.index-new-i-then-not-within.result in
    let held = get_or c.args.held.now i c.index-held-i-then-not-within.result in
    let tested : c.within.result ≡ word_within (get_or c.args.new.now i c.index-new-i.result) (get_or c.args.held.now i c.index-held-i.result) =
    c.within.ensures.value in
    let within : word_within new held ≡ c.within.result =
    ap₂ word_within (get_or_default c.args.new.now i c.index-new-i-then-not-within.result c.index-new-i.result in_new)
    (get_or_default c.args.held.now i c.index-held-i-then-not-within.result c.index-held-i.result in_held)
    ∙ sym tested in
    let told_so : c.in_ok-told.field-0 ≡ told c.register_name.result.now (word_text 4 place_field) new held = c.in_ok-told.ensures in
    sym (c.loop-i.invariant
    ∙ registers_found register_rows c.args.new.now c.args.held.now i (0, []) c.index-new-i-then-not-within.result c.index-held-i-then-not-within.result
    c.loop-i-test.true in_new in_held (within ∙ c.if-not-within.true)
    ∙ ap (λ name. Some (told name (word_text 4 place_field) new held)) (sym c.register_name.ensures) ∙ ap (λ field. Some field) (sym told_so))

pub loop-i-preserved : goal.loop-i-preserved
loop-i-preserved c =
    let i = c.loop-i.i in
    let within : c.within.result ≡ word_within (get_or c.args.new.now i c.index-new-i.result) (get_or c.args.held.now i c.index-held-i.result) =
    c.within.ensures.value in
    c.loop-i.invariant
    ∙ registers_go_on register_rows c.args.new.now c.args.held.now i (0, []) c.index-new-i.result c.index-held-i.result c.loop-i-test.true
    (omega (arith, c.type_inv.new, c.loop-i-test.true)) (omega (arith, c.type_inv.held, c.loop-i-test.true)) (sym within ∙ c.if-not-within.false)
