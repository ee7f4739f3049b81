use Rattle.std.proofs.Common.{◌≡◌, ◌++◌, ◌∙◌, ap, arith, get_or}
use Rattle.text_fields.specs.Fronts.{named_texts}
use Rattle.value_text.specs.Words.{word_text}
use Rattle.msp430_fields.specs.Places.{place_field}
use Rattle.msp430_fields.specs.States.{register_names}
use Rattle.msp430_fields.proofs.RegisterLemmas.{texts_go_on}
use Rattle.msp430_fields.proofs.registers.push_registers.Goals as goal

pub loop-i-preserved : goal.loop-i-preserved
loop-i-preserved c =
    let text = word_text 4 place_field in
    let pushed : c.push_named.new.out.items ≡ c.loop-i.out.items ++ (c.name_at.result.now ++ text (get_or c.args.registers.now c.loop-i.i
    c.index-registers-i.result)) = c.in_ok-push_named.ensures in
    texts_go_on 32 text register_names c.args.registers.now c.loop-i.i c.index-registers-i.result c.loop-i.out.items c.push_named.new.out.items
    c.push.new.self.items (c.args.out.now.items ++ named_texts 32 text register_names c.args.registers.now) c.loop-i-test.true
    (omega (arith, c.type_inv.registers, c.loop-i-test.true)) c.loop-i.invariant
    (pushed ∙ ap (λ name. c.loop-i.out.items ++ (name ++ text (get_or c.args.registers.now c.loop-i.i c.index-registers-i.result))) c.name_at.ensures)
    c.in_ok-push.ensures.items
