use Rattle.std.proofs.Common.{◌≡◌, ◌+◌, ◌∷◌, [], length, length-append, arith, ap, ◌∙◌}
use Rattle.text_fields.specs.Numbers.{hex_number}
use Rattle.text_fields.specs.Lists.{list_bad, list_last, list_last_bad, list_more}
use Rattle.value_text.proofs.ListLemmas.{no_list, tested, too_many}
use Rattle.value_text.proofs.sets.read_values.Goals as goal

pub returns-in_default-number : goal.returns-in_default-number
returns-in_default-number c =
    no_list c.args.digits c.args.text.now (c.loop-first.invariant.0
    ∙ list_bad (hex_number c.args.digits) 44 c.loop-first.values c.loop-first.rest.now c.in-Some.first.now c.in-Some.behind.now c.in-Some.ensures.parts
    c.in_default-number.ensures.value)

pub returns-then-len-eq-LONGEST : goal.returns-then-len-eq-LONGEST
returns-then-len-eq-LONGEST c =
    too_many c.args.digits c.loop-first.values c.args.text.now c.loop-first.rest.now
    (omega (arith, c.if-len-eq-LONGEST.true, c.len.ensures.length)) c.loop-first.invariant.0

pub loop-first-preserved : goal.loop-first-preserved
loop-first-preserved c =
    let longer : length c.push.new.self ≡ length c.loop-first.values + 1 =
    ap length c.push.ensures ∙ omega (arith, length-append c.loop-first.values (c.in-Some-number.value ∷ [])) in (
      c.loop-first.invariant.0
          ∙ list_more (hex_number c.args.digits) 44 c.loop-first.values c.push.new.self c.loop-first.rest.now c.in-Some.first.now c.in-Some.behind.now
          c.in-Some-number.value
          c.in-Some.ensures.parts c.in-Some-number.ensures.value c.push.ensures,
      omega (arith, longer, c.loop-first.invariant.1, c.if-len-eq-LONGEST.false, c.len.ensures.length),
    )

pub returns-in_default-number-2 : goal.returns-in_default-number-2
returns-in_default-number-2 c =
    no_list c.args.digits c.args.text.now (c.loop-first.invariant.0
    ∙ list_last_bad (hex_number c.args.digits) 44 c.loop-first.values c.loop-first.rest.now c.in_default.ensures.parts c.in_default-number-2.ensures.value)

pub returns-then-len-eq-LONGEST-2 : goal.returns-then-len-eq-LONGEST-2
returns-then-len-eq-LONGEST-2 c =
    too_many c.args.digits c.loop-first.values c.args.text.now c.loop-first.rest.now
    (omega (arith, c.if-len-eq-LONGEST-2.true, c.len-2.ensures.length)) c.loop-first.invariant.0

pub returns : goal.returns
returns c =
    c.ascending.ensures
    ∙ tested c.args.digits c.loop-first.values c.push-2.new.self c.args.text.now c.in-Some-number-2.value c.loop-first.invariant.1
    (λ full. absurd (omega (arith, full, c.if-len-eq-LONGEST-2.false, c.len-2.ensures.length))) c.push-2.ensures
    (c.loop-first.invariant.0
    ∙ list_last (hex_number c.args.digits) 44 c.loop-first.values c.push-2.new.self c.loop-first.rest.now c.in-Some-number-2.value c.in_default.ensures.parts
    c.in-Some-number-2.ensures.value c.push-2.ensures)
