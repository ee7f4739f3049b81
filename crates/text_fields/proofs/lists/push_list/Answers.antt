use Rattle.std.proofs.Common.{refl, arith}
use Rattle.text_fields.proofs.Steps.{list_pushed}
use Rattle.text_fields.proofs.lists.push_list.Goals as goal

pub returns : goal.returns
returns g c =
    list_pushed (g.F.Field.field c.args.field.now) c.args.between c.args.values.now _ c.first-item.result c.loop-value.value-index c.args.out.now.items
    c.push.new.out.items c.loop-value.out.items
    (omega (arith, c.in-len1-up.len_at_least)) c.first-item.is refl (omega (arith, c.loop-value-test.false)) c.in_ok-push.ensures c.loop-value.invariant
