use Rattle.std.proofs.Common.{◌∙◌, sym}
use Rattle.text_fields.specs.Lists.{list_bad, list_last, list_last_bad, list_more}
use Rattle.text_fields.proofs.lists.read_list.Goals as goal

pub returns-in_default-read : goal.returns-in_default-read
returns-in_default-read g c =
    sym (c.loop-first.invariant ∙ list_bad (g.F.Field.field c.args.field.now) c.args.between c.loop-first.values.items c.loop-first.rest.now
    c.in-Some.first.now c.in-Some.behind.now
    c.in-Some.ensures.parts c.in_default-read.ensures)

pub loop-first-preserved : goal.loop-first-preserved
loop-first-preserved g c =
    c.loop-first.invariant ∙ list_more (g.F.Field.field c.args.field.now) c.args.between c.loop-first.values.items c.push.new.self.items c.loop-first.rest.now
    c.in-Some.first.now c.in-Some.behind.now
    c.in-Some-read.value c.in-Some.ensures.parts c.in-Some-read.ensures c.in_ok-push.ensures.items

pub returns-in_default-read-2 : goal.returns-in_default-read-2
returns-in_default-read-2 g c =
    sym (c.loop-first.invariant ∙ list_last_bad (g.F.Field.field c.args.field.now) c.args.between c.loop-first.values.items c.loop-first.rest.now
    c.in_default.ensures.parts c.in_default-read-2.ensures)

pub returns : goal.returns
returns g c =
    sym (c.loop-first.invariant ∙ list_last (g.F.Field.field c.args.field.now) c.args.between c.loop-first.values.items c.push-2.new.self.items
    c.loop-first.rest.now c.in-Some-read-2.value
    c.in_default.ensures.parts c.in-Some-read-2.ensures c.in_ok-push-2.ensures.items)
