use Rattle.std.proofs.Common.{◌∙◌, arith}
use Rattle.value_set.proofs.Gathers.{placed, there, behind, put_ascends, put_longer}
use Rattle.value_set.proofs.gathering.put.Goals as goal

pub returns-then-is_behind-clause-items : goal.returns-then-is_behind-clause-items
returns-then-is_behind-clause-items c = c.push.ensures.items ∙ behind 65536 c.args.value c.args.values.now.items c.as_slice.result.now c.requires.ascending c.as_slice.ensures.value
    (c.is_behind.ensures c.if-is_behind.true)

pub returns-then-is_behind-clause-still : goal.returns-then-is_behind-clause-still
returns-then-is_behind-clause-still c = put_ascends 65536 c.args.value c.args.values.now.items c.push.new.self.items
    (c.push.ensures.items ∙ behind 65536 c.args.value c.args.values.now.items c.as_slice.result.now c.requires.ascending c.as_slice.ensures.value
    (c.is_behind.ensures c.if-is_behind.true)) (omega arith) c.requires.ascending

pub returns-in-Err : goal.returns-in-Err
returns-in-Err c =
    let same = c.insert.ensures.items ∙ placed 65536 c.args.value c.in-Err.place c.as_slice-2.result.now c.args.values.now.items c.as_slice-2.ensures.value
    c.requires.ascending c.in-Err.ensures.position in
    record {
      items = same;
      still = put_ascends 65536 c.args.value c.args.values.now.items c.insert.new.self.items same (omega arith) c.requires.ascending;
      longer = put_longer c.args.value c.args.values.now.items c.insert.new.self.items same;
    }

pub returns-in-Ok : goal.returns-in-Ok
returns-in-Ok c =
    let same = there 65536 c.args.value c.in-Ok.field-0 c.as_slice-2.result.now c.args.values.now.items c.as_slice-2.ensures.value
    c.requires.ascending c.in-Ok.ensures.position in
    record { items = same; still = c.requires.ascending; longer = omega arith }
