use Rattle.std.proofs.Common.{Ok, ap, ◌∙◌}
use Rattle.promises.proofs.Sites.{told_line}
use Rattle.promises.proofs.reading.Reading.read_line.Goals as goal

pub returns-clause-told : goal.returns-clause-told
returns-clause-told g c =
    told_line c.fault_of.new.self.told c.fault_of.new.self.list.items c.args.self.now.list.items c.push_all.new.list.items c.args.number
    c.in-Some.promises.items c.as_slice.result.now c.as_slice.ensures.value c.in_ok-push_all.ensures c.fault_of.ensures.list
    (c.fault_of.ensures.told (c.in_ok-fault.was ∙ ap Ok c.in_default-2.is))
