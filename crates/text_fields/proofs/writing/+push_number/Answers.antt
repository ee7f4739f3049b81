use Rattle.std.proofs.Common.{arith}
use Rattle.text_fields.proofs.Steps.{hex_last}
use Rattle.text_fields.proofs.writing.+push_number.Goals as goal

pub returns : goal.returns
returns t c =
    hex_last c.args.digits c.args.number c.digit.result c.args.out.now.items c.push_number.new.out.items c.push.new.self.items (omega arith)
    c.in_ok-push_number.ensures c.in_ok-push.ensures.items c.digit.ensures
