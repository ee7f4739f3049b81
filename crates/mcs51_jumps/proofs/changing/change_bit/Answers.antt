use Rattle.std.proofs.Common.{◌∙◌, ap, sym}
use Rattle.mcs51_state.specs.declared.status.Status.{Status}
use Rattle.mcs51_state.specs.Writing.{status_written}
use Rattle.mcs51_jumps.proofs.ChangedBits.{of_status}
use Rattle.mcs51_jumps.proofs.changing.change_bit.Goals as goal

pub returns-then-is_of_status : goal.returns-then-is_of_status
returns-then-is_of_status g c =
    let a = c.args.state.now in
    c.set_status.ensures ∙ ap (λ (psw : Status). status_written psw a) c.status_changed-made.ensures
    ∙ of_status c.args.framed c.args.operation c.args.bit a (sym c.is_of_status.ensures ∙ c.if-is_of_status.true)
