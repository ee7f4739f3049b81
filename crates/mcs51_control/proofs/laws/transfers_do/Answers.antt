use Rattle.mcs51_control.proofs.Transfers.{absolute_call_does, absolute_jump_does, indirect_jump_does, interrupt_return_does, long_call_does, long_jump_does, return_does}
use Rattle.mcs51_control.proofs.laws.transfers_do.Goals as goal

pub returns : goal.returns
returns c =
    let laws = c.instruction_laws.ensures in
    record {
      absolute_jump = absolute_jump_does laws;
      long_jump = long_jump_does laws;
      indirect_jump = indirect_jump_does laws;
      absolute_call = absolute_call_does laws;
      long_call = long_call_does laws;
      back = return_does laws;
      back_from_interrupt = interrupt_return_does laws;
    }
