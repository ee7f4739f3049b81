use Rattle.msp430_flow.proofs.following.Msp430ChipFlow.enter.Goals as goal

pub add_entry_items-requires-clause-vector : goal.add_entry_items-requires-clause-vector
add_entry_items-requires-clause-vector c = c.interrupt_laws.ensures.below c.args.self.now.device c.args.at.now c.args.coming.now c.requires

pub handler_of-handler-requires : goal.handler_of-handler-requires
handler_of-handler-requires c = c.interrupt_laws.ensures.below c.args.self.now.device c.args.at.now c.args.coming.now c.requires
