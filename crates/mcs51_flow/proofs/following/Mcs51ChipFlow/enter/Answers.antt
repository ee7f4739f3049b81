use Rattle.mcs51_flow.proofs.following.Mcs51ChipFlow.enter.Goals as goal

pub add_entry_items-requires : goal.add_entry_items-requires
add_entry_items-requires c = c.interrupt_laws.ensures.below c.args.at.now c.args.coming.now c.requires

pub handler_of-requires : goal.handler_of-requires
handler_of-requires c = c.interrupt_laws.ensures.below c.args.at.now c.args.coming.now c.requires
