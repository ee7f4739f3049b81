use Rattle.msp430_entry.proofs.ComingLemmas.{comes, frame_so, handler_even, vector_below}
use Rattle.msp430_entry.proofs.EntryLemmas.{covered, entered_form}
use Rattle.msp430_entry.proofs.ShowingLemmas.{hit, shown}
use Rattle.msp430_entry.proofs.laws.interrupt_laws.Goals as goal

pub returns : goal.returns
returns c =
    let laws = c.memory_laws.ensures in
    assumption (comes, covered laws, shown laws, hit laws, entered_form laws, frame_so laws, handler_even, vector_below)
