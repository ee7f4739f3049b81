use Rattle.mcs51_entry.proofs.ComingLemmas.{comes, frame_so, source_below}
use Rattle.mcs51_entry.proofs.EntryLemmas.{covered, entered_form, shown}
use Rattle.mcs51_entry.proofs.laws.interrupt_laws.Goals as goal

pub returns : goal.returns
returns c =
    let laws = c.instruction_laws.ensures in
    assumption (comes laws, covered laws, shown laws, entered_form laws, frame_so laws, source_below)
