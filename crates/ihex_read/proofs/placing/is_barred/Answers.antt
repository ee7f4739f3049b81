use Rattle.std.proofs.Common.{sym, ◌∙◌}
use Rattle.std.specs.List.{enumerate_from}
use Rattle.ihex_read.proofs.PlacingLemmas.{barred-row, barred_nowhere}
use Rattle.ihex_read.proofs.placing.is_barred.Goals as goal

pub returns-in-Mcs51 : goal.returns-in-Mcs51
returns-in-Mcs51 c = rw c.in-Mcs51.is (sym (barred_nowhere (enumerate_from c.args.start c.args.bytes.now)))

pub returns-in-Msp430 : goal.returns-in-Msp430
returns-in-Msp430 c =
    let placed = enumerate_from c.args.start c.args.bytes.now in
    rw c.in-Msp430.is (c.stand_in_any.ensures ∙ sym (barred-row c.in-Msp430.ram placed))
