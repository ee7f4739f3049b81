use Rattle.std.proofs.Common.{sym, Ok, Err}
use Rattle.msp430_decode.specs.declared.refusal.NoInstr.TheVariants.{OffImage, Excluded}
use Rattle.msp430_chip.specs.State.{register_of}
use Rattle.msp430_chip.proofs.Deciding.{instruction_runs, entry_comes}
use Rattle.msp430_chip.proofs.laws.the_table_decides.Goals as goal

pub returns-clause-runs : goal.returns-clause-runs
returns-clause-runs c = λ device s choices left instr len whole image none there. instruction_runs device s choices left (Ok (instr, len)) none
    (sym (c.decoding_laws.ensures.one device.image (register_of s 0) (Ok (instr, len)) whole image there))

pub returns-clause-lacks : goal.returns-clause-lacks
returns-clause-lacks c = λ device s choices left at whole image none there. instruction_runs device s choices left (Err (OffImage at)) none
    (sym (c.decoding_laws.ensures.one device.image (register_of s 0) (Err (OffImage at)) whole image there))

pub returns-clause-excluded : goal.returns-clause-excluded
returns-clause-excluded c = λ device s choices left whole image none there. instruction_runs device s choices left (Err Excluded) none
    (sym (c.decoding_laws.ensures.one device.image (register_of s 0) (Err Excluded) whole image there))

pub returns-clause-enters : goal.returns-clause-enters
returns-clause-enters c = entry_comes
