use Rattle.std.proofs.Common.{sym, Ok, Err}
use Rattle.mcs51_decode.specs.declared.refusal.NoInstr.TheVariants.{OffImage, Excluded}
use Rattle.mcs51_chip.proofs.Deciding.{instruction_runs, entry_comes}
use Rattle.mcs51_chip.proofs.laws.the_table_decides.Goals as goal

pub returns-clause-runs : goal.returns-clause-runs
returns-clause-runs c = λ image s choices left instr len whole bytes none there. instruction_runs image s choices left (Ok (instr, len)) none
    (sym (c.decoding_laws.ensures.one image s.pc (Ok (instr, len)) whole bytes there))

pub returns-clause-lacks : goal.returns-clause-lacks
returns-clause-lacks c = λ image s choices left at whole bytes none there. instruction_runs image s choices left (Err (OffImage at)) none
    (sym (c.decoding_laws.ensures.one image s.pc (Err (OffImage at)) whole bytes there))

pub returns-clause-excluded : goal.returns-clause-excluded
returns-clause-excluded c = λ image s choices left whole bytes none there. instruction_runs image s choices left (Err Excluded) none
    (sym (c.decoding_laws.ensures.one image s.pc (Err Excluded) whole bytes there))

pub returns-clause-enters : goal.returns-clause-enters
returns-clause-enters c = entry_comes
