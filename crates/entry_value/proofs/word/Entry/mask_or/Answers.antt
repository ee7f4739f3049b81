use Rattle.std.proofs.Common.{Some}
use Rattle.entry_value.proofs.Masks.{from_entry_or}
use Rattle.entry_value.proofs.word.Entry.mask_or.Goals as goal

pub returns-clause-holds : goal.returns-clause-holds
returns-clause-holds c = λ first v h. from_entry_or first (Some c.args.self.now) v c.args.m h
