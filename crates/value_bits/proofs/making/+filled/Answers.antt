use Rattle.std.proofs.Common.{arith}
use Rattle.value_bits.proofs.Fillings.{filled_none, filled_more}
use Rattle.value_bits.proofs.making.+filled.Goals as goal

pub returns-in-empty-clause-value : goal.returns-in-empty-clause-value
returns-in-empty-clause-value t c = let none = filled_none c.args.given c.args.all.now (omega arith) in cc

pub returns-in-len1-up-clause-value : goal.returns-in-len1-up-clause-value
returns-in-len1-up-clause-value t c = let more = filled_more c.args.given c.args.all.now (omega arith) in cc
