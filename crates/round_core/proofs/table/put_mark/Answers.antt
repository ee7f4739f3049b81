use Rattle.std.proofs.Common.{◌∙◌, sym}
use Rattle.round_core.proofs.TableLemmas.{insert-there}
use Rattle.round_core.proofs.table.put_mark.Goals as goal

pub returns-in-Some-clause-entries : goal.returns-in-Some-clause-entries
returns-in-Some-clause-entries g c = insert-there g.K.PartialEq.eq c.args.key c.args.mark c.args.marks.now.entries c.in-Some.place (sym c.requires.place ∙ c.in-Some.is)
