use Rattle.std.proofs.Common.{length, ◌≡◌, ◌<◌, sym, arith}
use Rattle.std.proofs.lemmas.Bool.Decides.{nat_tests}
use Rattle.ihex_read.proofs.StageLemmas.{over_more, over_fault, going_more, stands_going}
use Rattle.ihex_read.proofs.stage.Progress.accept.Goals as goal

pub returns-then-is_empty-clause-ok : goal.returns-then-is_empty-clause-ok
returns-then-is_empty-clause-ok c = λ tail lines stands goes.
    let empty : length c.args.line.now ≡ 0 = grind (arith, nat_tests) in
    over_more c.args.self.now.loader.rules tail lines c.args.line.now _ _ _ c.if-self.true empty stands goes

pub returns-else-is_empty-clause-fault : goal.returns-else-is_empty-clause-fault
returns-else-is_empty-clause-fault c = λ tail lines stands.
    let some : 0 < length c.args.line.now = grind (arith, nat_tests) in
    over_fault c.args.self.now.loader.rules lines c.args.line.now _ c.if-self.true some

pub returns-clause-ok : goal.returns-clause-ok
returns-clause-ok c = λ tail lines stands goes.
    let going = stands_going c.args.self.now.loader.rules tail lines _ _ _ c.if-self.false stands in
    let accepted = c.in_ok-self.ensures.fault lines going.made in
    rw c.in_ok-self.ensures.rules (going_more c.args.self.now.loader.rules tail lines c.args.line.now _ _ _ _ _ going (sym accepted) (c.in_ok-self.ensures.made lines going.made)
    (sym c.in_ok-self.ensures.ends))
